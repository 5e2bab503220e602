-- The text of a run's book, as it is written call by call.
use Rattle.std.proofs.Common.{◌≡◌, ◌+◌, ◌≤◌, ℕ, List, [], ◌∷◌, ◌++◌, length, refl, sym, ap, ◌∙◌, subst}
use Rattle.std.proofs.Common.{Option, Some, None, append_assoc, length-append, arith, take, get_or}
use Rattle.std.proofs.Common.{slice_get, eqb-true, eq-eqb}
use Rattle.std.specs.Prelude.{◌↔◌, Err, IfErr, IfSome, IsTrue, Ok, OnOk, Result, nat_eq, unwrap_or}
use Rattle.std.proofs.lemmas.List.{append-nil, take_more, flat_map_more}
use Rattle.std.proofs.lemmas.Option.{slice_get_within, unwrap_or-slice_get}
use Rattle.std.proofs.lemmas.Grind.{flat_map-append}
use Rattle.std.specs.Io.KnownBytes.{Appends, Keeps}
use Rattle.wall_labels.specs.Known.{AppendsPrefix}
use Rattle.wall_labels.proofs.WallLabelsLemmas.{Appends-then}
use Rattle.wall_policy.specs.Policy.{ChineseWall}
use Rattle.run_model.specs.declared.entry.Entry.{Entry as BookEntry}
use Rattle.run_model.specs.declared.reply.Reply.{Reply}
use Rattle.run_model.specs.Known.{IsKnownReply}
use Rattle.run_model.specs.Runs.{Entry}
use Rattle.audit_book.specs.Text.{book_text, end_words, entry_lines, entry_words, header_words}
use Rattle.audit_book.specs.Text.{line_of}
use Rattle.hall_core.specs.Briefs.{Adds}
use Rattle.hall_core.specs.Halls.{HallValue, HallView, StandsFor, view_of}
use Rattle.hall_core.specs.Machines.{RepliesWith, Stands}
use Rattle.sha2.specs.Hashers.{Holds256}
use Rattle.hall_turn.specs.Machines.{Settles, entries_of}
use Rattle.hall_turn.specs.Receipts.{Extent}
use Rattle.live_book.specs.declared.unbooked.Unbooked.{Unbooked}
use Rattle.live_book.specs.declared.unbooked.Unbooked.TheVariants.{TooLong}
use Rattle.live_book.specs.Books.{IsBooked, IsCut, IsUnbooked, IsWritten, SinkValue}
use Rattle.live_book.specs.Books.{HasCome, StandsWithBook, book_of, text_so_far}
use Rattle.live_book.specs.Writing.{TellsWritten, Writes, WritesAll, WritesPrefix}

-- ## bytes

-- what is written and stays
pub appends_kept : (a b c : Option (List ℕ)) (xs : List ℕ) → Appends a b xs → Keeps b c →
    Appends a c xs
appends_kept None b c xs p k = tt
appends_kept (Some a) None c xs p k = absurd p
appends_kept (Some a) (Some b) None xs p k = absurd k
appends_kept (Some a) (Some b) (Some c) xs p k = k ∙ p

-- all of them are a prefix of them
pub whole_prefix : (a b : Option (List ℕ)) (xs : List ℕ) → Appends a b xs → AppendsPrefix a b xs
whole_prefix a b xs p = (xs, [], append-nil xs, p)

-- nothing is a prefix
pub no_prefix : (a : Option (List ℕ)) (xs : List ℕ) → AppendsPrefix a a xs
no_prefix None xs = ([], xs, refl, tt)
no_prefix (Some a) xs = ([], xs, refl, sym (append-nil a))

-- a prefix of bytes is one of more bytes
pub prefix_more : (a b : Option (List ℕ)) (xs ys : List ℕ) → AppendsPrefix a b xs →
    AppendsPrefix a b (xs ++ ys)
prefix_more a b xs ys p = (
  p.0,
  p.1 ++ ys,
  sym (append_assoc p.0 p.1 ys) ∙ ap (λ (t : List ℕ). t ++ ys) p.2,
  p.3,
)

-- bytes, and then a prefix of others
pub prefix_then : (a b c : Option (List ℕ)) (xs ys : List ℕ) → Appends a b xs →
    AppendsPrefix b c ys → AppendsPrefix a c (xs ++ ys)
prefix_then a b c xs ys p q = (
  xs ++ q.0,
  q.1,
  append_assoc xs q.0 q.1 ∙ ap (λ (t : List ℕ). xs ++ t) q.2,
  Appends-then a b c xs q.0 p q.3,
)

-- all of them were written, and then a call wrote nothing more
pub told_then : (told : Result (Unit {0}) Unbooked) (old mid new : SinkValue) (bytes : List ℕ) →
    WritesAll old mid bytes → OnOk told (new.failures ≡ mid.failures) →
    IfErr told (λ fault. IsUnbooked fault mid.failures new.failures) →
    Keeps mid.contents new.contents → TellsWritten told old new bytes
told_then (Ok x) old mid new bytes all went fault keeps = record {
  written = appends_kept old.contents mid.contents new.contents bytes all.written keeps;
  went = went ∙ all.went;
}
told_then (Err f) old mid new bytes all went fault keeps = record {
  prefix = whole_prefix old.contents new.contents bytes
      (appends_kept old.contents mid.contents new.contents bytes all.written keeps);
  is_fault = subst (λ (n : ℕ). IsUnbooked f n new.failures) all.went fault;
}

-- ## texts

pub text_more : (wall : ChineseWall) (entries more : List BookEntry) →
    text_so_far wall (entries ++ more) ≡ text_so_far wall entries ++ entry_lines wall more
text_more wall entries more =
    ap (λ (t : List ℕ). line_of (header_words wall.version) ++ t)
    (flat_map-append (λ (entry : BookEntry). line_of (entry_words wall entry)) entries more)
    ∙ sym (append_assoc (line_of (header_words wall.version)) (entry_lines wall entries)
    (entry_lines wall more))

pub text_whole : (wall : ChineseWall) (entries : List BookEntry) →
    book_text wall entries ≡ text_so_far wall entries ++ line_of (end_words (length entries))
unfolding book_text
text_whole wall entries = sym (append_assoc (line_of (header_words wall.version))
    (entry_lines wall entries) (line_of (end_words (length entries))))

-- ## one call

-- a book that is too long has more entries than can be counted
abbrev pub IsTooLongAt : ChineseWall → List Entry → Unbooked → Type 0
IsTooLongAt wall run fault =
    fault ≡ TooLong → 18446744073709551616 ≤ length (book_of wall run)

module _ (wall : ChineseWall) (begun : SinkValue) (run : List Entry) (e : Entry)
    (added : List BookEntry) (is_book : book_of wall (e ∷ run) ≡ book_of wall run ++ added) where
  -- all was written, and is now
  booked_more : (old new : SinkValue) → IsBooked wall begun old run →
      WritesAll old new (entry_lines wall added) → IsBooked wall begun new (e ∷ run)
  booked_more old new is by = record {
    written = subst (Appends begun.contents new.contents)
        (sym (text_more wall (book_of wall run) added)
        ∙ ap (text_so_far wall) (sym is_book))
        (Appends-then begun.contents old.contents new.contents
        (text_so_far wall (book_of wall run)) (entry_lines wall added) is.written by.written);
    went = by.went ∙ is.went;
  }

  -- all was written, and of this a prefix
  cut_now : (old new : SinkValue) (fault : Unbooked) → IsBooked wall begun old run →
      WritesPrefix fault old new (entry_lines wall added) → IsTooLongAt wall (e ∷ run) fault →
      IsCut wall begun new (e ∷ run) fault
  cut_now old new fault is by long = record {
    past = run;
    later = e ∷ [];
    is_run = refl;
    held = old.contents;
    written = is.written;
    next = added;
    is_book = is_book;
    prefix = by.prefix;
    is_fault = subst (λ (n : ℕ). IsUnbooked fault n new.failures) is.went by.is_fault;
    too_long = long;
  }

  -- not all was written
  still_cut : (old new : SinkValue) (fault : Unbooked) → new ≡ old →
      IsCut wall begun old run fault → IsCut wall begun new (e ∷ run) fault
  still_cut old new fault same is = subst (λ (s : SinkValue). IsCut wall begun s (e ∷ run) fault)
      (sym same) (record {
        past = is.past;
        later = e ∷ is.later;
        is_run = ap (λ (l : List Entry). e ∷ l) is.is_run;
        held = is.held;
        written = is.written;
        next = is.next ++ added;
        is_book = is_book
            ∙ (ap (λ (l : List BookEntry). l ++ added) is.is_book
            ∙ append_assoc (book_of wall is.past) is.next added);
        prefix = subst (AppendsPrefix is.held old.contents)
            (sym (flat_map-append (λ (entry : BookEntry). line_of (entry_words wall entry))
            is.next added))
            (prefix_more is.held old.contents (entry_lines wall is.next) (entry_lines wall added)
            is.prefix);
        is_fault = is.is_fault;
        too_long = λ long.
            let most = is.too_long long in
            let grows = ap length is_book ∙ length-append (book_of wall run) added in
            omega (arith, most, grows);
      })

  pub written_more : (old new : SinkValue) (before after : Option Unbooked) →
      IsWritten wall begun old before run →
      Writes before after old new (entry_lines wall added) →
      (before ≡ None → (fault : Unbooked) → after ≡ Some fault → IsTooLongAt wall (e ∷ run) fault) →
      IsWritten wall begun new after (e ∷ run)
  written_more old new (Some fault) after is by long =
      subst (λ (f : Option Unbooked). IsWritten wall begun new f (e ∷ run)) (sym by.0)
      (still_cut old new fault by.1 is)
  written_more old new None None is by long = booked_more old new is by
  written_more old new None (Some fault) is by long =
      cut_now old new fault is by (long refl fault refl)

-- a take adds nothing
pub written_still : (wall : ChineseWall) (begun sink : SinkValue) (fault : Option Unbooked)
    (run : List Entry) (e : Entry) → book_of wall (e ∷ run) ≡ book_of wall run →
    IsWritten wall begun sink fault run → IsWritten wall begun sink fault (e ∷ run)
written_still wall begun sink None run e same is = record {
  written = subst
      (λ (b : List BookEntry). Appends begun.contents sink.contents (text_so_far wall b))
      (sym same) is.written;
  went = is.went;
}
written_still wall begun sink (Some fault) run e same is =
    still_cut wall begun run e [] (same ∙ sym (append-nil (book_of wall run))) sink sink fault refl
    is

-- ## how far the text has come

-- with the first line alone
pub come_first : (wall : ChineseWall) (far : Extent) → far.entries ≡ 0 →
    Holds256 far.hasher (line_of (header_words wall.version)) → HasCome wall far []
come_first wall far none holds = record {
  entries = none;
  holds = subst (Holds256 far.hasher) (sym (append-nil (line_of (header_words wall.version)))) holds;
}

-- these entries were counted, and the hasher has taken their lines
pub record Takes (far next : Extent) (wall : ChineseWall) (news : List BookEntry) : Type 0 where
  pub entries : next.entries ≡ far.entries + length news
  pub holds : (text : List ℕ) → Holds256 far.hasher text →
      Holds256 next.hasher (text ++ entry_lines wall news)

come_more : (wall : ChineseWall) (far next : Extent) (run : List Entry) (e : Entry)
    (added : List BookEntry) → book_of wall (e ∷ run) ≡ book_of wall run ++ added →
    Takes far next wall added → HasCome wall far run → HasCome wall next (e ∷ run)
come_more wall far next run e added is_book takes come = record {
  entries = takes.entries ∙ (ap (λ (n : ℕ). n + length added) come.entries
      ∙ sym (ap length is_book ∙ length-append (book_of wall run) added));
  holds = subst (Holds256 next.hasher)
      (sym (ap (text_so_far wall) is_book ∙ text_more wall (book_of wall run) added))
      (takes.holds (text_so_far wall (book_of wall run)) come.holds);
}

come_still : (wall : ChineseWall) (far : Extent) (run : List Entry) (e : Entry) →
    book_of wall (e ∷ run) ≡ book_of wall run → HasCome wall far run → HasCome wall far (e ∷ run)
come_still wall far run e same come = record {
  entries = come.entries ∙ sym (ap length same);
  holds = subst (λ (b : List BookEntry). Holds256 far.hasher (text_so_far wall b)) (sym same)
      come.holds;
}

-- ## calls

-- what a hall stands for after a call, whose news were written or not
pub stands_more : (wall : ChineseWall) (old new : HallValue) (begun was is : SinkValue)
    (far next : Extent) (before after : Option Unbooked) (run : List Entry) (e : Entry)
    (w : ChineseWall) (olds news : List BookEntry) → olds ≡ [] → w ≡ wall →
    Stands wall new (e ∷ run) → Adds wall run e olds news →
    Writes before after was is (entry_lines w news) →
    (before ≡ None → (fault : Unbooked) → after ≡ Some fault →
    IsTooLongAt wall (e ∷ run) fault) →
    (after ≡ None → (before ≡ None) × Takes far next w news) →
    StandsWithBook wall
    (record { hall = old; begun = begun; sink = was; extent = far; fault = before }) run →
    StandsWithBook wall
    (record { hall = new; begun = begun; sink = is; extent = next; fault = after }) (e ∷ run)
stands_more wall old new begun was is far next before after run e w olds news none lines hall adds
    writes long takes stands =
    let news_are : news ≡ adds.added =
    adds.news ∙ ap (λ (l : List BookEntry). l ++ adds.added) none in
    record {
      policy = hall.0;
      hall = hall.1;
      book = written_more wall begun run e adds.added adds.book was is before after stands.book
          (subst (λ (bytes : List ℕ). Writes before after was is bytes)
          (λ i. entry_lines (lines i) (news_are i)) writes) long;
      extent = λ whole.
          let t = takes whole in
          come_more wall far next run e adds.added adds.book
          (subst (λ (v : ChineseWall). Takes far next v adds.added) lines
          (subst (Takes far next w) news_are t.1)) (stands.extent t.0);
    }

-- and after a take
pub stands_on : (wall : ChineseWall) (old new : HallValue) (begun sink : SinkValue) (far : Extent)
    (fault : Option Unbooked) (run : List Entry) (e : Entry) → Stands wall new (e ∷ run) →
    book_of wall (e ∷ run) ≡ book_of wall run →
    StandsWithBook wall
    (record { hall = old; begun = begun; sink = sink; extent = far; fault = fault }) run →
    StandsWithBook wall
    (record { hall = new; begun = begun; sink = sink; extent = far; fault = fault }) (e ∷ run)
stands_on wall old new begun sink far fault run e hall keeps stands = record {
  policy = hall.0;
  hall = hall.1;
  book = written_still wall begun sink fault run e keeps stands.book;
  extent = λ whole. come_still wall far run e keeps (stands.extent whole);
}

-- what a hall has replied stays so where it lets go of its news
pub replies_still : (old mid new : HallValue) (got : Reply) → RepliesWith old mid got →
    view_of new ≡ view_of mid → RepliesWith old new got
replies_still old mid new got replies same =
    let policy : new.policy ≡ mid.policy = ap (λ (v : HallView). v.policy) same in
    record {
      policy = policy ∙ replies.policy;
      unchanged = λ makes. same ∙ replies.unchanged makes;
      named = subst (λ (w : ChineseWall). IsKnownReply w got) (sym policy) replies.named;
    }

-- and it stands for what it stood for
pub stands_still : (wall : ChineseWall) (mid new : HallValue) (run : List Entry) →
    view_of new ≡ view_of mid → (StandsFor mid run → StandsFor new run) → Stands wall mid run →
    Stands wall new run
stands_still wall mid new run same by stands =
    (ap (λ (v : HallView). v.policy) same ∙ stands.0, by stands.1)

-- a fault stays
pub sticks_by : (before after : Option Unbooked) (old new : SinkValue) (bytes : List ℕ) →
    Writes before after old new bytes →
    IfSome before (λ fault. (after ≡ before) × (new ≡ old))
sticks_by (Some fault) after old new bytes writes = (writes.0, writes.1)
sticks_by None after old new bytes writes = tt

-- two entries came exactly where an instance settled
pub settles_by : (wall : ChineseWall) (run : List Entry) (e : Entry) (n : ℕ)
    (olds news : List BookEntry) → olds ≡ [] → Adds wall run e olds news → n ≡ length news →
    IsTrue (nat_eq n 2) ↔ Settles wall run e
unfolding entries_of
settles_by wall run e n olds news none adds count =
    let a : ℕ = length (book_of wall run) in
    let b : ℕ = length (book_of wall (e ∷ run)) in
    let news_are : news ≡ adds.added =
    adds.news ∙ ap (λ (l : List BookEntry). l ++ adds.added) none in
    let grows : b ≡ a + n =
    ap length adds.book ∙ length-append (book_of wall run) adds.added
    ∙ ap (λ (k : ℕ). a + k) (sym (count ∙ ap length news_are)) in
    let onward : n ≡ 2 → b ≡ a + 2 = λ t. grows ∙ ap (λ (k : ℕ). a + k) t in
    let back : b ≡ a + 2 → n ≡ 2 = λ s. added_same a b n grows s in
    (λ t. onward (eqb-true n 2 t), λ s. eq-eqb n 2 (back s))
  where
    added_same : (a b n : ℕ) → b ≡ a + n → b ≡ a + 2 → n ≡ 2
    added_same a b n p q = omega arith

-- the lines of one entry more
pub lines_more : (wall : ChineseWall) (es : List BookEntry) (text : List ℕ) (i : ℕ)
    (e : BookEntry) (now new : List ℕ) → slice_get es i ≡ Some e →
    now ≡ text ++ entry_lines wall (take i es) →
    new ≡ now ++ line_of (entry_words wall e) →
    new ≡ text ++ entry_lines wall (take (i + 1) es)
lines_more wall es text i e now new at so_far more =
    more
    ∙ (ap (λ (t : List ℕ). t ++ line_of (entry_words wall e)) so_far
    ∙ (flat_map_more (λ (entry : BookEntry). line_of (entry_words wall entry)) text (take i es) e
    ∙ ap (λ (ls : List BookEntry). text ++ entry_lines wall ls)
    (ap (λ (x : BookEntry). take i es ++ (x ∷ [])) (at_place es i e at)
    ∙ sym (take_more es i e (slice_get_within es i e at)))))
  where
    at_place : (es : List BookEntry) (i : ℕ) (e : BookEntry) → slice_get es i ≡ Some e →
        e ≡ get_or es i e
    at_place es i e h = sym (ap (λ (o : Option BookEntry). unwrap_or o e) h)
        ∙ unwrap_or-slice_get es i e

-- ## the first line

pub written_first : (wall : ChineseWall) (begun sink : SinkValue) →
    Appends begun.contents sink.contents (line_of (header_words wall.version)) →
    sink.failures ≡ begun.failures → IsWritten wall begun sink None []
written_first wall begun sink by went = record {
  written = subst (Appends begun.contents sink.contents)
      (sym (append-nil (line_of (header_words wall.version)))) by;
  went = went;
}

-- ## the last line

-- of a cut book a prefix of the whole was written
cut_prefix : (wall : ChineseWall) (begun sink : SinkValue) (run : List Entry) (fault : Unbooked) →
    IsCut wall begun sink run fault →
    AppendsPrefix begun.contents sink.contents (book_text wall (book_of wall run))
cut_prefix wall begun sink run fault is = subst (AppendsPrefix begun.contents sink.contents)
    (sym (text_whole wall (book_of wall run)
    ∙ ap (λ (t : List ℕ). t ++ line_of (end_words (length (book_of wall run))))
    (ap (text_so_far wall) is.is_book ∙ text_more wall (book_of wall is.past) is.next)))
    (prefix_more begun.contents sink.contents
    (text_so_far wall (book_of wall is.past) ++ entry_lines wall is.next)
    (line_of (end_words (length (book_of wall run))))
    (prefix_then begun.contents is.held sink.contents (text_so_far wall (book_of wall is.past))
    (entry_lines wall is.next) is.written is.prefix))

module _ (wall : ChineseWall) (begun old new : SinkValue) (run : List Entry) (n : ℕ)
    (count : n ≡ length (book_of wall run)) where
  abbrev last : List ℕ
  last = line_of (end_words n)

  abbrev whole : List ℕ
  whole = book_text wall (book_of wall run)

  is_whole : text_so_far wall (book_of wall run) ++ last ≡ whole
  is_whole = ap (λ (k : ℕ). text_so_far wall (book_of wall run) ++ line_of (end_words k)) count
      ∙ sym (text_whole wall (book_of wall run))

  pub all_written : IsBooked wall begun old run → WritesAll old new last →
      Appends begun.contents new.contents whole
  all_written is by = subst (Appends begun.contents new.contents) is_whole
      (Appends-then begun.contents old.contents new.contents
      (text_so_far wall (book_of wall run)) last is.written by.written)

  pub prefix_written : (fault : Unbooked) → IsBooked wall begun old run →
      WritesPrefix fault old new last → AppendsPrefix begun.contents new.contents whole
  prefix_written fault is by = subst (AppendsPrefix begun.contents new.contents) is_whole
      (prefix_then begun.contents old.contents new.contents
      (text_so_far wall (book_of wall run)) last is.written by.prefix)

-- how the last line went, after what was written before
module _ (wall : ChineseWall) (begun old new : SinkValue) (run : List Entry) (n : ℕ) where
  abbrev end_line : List ℕ
  end_line = line_of (end_words n)

  pub last_all : (before : Option Unbooked) → (before ≡ None → n ≡ length (book_of wall run)) →
      IsWritten wall begun old before run → Writes before None old new end_line →
      WritesAll begun new (book_text wall (book_of wall run))
  last_all None count is by = record {
    written = all_written wall begun old new run n (count refl) is by;
    went = by.went ∙ is.went;
  }
  last_all (Some fault) count is by = absurd (no_fault fault by.0)
    where
      no_fault : (fault : Unbooked) → None ≡ Some fault → ⊥
      no_fault fault h = cc

  pub last_prefix : (before : Option Unbooked) (fault : Unbooked) →
      (before ≡ None → n ≡ length (book_of wall run)) →
      IsWritten wall begun old before run → Writes before (Some fault) old new end_line →
      WritesPrefix fault begun new (book_text wall (book_of wall run))
  last_prefix None fault count is by = record {
    prefix = prefix_written wall begun old new run n (count refl) fault is by;
    is_fault = subst (λ (k : ℕ). IsUnbooked fault k new.failures) is.went by.is_fault;
  }
  last_prefix (Some was) fault count is by =
      let same : was ≡ fault = cc (by.0) in
      record {
        prefix = subst (λ (s : SinkValue). AppendsPrefix begun.contents s.contents
            (book_text wall (book_of wall run))) (sym by.1)
            (cut_prefix wall begun old run was is);
        is_fault = subst (λ (f : Unbooked). IsUnbooked f begun.failures new.failures) same
            (subst (λ (s : SinkValue). IsUnbooked was begun.failures s.failures) (sym by.1)
            is.is_fault);
      }

-- the entries that are gone, and the news, are all of the run's book
pub count_more : (wall w : ChineseWall) (run : List Entry) (gone was news : List BookEntry) (n : ℕ) →
    w ≡ wall → book_of w run ≡ gone ++ news → gone ≡ was → n ≡ length was →
    18446744073709551616 ≤ n + length news → 18446744073709551616 ≤ length (book_of wall run)
count_more wall w run gone was news n same parts kept count most =
    let all = ap (λ (v : ChineseWall). length (book_of v run)) (sym same) ∙ ap length parts
    ∙ length-append gone news in
    let gone_are = ap length kept in
    omega (arith, all, gone_are, count, most)

-- the entries that are gone are all of the run's book
pub count_is : (wall w : ChineseWall) (run : List Entry) (gone news : List BookEntry) (n : ℕ) →
    w ≡ wall → book_of w run ≡ gone ++ news → news ≡ [] → n ≡ length gone →
    n ≡ length (book_of wall run)
count_is wall w run gone news n same parts none count =
    count ∙ sym (ap (λ (v : ChineseWall). length (book_of v run)) (sym same)
    ∙ (ap length (parts ∙ ap (λ (l : List BookEntry). gone ++ l) none)
    ∙ ap length (append-nil gone)))
