-- What is left of the book of a run that was cut has a seal, which keeps the run.
use Rattle.std.proofs.Common.{◌≡◌, ◌⊎◌, inl, inr, ℕ, suc, ◌≤◌, List, [], ◌∷◌}
use Rattle.std.proofs.Common.{◌++◌, length, take, refl, sym, ap, subst, ◌∙◌, arith}
use Rattle.std.proofs.Common.{append_assoc}
use Rattle.std.specs.List.{AllByRecursion, join_with_byte}
use Rattle.std.proofs.lemmas.List.{append-nil, length-append, take_all}
use Rattle.std.proofs.lemmas.List.Elements.{filter_map-append}
use Rattle.std.proofs.lemmas.Grind.{flat_map-append}
use Rattle.std.proofs.Math.Seq.{take-append_seam}
use Rattle.wall_policy.specs.Policy.{ChineseWall, IsPolicy}
use Rattle.run_model.specs.declared.entry.Entry.{Entry as BookEntry}
use Rattle.run_model.specs.Books.{book, posts_in, IsSound, Begins}
use Rattle.run_model.specs.Holding.{Holds}
use Rattle.run_model.specs.Runs.{posts}
use Rattle.run_model.proofs.RunModelLemmas.{begins_given, book_grows, book_is_sound, held_by_end}
use Rattle.run_model.proofs.RunModelLemmas.{held_on, legal_posts_count, posts-append}
use Rattle.run_model.proofs.RunModelLemmas.{posts_in-append, posts_in-book}
use Rattle.coll_text.specs.Numbers.{Word}
use Rattle.coll_text.specs.Reading.{parts}
use Rattle.audit_book.specs.Lines.{line_at}
use Rattle.audit_book.specs.Text.{line_of, entry_words, end_words, entry_lines, header_line}
use Rattle.audit_book.specs.Text.{header_words}
use Rattle.audit_book.specs.Text.{book_text}
use Rattle.audit_book.specs.Reading.{book_in}
use Rattle.audit_book.specs.Laws.{IsSpelled}
use Rattle.audit_book.proofs.AuditBookLemmas.{book_again, book_cut, ended_lines}
use Rattle.audit_book.proofs.AuditBookLemmas.{entry_line_again, entry_line_whole, header_whole}
use Rattle.audit_book.proofs.AuditBookLemmas.{line_lacks, parts_more, said_lines, some_parts}
use Rattle.audit_book.proofs.AuditBookLemmas.{text_in_lines}
use Rattle.book_seal.specs.Seals.{all_but_last, finished, finished_lines, finished_entries, Starts}
use Rattle.book_seal.specs.Seals.{entry_told, IsSealOf}
use Rattle.book_seal.specs.CutBooks as cuts
use Rattle.book_seal.specs.CutBooks.{HasText, IsCutBook, KeepsTheRun, book_of, text_so_far}
use Rattle.book_seal.proofs.FinishedLemmas.{AreLines, ended_parts}
use Rattle.book_seal.proofs.FinishedLemmas.{finished_is}
use Rattle.book_seal.proofs.BegunLemmas.{told, HasHeader, cut_is, told_of, told_step, text_behind}
use Rattle.book_seal.proofs.BegunLemmas.{entries_are, told_behind_header, whole_told}
use Rattle.book_seal.proofs.ExactLemmas.{Extends, text_extends}
use Rattle.book_seal.proofs.LawLemmas.{one_seal}

---- Lists.

all_front : {X : Type 0} (P : X → Type 0) (xs ys : List X) → AllByRecursion P (xs ++ ys) →
    AllByRecursion P xs
all_front P [] ys all = tt
all_front P (x ∷ xs) ys all = (all.0, all_front P xs ys all.1)

all_behind : {X : Type 0} (P : X → Type 0) (xs ys : List X) → AllByRecursion P (xs ++ ys) →
    AllByRecursion P ys
all_behind P [] ys all = all
all_behind P (x ∷ xs) ys all = all_behind P xs ys all.1

-- all but the last of lines and more
but_last_more : (ls : List Word) (w : Word) (ws : List Word) →
    all_but_last (ls ++ (w ∷ ws)) ≡ ls ++ all_but_last (w ∷ ws)
but_last_more [] w ws = refl
but_last_more (l ∷ []) w ws = refl
but_last_more (l ∷ m ∷ ls) w ws = ap (λ t. l ∷ t) (but_last_more (m ∷ ls) w ws)

---- What is finished of a text stands at its beginning.

-- some lines are all but their last, and that
last_of : (l : Word) (ls : List Word) → (w : Word) × (all_but_last (l ∷ ls) ++ (w ∷ []) ≡ l ∷ ls)
last_of l [] = (l, refl)
last_of l (m ∷ ls) = let more = last_of m ls in (more.0, ap (λ t. l ∷ t) more.1)

ended_more : (ls ms : List Word) → ended_lines (ls ++ ms) ≡ ended_lines ls ++ ended_lines ms
ended_more ls ms = flat_map-append (λ (l : Word). l ++ (10 ∷ [])) ls ms

cancel_last : (xs ys : List ℕ) (b : ℕ) → xs ++ (b ∷ []) ≡ ys ++ (b ∷ []) → xs ≡ ys
cancel_last xs ys b same =
    sym (take-append_seam xs (b ∷ []))
    ∙ (λ i. take (long i) (same i)) ∙ take-append_seam ys (b ∷ [])
  where
    long : length xs ≡ length ys
    long = omega (arith, ap length same, length-append xs (b ∷ []), length-append ys (b ∷ []))

pub finished_starts : (text : List ℕ) → Starts (finished text) text
unfolding finished_lines
finished_starts text =
    let some = some_parts text in
    let last = last_of some.0 some.1 in
    let split : finished_lines text ++ (last.0 ∷ []) ≡ parts 10 text =
    subst (λ (ls : List Word). all_but_last ls ++ (last.0 ∷ []) ≡ ls) (sym some.2) last.1 in (
      last.0,
      cancel_last (finished text ++ last.0) text 10
          (append_assoc (finished text) last.0 (10 ∷ [])
          ∙ ap (λ t. finished text ++ t) (sym (append-nil (last.0 ++ (10 ∷ []))))
          ∙ ap (λ t. t ++ ended_lines (last.0 ∷ [])) (finished_is text)
          ∙ sym (ended_more (finished_lines text) (last.0 ∷ []))
          ∙ ap ended_lines split ∙ ended_parts text),
    )

---- The seal of what begins the text of a sound book.

module _ (wall : ChineseWall) (policy : IsPolicy wall) (es : List BookEntry)
    (sound : IsSound wall es) (has : HasText wall es) (text : List ℕ)
    (starts : Starts text (book_text wall es)) where
  abbrev said : List BookEntry
  said = finished_entries wall text

  -- the book of the posts that the text tells
  abbrev sealed : List BookEntry
  sealed = book wall (posts_in said)

  -- what stands behind the finished lines
  abbrev rest : List ℕ
  rest = (finished_starts text).0 ++ starts.0

  pub whole : finished text ++ rest ≡ book_text wall es
  whole = sym (append_assoc (finished text) (finished_starts text).0 starts.0)
      ∙ ap (λ t. t ++ starts.0) (finished_starts text).1 ∙ starts.1

  pub extends : Extends said (book_in wall (finished text)) es
  extends = text_extends wall text rest es
      (ap (book_in wall) whole ∙ book_again wall policy es has.spelled has.few)

  begins : Begins wall said
  begins = (extends.more, subst (IsSound wall) extends.is sound)

  pub posts_are : posts_in es ≡ posts_in extends.more ++ posts_in said
  posts_are = ap posts_in extends.is ∙ posts_in-append said extends.more

  -- the sealed entries are the first of the book
  first : (behind : List BookEntry) × (es ≡ sealed ++ behind)
  first =
      let more = book_grows wall (posts_in extends.more) (posts_in said) in
      (more.0, sound.given ∙ ap (book wall) posts_are ∙ more.1)

  spelled : AllByRecursion (IsSpelled wall) sealed
  spelled = all_front (IsSpelled wall) sealed first.0
      (subst (AllByRecursion (IsSpelled wall)) first.1 has.spelled)

  few : length sealed ≤ 18446744073709551615
  few = let long = ap length first.1 ∙ length-append sealed first.0 in
      let all = has.few in omega (arith, long, all)

  -- the finished lines begin the text of the sealed book
  by_whole : rest ≡ [] → Starts (finished text) (book_text wall sealed)
  by_whole none =
      let is : finished text ≡ book_text wall es =
      sym (append-nil (finished text)) ∙ ap (λ t. finished text ++ t) (sym none) ∙ whole in
      let read = ap (book_in wall) is ∙ book_again wall policy es has.spelled has.few in
      let same : said ≡ es = whole_told wall text es read in (
        [],
        append-nil (finished text) ∙ is
            ∙ ap (book_text wall) (sound.given ∙ ap (λ xs. book wall (posts_in xs)) (sym same)),
      )

  by_header : (finished text ≡ []) ⊎ HasHeader wall text →
      Starts (finished text) (book_text wall sealed)
  by_header (inl none) = (book_text wall sealed, ap (λ t. t ++ book_text wall sealed) none)
  by_header (inr h) =
      let given = begins_given wall said begins in
      let n = length (told wall h.lines ++ given.rest) in
      let behind = entry_lines wall given.rest ++ line_of (end_words n) in (
        behind,
        text_behind wall text h given.rest n refl
            ∙ ap (λ xs. book_text wall (xs ++ given.rest)) (sym (told_of wall text h))
            ∙ ap (book_text wall) given.given,
      )

  by_rest : (more : List ℕ) → rest ≡ more → Starts (finished text) (book_text wall sealed)
  by_rest [] is = by_whole is
  by_rest (b ∷ more) is = by_header (cut_is wall text
      (book_cut wall policy es (finished text) rest has.spelled has.few whole
      (let long : length rest ≡ suc (length more) = ap length is in omega (arith, long))))

  pub seal : IsSealOf wall text (book_text wall sealed)
  seal = record {
    entries = sealed;
    read = book_again wall policy sealed spelled few;
    sound = book_is_sound wall (posts_in said) (begins_given wall said begins).posts;
    posts = posts_in-book wall (posts_in said);
    prefix = by_rest rest refl;
  }

---- What the finished lines tell.

module _ (wall : ChineseWall) (policy : IsPolicy wall) where
  said_are_lines : (es : List BookEntry) → AllByRecursion (IsSpelled wall) es →
      AreLines (said_lines wall es)
  said_are_lines [] h = tt
  said_are_lines (e ∷ es) h = (
    line_lacks (join_with_byte 32 (entry_words wall e)) (entry_line_whole wall policy e h.0),
    said_are_lines es h.1,
  )

  told_again : (es : List BookEntry) → AllByRecursion (IsSpelled wall) es →
      told wall (said_lines wall es) ≡ es
  told_again [] h = refl
  told_again (e ∷ es) h =
      told_step wall (join_with_byte 32 (entry_words wall e)) (said_lines wall es) e
      (entry_line_again wall policy e h.0)
      ∙ ap (λ xs. e ∷ xs) (told_again es h.1)

  said_text : (es : List BookEntry) → ended_lines (said_lines wall es) ≡ entry_lines wall es
  said_text [] = refl
  said_text (e ∷ es) = ap (λ t. line_of (entry_words wall e) ++ t) (said_text es)

  -- a text with the text of a book so far tells its entries first
  pub told_so_far : (es : List BookEntry) (text : List ℕ) → AllByRecursion (IsSpelled wall) es →
      Starts (text_so_far wall es) text →
      (more : List BookEntry) × (finished_entries wall text ≡ es ++ more)
  unfolding finished_lines
  told_so_far es text h starts =
      let ls = header_line wall.version ∷ said_lines wall es in
      let behind = starts.0 in
      let is : ended_lines ls ++ behind ≡ text =
      ap (λ t. (line_of_header ++ t) ++ behind) (said_text es) ∙ starts.1 in
      let some = some_parts behind in
      let lines : finished_lines text ≡ ls ++ all_but_last (some.0 ∷ some.1) =
      ap (λ t. all_but_last (parts 10 t)) (sym is)
      ∙ ap all_but_last (parts_more ls
      (line_lacks (header_line wall.version) (header_whole wall.version), said_are_lines es h)
      behind)
      ∙ ap (λ ws. all_but_last (ls ++ ws)) some.2
      ∙ but_last_more ls some.0 some.1 in
      let more = told wall (all_but_last (some.0 ∷ some.1)) in (
        more,
        entries_are wall text (ls ++ all_but_last (some.0 ∷ some.1)) lines
            ∙ told_behind_header wall (said_lines wall es ++ all_but_last (some.0 ∷ some.1))
            ∙ filter_map-append (λ line. entry_told (line_at wall line)) (said_lines wall es)
            (all_but_last (some.0 ∷ some.1))
            ∙ ap (λ xs. xs ++ more) (told_again es h),
      )
    where
      line_of_header : List ℕ
      line_of_header = header_line wall.version ++ (10 ∷ [])

---- Runs.

pub cut_books_have_their_seal : cuts.CutBooksHaveTheirSeal
cut_books_have_their_seal wall later run text policy legal has cut =
    let all = book_of wall (later ++ run) in
    let sound = book_is_sound wall (posts (later ++ run))
    (legal_posts_count wall (later ++ run) legal) in
    let grows = book_grows wall (posts later) (posts run) in
    let first : all ≡ book_of wall run ++ grows.0 =
    ap (book wall) (posts-append later run) ∙ grows.1 in
    let so_far : AllByRecursion (IsSpelled wall) (book_of wall run) =
    all_front (IsSpelled wall) (book_of wall run) grows.0
    (subst (AllByRecursion (IsSpelled wall)) first has.spelled) in
    let tells = told_so_far wall policy (book_of wall run) text so_far cut.has in
    let seal_of = seal wall policy all sound has text cut.is_prefix in
    let posts_of = posts_are wall policy all sound has text cut.is_prefix in
    let x = extends wall policy all sound has text cut.is_prefix in (
      _,
      record {
        seal = seal_of;
        more = posts_in tells.0;
        kept = seal_of.posts ∙ ap posts_in tells.1 ∙ posts_in-append (book_of wall run) tells.0
            ∙ ap (λ ps. posts_in tells.0 ++ ps) (posts_in-book wall (posts run));
        behind = posts_in x.more;
        real = ap (λ ps. posts_in x.more ++ ps) seal_of.posts
            ∙ sym posts_of ∙ posts_in-book wall (posts (later ++ run));
      },
    )

-- a text has one seal, so whichever it has keeps the run
pub seals_keep_runs : (wall : ChineseWall) → IsPolicy wall → (text sealed : List ℕ) →
    IsSealOf wall text sealed → cuts.KeepsEachRun wall text sealed
seals_keep_runs wall policy text sealed is later run legal has cut =
    let one = cut_books_have_their_seal wall later run text policy legal has cut in
    subst (KeepsTheRun wall later run text)
    (one_seal wall text one.0 sealed one.1.seal is) one.1

pub what_was_told_is_kept : cuts.WhatWasToldIsKept
what_was_told_is_kept wall later run text sealed older p d keeps held =
    let es = keeps.seal.entries in
    inr (
      length es,
      subst (λ xs. Holds wall (posts_in xs) p d) (sym (take_all (length es) es (omega arith)))
          (subst (λ ps. Holds wall ps p d) (sym keeps.kept)
          (held_on wall keeps.more (posts run) p d (held_by_end wall run p d held))),
    )

pub what_was_written : cuts.WhatWasWrittenIsACutBook
what_was_written wall later run next part rest is_book parted =
    let past = book_of wall run in
    let head = line_of (header_words wall.version) in
    let end = line_of (end_words (length (past ++ next))) in
    let so_far = text_so_far wall past in
    let lines : entry_lines wall (past ++ next) ≡ entry_lines wall past ++ entry_lines wall next =
    flat_map-append (λ (e : BookEntry). line_of (entry_words wall e)) past next in
    record {
      is_prefix = (
        rest ++ end,
        append_assoc so_far part (rest ++ end)
            ∙ ap (λ t. so_far ++ t) (sym (append_assoc part rest end)
            ∙ ap (λ t. t ++ end) parted)
            ∙ append_assoc head (entry_lines wall past) (entry_lines wall next ++ end)
            ∙ ap (λ t. head ++ t) (sym (append_assoc (entry_lines wall past) (entry_lines wall next) end)
            ∙ ap (λ t. t ++ end) (sym lines))
            ∙ sym (text_in_lines wall (past ++ next))
            ∙ ap (book_text wall) (sym is_book),
      );
      has = (part, refl);
    }
