-- What a call adds to the book, and what is kept of it.
use Rattle.std.proofs.Common.{◌≡◌, ℕ, List, [], ◌∷◌, ◌++◌, length, drop, refl, sym, ap, ◌∙◌, subst}
use Rattle.std.proofs.Common.{Option, Some, None, All, append_assoc}
use Rattle.std.specs.List.{cons_option}
use Rattle.std.proofs.lemmas.List.{append-nil}
use Rattle.std.proofs.lemmas.List.Elements.{All-drop}
use Rattle.std.proofs.Math.Seq.{drop-append_seam, drop-length}
use Rattle.wall_policy.specs.Policy.{ChineseWall}
use Rattle.mpi_elems.specs.Contents.{Contents}
use Rattle.run_model.specs.declared.call.Call.{Call}
use Rattle.run_model.specs.declared.entry.Entry.{Entry as BookEntry}
use Rattle.run_model.specs.declared.reply.Reply.{Reply}
use Rattle.run_model.specs.Posts.{Post}
use Rattle.run_model.specs.Books.{book, entries_for}
use Rattle.run_model.specs.Contributions.{Contribution, posts_of}
use Rattle.run_model.specs.Known.{HasKnownLabel, IsKnownEntry}
use Rattle.run_model.specs.Replies.{Legal, posts_made}
use Rattle.run_model.specs.Runs.{Entry, contribution_in, contributions, entry, posts}
use Rattle.hall_core.specs.declared.records.Records.{Records}
use Rattle.hall_core.specs.Briefs.{Adds, IsBrief, kept_in}
use Rattle.hall_core.specs.Claims.{to_take}
use Rattle.hall_core.specs.Halls.{HallValue, HallView, StandsFor, StandsForRun, view_of}
use Rattle.hall_core.specs.Ledgers.{LedgerValue}
use Rattle.hall_core.specs.Invariant.{IsHallView, Keeps, value_in, view_in}
use Rattle.hall_core.specs.Moves.{Steps}
use Rattle.hall_core.proofs.ApplyLemmas.{applied, book_is, for_stands, named, stands_for}
use Rattle.hall_core.proofs.NamedLemmas.{is_hall_after}

-- ## books

-- the entries that a post makes, if there is one
abbrev pub made_by : ChineseWall → Option (Contribution Contents) → List Post → List BookEntry
made_by wall None past = []
made_by wall (Some g) past = entries_for wall g.post past

pub book_more : (wall : ChineseWall) (o : Option (Contribution Contents))
    (past : List (Contribution Contents)) → book wall (posts_of (cons_option o past))
    ≡ book wall (posts_of past) ++ made_by wall o (posts_of past)
book_more wall None past = sym (append-nil (book wall (posts_of past)))
book_more wall (Some g) past = refl

-- what a call makes in the book of a hall, whatever run it stands for
pub made_in : (old new : HallValue) (call : Call) (got : Reply) (is : IsHallView (view_of old)) →
    new.policy ≡ old.policy → Steps (view_of old) (view_of new) call.process call.act got →
    new.book.list ≡ old.book.list
    ++ made_by old.policy (contribution_in (entry call got)) (posts_made is.effects)
made_in old new call got is same steps =
    let m = is.effects in
    let o = contribution_in (entry call got) in
    let step = steps m is.is_made.proper is.stands in
    step.1.book
    ∙ (ap (λ (w : ChineseWall). book w (posts_of (cons_option o m.contributions))) same
    ∙ (book_more old.policy o m.contributions
    ∙ ap (λ (entries : List BookEntry). entries ++ made_by old.policy o (posts_made m))
    (sym is.stands.book)))

-- and in that of this run
pub made_after : (old new : HallValue) (call : Call) (got : Reply) → new.policy ≡ old.policy →
    Steps (view_of old) (view_of new) call.process call.act got →
    (run : List Entry) → Legal old.policy run → StandsFor old run →
    new.book.list ≡ old.book.list
    ++ made_by old.policy (contribution_in (entry call got)) (posts run)
made_after old new call got same steps run legal stands =
    let o = contribution_in (entry call got) in
    book_is new (entry call got ∷ run) (applied old new call got same steps run legal stands).1
    ∙ (ap (λ (w : ChineseWall). book w (posts (entry call got ∷ run))) same
    ∙ (book_more old.policy o (contributions run)
    ∙ ap (λ (entries : List BookEntry). entries ++ made_by old.policy o (posts run))
    (sym (book_is old run stands))))

-- ## what is kept

-- of a list that grows all that comes is kept
module _ (gone gone' list list' added : List BookEntry) (same : gone' ≡ gone)
    (whole : gone ++ drop (length gone) list ≡ list) (more : list' ≡ list ++ added) where
  abbrev kept : List BookEntry
  kept = drop (length gone) list

  pub kept_grows : drop (length gone') list' ≡ kept ++ added
  kept_grows =
      (λ i. drop (length (same i)) (more i))
      ∙ (ap (λ (l : List BookEntry). drop (length gone) (l ++ added)) (sym whole)
      ∙ (ap (drop (length gone)) (append_assoc gone kept added)
      ∙ drop-append_seam gone (kept ++ added)))

  pub whole_grown : gone' ++ drop (length gone') list' ≡ list'
  whole_grown =
      (λ i. same i ++ kept_grows i)
      ∙ (sym (append_assoc gone kept added)
      ∙ (ap (λ (l : List BookEntry). l ++ added) whole ∙ sym more))

-- nothing is kept at first
pub none_kept : (gone list : List BookEntry) → gone ≡ [] → list ≡ [] → drop (length gone) list ≡ []
none_kept gone list none empty = λ i. drop (length (none i)) (empty i)

-- and where nothing is gone all is kept
pub all_kept : (gone kept list : List BookEntry) → gone ≡ [] → gone ++ kept ≡ list → kept ≡ list
all_kept gone kept list none whole =
    ap (λ (g : List BookEntry). g ++ kept) (sym none) ∙ whole

-- ## a call

pub brief_after : (old new : Records) (call : Call) (got : Reply) → IsBrief old → Keeps old new →
    HasKnownLabel old.policy call.act →
    Steps (view_in old) (view_in new) call.process call.act got → IsBrief new
brief_after old new call got is keeps known steps = record {
  hall = is_hall_after (view_in old) (view_in new) call.process call.act got is.hall keeps.policy
      known steps;
  whole = whole_grown old.book.gone new.book.gone old.book.list new.book.list
      (made_by old.policy (contribution_in (entry call got)) (posts_made is.hall.effects))
      keeps.gone is.whole
      (made_in (value_in old) (value_in new) call got is.hall keeps.policy steps);
}

pub adds : (old new : Records) (call : Call) (got : Reply) → IsBrief old → Keeps old new →
    Steps (view_in old) (view_in new) call.process call.act got →
    (run : List Entry) → Legal old.policy run → StandsFor (value_in old) run →
    Adds old.policy run (entry call got) (kept_in old) (kept_in new)
adds old new call got is keeps steps run legal stands =
    let o = contribution_in (entry call got) in
    record {
      added = made_by old.policy o (posts run);
      book = book_more old.policy o (contributions run);
      news = kept_grows old.book.gone new.book.gone old.book.list new.book.list
          (made_by old.policy o (posts run)) keeps.gone is.whole
          (made_after (value_in old) (value_in new) call got keeps.policy steps run legal stands);
    }

-- a take adds nothing
pub take_adds_nothing : (old new : Records) (p r : ℕ) (got : Reply) → IsBrief old →
    Keeps old new → Steps (view_in old) (view_in new) p (to_take p r).act got →
    kept_in new ≡ kept_in old
take_adds_nothing old new p r got is keeps steps =
    kept_grows old.book.gone new.book.gone old.book.list new.book.list [] keeps.gone is.whole
    (made_in (value_in old) (value_in new) (to_take p r) got is.hall keeps.policy steps)
    ∙ append-nil (kept_in old)

-- ## what is shown

pub news_named : (records : Records) → IsBrief records →
    All (IsKnownEntry records.policy) (kept_in records)
news_named records is = All-drop (IsKnownEntry records.policy) (length records.book.gone)
    records.book.list (named (value_in records) is.hall)

pub news_are : (gone kept list : List BookEntry) → gone ++ kept ≡ list →
    kept ≡ drop (length gone) list
news_are gone kept list whole =
    sym (drop-append_seam gone kept) ∙ ap (drop (length gone)) whole

pub book_parts : (records : Records) → IsBrief records → (run : List Entry) →
    StandsFor (value_in records) run →
    book records.policy (posts run) ≡ records.book.gone ++ kept_in records
book_parts records is run stands = sym (book_is (value_in records) run stands) ∙ sym is.whole

-- ## letting go

-- all entries of the book go
module _ (old : Records) (l : LedgerValue) (same : l.list ≡ old.book.list)
    (gone : l.gone ≡ old.book.list) (is : IsBrief old) where
  abbrev after : Records
  after = record old { book = l }

  pub same_view : view_in after ≡ view_in old
  same_view = ap (λ (entries : List BookEntry). record (view_in old) { book = entries }) same

  pub none_left : kept_in after ≡ []
  none_left = (λ i. drop (length (gone i)) (same i)) ∙ drop-length old.book.list

  pub all_gone : l.gone ≡ old.book.gone ++ kept_in old
  all_gone = gone ∙ sym is.whole

  pub brief_still : IsBrief after
  brief_still = record {
    hall = subst IsHallView (sym same_view) is.hall;
    whole = (λ i. gone i ++ none_left i) ∙ (append-nil old.book.list ∙ sym same);
  }

  pub stands_still : (run : List Entry) → StandsFor (value_in old) run →
      StandsFor (value_in after) run
  stands_still run stands = for_stands (value_in after) run
      (subst (λ (h : HallView). StandsForRun h run) (sym same_view)
      (stands_for (value_in old) run stands))
