-- What a book of counted posts names is what the policy has, where the posts name only that.
use Rattle.std.proofs.Common.{◌≡◌, ℕ, Bool, true, false, List, [], ◌∷◌, ◌++◌, length, refl}
use Rattle.std.proofs.Common.{sym, ap, ◌∙◌, subst, Option, Some, None, slice_get, option_map, cond}
use Rattle.std.proofs.Common.{append_assoc}
use Rattle.std.specs.Prelude.{All}
use Rattle.std.specs.Option.{option_to_list}
use Rattle.std.proofs.lemmas.List.Elements.{All-nil, All-push}
use Rattle.wall_labels.specs.declared.label.Label.{Label}
use Rattle.wall_policy.specs.Policy.{ChineseWall, IsPolicy}
use Rattle.wall_rules.specs.Histories.{History}
use Rattle.mpi_comm.specs.Comms.{fits}
use Rattle.coll_routes.specs.declared.roll.Roll.{Roll}
use Rattle.coll_routes.specs.declared.statement.Stated.{Stated}
use Rattle.coll_routes.specs.Signatures.{is_constructor}
use Rattle.coll_routes.specs.Rolls.{stated_in, label_of, label_in as label_stated}
use Rattle.coll_routes.specs.Fit.{IsFit}
use Rattle.wall_rules.specs.declared.rule.Rule.TheVariants.{Star, Simple}
use Rattle.wall_verdict.specs.declared.verdict.Verdict.{Verdict}
use Rattle.wall_verdict.specs.declared.verdict.Verdict.TheVariants.{Granted, Denied}
use Rattle.wall_verdict.specs.Meanings.{IsVerdict}
use Rattle.wall_verdict.specs.Verdicts.{verdict}
use Rattle.wall_verdict.proofs.WallVerdictLemmas.{verdicts_name_the_least}
use Rattle.run_model.specs.declared.outcome.Outcome.{Outcome}
use Rattle.run_model.specs.declared.outcome.Outcome.TheVariants as outcomes
use Rattle.run_model.specs.declared.entry.Entry.{Entry}
use Rattle.run_model.specs.declared.entry.Entry.TheVariants.{Settled}
use Rattle.run_model.specs.Comms.{Comm, new_comms}
use Rattle.run_model.specs.Posts.{Post, place, filled, comms, outcome, outcome_of}
use Rattle.run_model.specs.Posts.{constructor_outcome as made_of, by_verdict, labelled, histories}
use Rattle.run_model.specs.Books.{AreCounted, book, posted, outcome_entry}
use Rattle.run_model.specs.Known.{IsKnownLabel, IsKnownIfAny, IsKnownOutcome, IsKnownEntry}
use Rattle.run_model.specs.Known.{PostsHaveKnownLabels}
use Rattle.run_model.proofs.AfterLemmas.{labels_at, member_known}
use Rattle.run_model.proofs.CountedLemmas.{taken_accepted}
use Rattle.run_model.proofs.FitLemmas.{filled_is_fit}
use Rattle.run_model.proofs.PostLemmas.{IsFilled, filled_is, stated_by as stated_of, kth_from}

-- ## outcomes

module _ (wall : ChineseWall) (x : Post) (past : List Post) (policy : IsPolicy wall)
    (taken : AreCounted wall (x ∷ past)) (labels : PostsHaveKnownLabels wall (x ∷ past))
    (roll : Roll) (fills : filled (comms wall past) x past ≡ Some roll) where
  filled_as : IsFilled (comms wall past) x past roll
  filled_as = filled_is (comms wall past) x past roll fills

  fit : IsFit roll
  fit = filled_is_fit wall x past roll policy taken fills

  stated_label : (i : ℕ) (label : Label) (o : Option (Option Stated)) →
      slice_get roll.stated i ≡ o → label_stated (stated_in o) ≡ Some label →
      IsKnownLabel wall label
  stated_label i label None at e = absurd (cc)
  stated_label i label (Some None) at e = absurd (cc)
  stated_label i label (Some (Some s)) at e =
      let of = stated_of (comms wall past) x past roll i filled_as s at in
      let y = kth_from x.comm of.0 (place x past) s (x ∷ past) of.2 in
      subst (IsKnownIfAny wall) (ap (λ (t : Stated). t.label) y.states ∙ e)
      (labels_at wall (x ∷ past) y.y y.then y.moment labels).1

  label_named : (i : ℕ) (label : Label) → label_of roll i ≡ Some label → IsKnownLabel wall label
  label_named i label e = stated_label i label (slice_get roll.stated i) refl e

  verdict_named : (has : History) (v : Verdict) → IsVerdict wall has roll v →
      IsKnownOutcome wall (by_verdict v)
  verdict_named has Granted h = tt
  verdict_named has (Denied Star p label) h = (
    member_known wall x past policy taken roll fills h.rank p h.is_member,
    label_named h.rank label h.is_label,
  )
  verdict_named has (Denied Simple p label) h = (
    member_known wall x past policy taken roll fills h.1.receiver p h.1.is_member,
    label_named h.1.contributor label h.1.is_label,
  )

  made_named : (n : ℕ) (new : List Comm) (b : Bool) →
      IsKnownOutcome wall (cond b (outcomes.Made n (length new)) outcomes.NoRoom)
  made_named n new true = tt
  made_named n new false = tt

  by_kind : (has : History) (n : ℕ) (b : Bool) →
      IsKnownOutcome wall (cond b (made_of n (new_comms roll)) (by_verdict (verdict wall has roll)))
  by_kind has n true = made_named n (new_comms roll) (fits n (length (new_comms roll)))
  by_kind has n false =
      verdict_named has (verdict wall has roll) (verdicts_name_the_least wall has roll fit)

  of_filled : (o : Outcome) → outcome wall x past ≡ Some o → IsKnownOutcome wall o
  of_filled o e =
      let told : Some
      (outcome_of wall (labelled (histories wall past) x) (length (comms wall past)) roll) ≡
      Some o =
      sym (ap (λ r. option_map (outcome_of wall (labelled (histories wall past) x)
      (length (comms wall past))) r) fills) ∙ e in
      let same : outcome_of wall (labelled (histories wall past) x) (length (comms wall past)) roll
      ≡ o = cc in
      subst (IsKnownOutcome wall) same (by_kind (labelled (histories wall past) x)
      (length (comms wall past)) (is_constructor roll.sig))

pub outcome_named : (wall : ChineseWall) (x : Post) (past : List Post) → IsPolicy wall →
    AreCounted wall (x ∷ past) → PostsHaveKnownLabels wall (x ∷ past) → (o : Outcome) →
    outcome wall x past ≡ Some o → IsKnownOutcome wall o
outcome_named wall x past policy taken labels o e = go (filled (comms wall past) x past) refl
  where
    go : (r : Option Roll) → filled (comms wall past) x past ≡ r → IsKnownOutcome wall o
    go None fills = let none = sym (ap (λ r. option_map
        (outcome_of wall (labelled (histories wall past) x) (length (comms wall past)))
        r) fills) ∙ e in absurd (cc)
    go (Some roll) fills = of_filled wall x past policy taken labels roll fills o e

-- ## the book

entry_named : (wall : ChineseWall) (x : Post) (past : List Post) → AreCounted wall (x ∷ past) →
    PostsHaveKnownLabels wall (x ∷ past) → IsKnownEntry wall (posted x)
entry_named wall x past taken labels = ((taken_accepted wall x past taken.1).process, labels.1)

entries_named : (wall : ChineseWall) (x : Post) (past : List Post) (before : List Entry)
    (o : Option Outcome) → All (IsKnownEntry wall) before → IsKnownEntry wall (posted x) →
    ((v : Outcome) → o ≡ Some v → IsKnownOutcome wall v) →
    All (IsKnownEntry wall) (before ++ posted x ∷ option_to_list (outcome_entry x past o))
entries_named wall x past before None all one h =
    All-push (IsKnownEntry wall) before (posted x) all one
entries_named wall x past before (Some v) all one h =
    subst (All (IsKnownEntry wall))
    (append_assoc before (posted x ∷ []) (Settled x.comm (place x past) v ∷ []))
    (All-push (IsKnownEntry wall) (before ++ posted x ∷ []) (Settled x.comm (place x past) v)
    (All-push (IsKnownEntry wall) before (posted x) all one) (h v refl))

pub book_named : (wall : ChineseWall) (past : List Post) → IsPolicy wall → AreCounted wall past →
    PostsHaveKnownLabels wall past → All (IsKnownEntry wall) (book wall past)
book_named wall [] policy taken labels = All-nil (IsKnownEntry wall)
book_named wall (x ∷ past) policy taken labels =
    entries_named wall x past (book wall past) (outcome wall x past)
    (book_named wall past policy taken.0 labels.0) (entry_named wall x past taken labels)
    (λ v e. outcome_named wall x past policy taken labels v e)
