-- The outcome of a full instance, and what is known of an arrival.
use Rattle.std.proofs.Common.{◌≡◌, ◌≢◌, ℕ, suc, ◌<◌, List, [], ◌∷◌, length, refl, sym}
use Rattle.std.proofs.Common.{ap, ◌∙◌, subst, arith, true, false, ◌&&◌, ◌||◌, Option, Some, None}
use Rattle.std.proofs.Common.{slice_get, ⊎_elim}
use Rattle.std.specs.Prelude.{IsSome, nat_lt}
use Rattle.std.proofs.lemmas.Bool.{cases_Bool, cond-true, cond-false, and_from, lt-ltb}
use Rattle.wall_policy.specs.Policy.{ChineseWall}
use Rattle.wall_rules.specs.Histories.{History}
use Rattle.coll_values.specs.declared.full.Full.{Full}
use Rattle.coll_routes.specs.declared.statement.Stated.{Stated}
use Rattle.coll_routes.specs.declared.roll.Roll.{Roll}
use Rattle.coll_routes.specs.declared.roll.Shape.{Shape}
use Rattle.mpi_elems.specs.declared.elem_type.ElemType.{ElemType}
use Rattle.mpi_group.specs.Groups.{rank_in}
use Rattle.coll_routes.specs.declared.signature.Signature.{Signature}
use Rattle.coll_routes.specs.declared.statement.Own.{Own}
use Rattle.coll_routes.specs.Faults.{shape_fault}
use Rattle.coll_routes.specs.Signatures.{is_constructor}
use Rattle.coll_routes.specs.Rolls.{stated_in}
use Rattle.coll_routes.specs.Fit.{IsFit}
use Rattle.coll_pending.specs.declared.arrival.Arrived.{Arrived}
use Rattle.coll_pending.specs.declared.arrival.Arrived.TheVariants as arrived
use Rattle.coll_pending.specs.declared.arrival.Next.{Next}
use Rattle.coll_pending.specs.declared.arrival.Next.TheVariants.{Opens, Joins, Fills, Mismatch}
use Rattle.coll_pending.specs.declared.arrival.ArrivalFault.{ArrivalFault}
use Rattle.coll_pending.specs.declared.arrival.ArrivalFault.TheVariants as faults
use Rattle.coll_routes.specs.Rolls.{is_full}
use Rattle.coll_pending.specs.Instances.{Communicator}
use Rattle.coll_pending.specs.declared.arrival.Meeting.{Meeting}
use Rattle.coll_pending.specs.Waiting.{PendingView, IsKnownAs, HasArrived, fault_at, before, next}
use Rattle.coll_pending.specs.Waiting.{meeting_of}
use Rattle.wall_verdict.specs.declared.verdict.Verdict.{Verdict}
use Rattle.wall_verdict.specs.declared.verdict.Verdict.TheVariants as verdicts
use Rattle.wall_verdict.specs.Verdicts.{verdict}
use Rattle.wall_verdict.specs.Grants.{settled, charged_to, is_granted as is_granting}
use Rattle.run_model.specs.Comms.{Comm, new_comms, shape_of}
use Rattle.run_model.specs.Posts.{constructor_outcome, by_verdict, outcome_of, with_delivery}
use Rattle.run_model.specs.Posts.{is_granted}
use Rattle.run_model.specs.declared.outcome.Outcome.{Outcome}
use Rattle.run_state.specs.declared.entered.Entered.TheVariants.{Settled}
use Rattle.run_model.specs.Contributions.{Contribution}
use Rattle.run_model.specs.declared.refusal.Refusal.TheVariants as refusals
use Rattle.run_state.specs.Views.{PostStateView, communicator_of, fault_after, fault_as, fault_on}
use Rattle.run_state.specs.Views.{fault_among, LookedAmong}
use Rattle.run_state.specs.Entering.{Answers, after, written}
use Rattle.run_state.specs.Upcoming.{IsNext, roll_next, constructed}
use Rattle.run_state.proofs.LaidLemmas.{some_at}
use Rattle.run_state.proofs.SeenLemmas.{roll_is, fit_next, no_fault_after}

-- ## verdicts

all_some : (rows : List (Option Stated)) →
    ((i : ℕ) → i < length rows → IsSome (stated_in (slice_get rows i))) → is_full rows ≡ true
all_some [] each = refl
all_some (None ∷ rows) each = each 0 (omega arith)
all_some (Some s ∷ rows) each = all_some rows (λ i lt. each (suc i) (omega (arith, lt)))

full_of_fit : (roll : Roll) → IsFit roll → is_full roll.stated ≡ true
full_of_fit roll fit =
    all_some roll.stated (λ i lt. fit.full i (subst (λ n. i < n) fit.sound.rows lt))

pub not_constructor : (answer : Option Outcome) (count : ℕ) (roll : Roll) → IsFit roll →
    answer ≡ None → answer ≡ constructed count roll → is_constructor roll.sig ≡ false
not_constructor answer count roll fit none is = ⊎_elim
    (λ t. let bad = sym none ∙ (is
    ∙ cond-true (is_constructor roll.sig && is_full roll.stated)
    (Some (constructor_outcome count (new_comms roll))) None
    (and_from (is_constructor roll.sig) (is_full roll.stated) t
    (full_of_fit roll fit))) in absurd (cc))
    (λ f. f)
    (cases_Bool (is_constructor roll.sig))

pub verdict_outcome : (wall : ChineseWall) (held : History) (count : ℕ) (roll : Roll) →
    is_constructor roll.sig ≡ false →
    by_verdict (verdict wall held roll) ≡ outcome_of wall held count roll
verdict_outcome wall held count roll plain = sym (cond-false (is_constructor roll.sig)
    (constructor_outcome count (new_comms roll)) (by_verdict (verdict wall held roll)) plain)

granted_by : (v : Verdict) → is_granting v ≡ is_granted (by_verdict v)
granted_by verdicts.Granted = refl
granted_by (verdicts.Denied rule p label) = refl

pub verdict_pairs : (wall : ChineseWall) (held : History) (count : ℕ) (roll : Roll) →
    is_constructor roll.sig ≡ false →
    settled wall held roll ≡ with_delivery wall held count (Some roll)
verdict_pairs wall held count roll plain =
    let same : is_granting (verdict wall held roll) ≡ is_granted (outcome_of wall held count roll) =
    granted_by (verdict wall held roll) ∙ ap is_granted
    (verdict_outcome wall held count roll plain) in
    λ i p d. held p d || (same i && charged_to wall roll p d)

-- ## arrivals

pub known_as : (members : List ℕ) (shape : Shape) (comm : Comm) (o : Option Communicator) →
    members ≡ comm.members → shape ≡ shape_of comm → IsKnownAs (communicator_of comm) o →
    IsKnownAs (record { members = members; shape = shape }) o
known_as members shape comm o m s h =
    let same : communicator_of comm ≡ record { members = members; shape = shape } = λ i. record
    { members = sym m i; shape = sym s i } in
    subst (λ (k : Communicator). IsKnownAs k o) same h

pub arrived_for : {X : Type 0} (old new : PendingView X) (c rank : ℕ) (members : List ℕ)
    (shape : Shape) (comm : Comm) (s : Stated) (part : X) (a : Arrived X) →
    members ≡ comm.members → shape ≡ shape_of comm →
    HasArrived old new c rank (record { members = members; shape = shape }) s part a →
    HasArrived old new c rank (communicator_of comm) s part a
arrived_for {X} old new c rank members shape comm s part a m sh h =
    let same : record { members = members; shape = shape } ≡ communicator_of comm = λ i. record
    { members = m i; shape = sh i } in
    subst (λ (k : Communicator). HasArrived old new c rank k s part a) same h

pub no_err : (n : Next) (f : ArrivalFault) → n ≢ Mismatch → f ≡ fault_at n → f ≢ faults.NoMemory → ⊥
no_err Opens f agrees is not_memory = not_memory is
no_err Joins f agrees is not_memory = not_memory is
no_err Fills f agrees is not_memory = not_memory is
no_err Mismatch f agrees is not_memory = agrees refl

module _ {X : Type 0} (wall : ChineseWall) (count : ℕ) (old : PostStateView X)
    (waiting : PendingView X) (comm : Comm) (rank : ℕ) (g : Contribution X) (full : Full X)
    (is : IsNext old.waiting g.post.comm rank comm g.post.stated) (arrives :
    HasArrived old.waiting waiting g.post.comm rank (communicator_of comm) g.post.stated g.part
    (arrived.Full full)) where
  pub roll_full : full.roll ≡ roll_next old.waiting g.post.comm rank comm g.post.stated
  roll_full =
      arrives.1 ∙ roll_is comm rank g.post.stated g.part (before old.waiting g.post.comm rank)

  pub fit_full : IsFit full.roll
  fit_full =
      let joins : (after old (record { rank = rank; comm = comm }) g).roll ≡ roll_next old.waiting
      g.post.comm rank comm g.post.stated = roll_is comm rank g.post.stated g.part
      (before old.waiting g.post.comm rank) in
      subst IsFit (sym roll_full) (fit_next old.waiting g.post.comm rank comm g.post.stated is
      (subst (λ (r : Roll). is_full r.stated ≡ true) joins arrives.0))

  pub answers_full : (k : ℕ) (outcome : Outcome) (mid : History) →
      k ≡ old.waiting.arrivals g.post.comm rank → mid ≡ written old g →
      outcome ≡ outcome_of wall mid count full.roll →
      Answers wall count old (record { rank = rank; comm = comm }) g (Settled full k outcome)
  answers_full k outcome mid place mid_is comes = (
    place,
    arrives.0,
    arrives.1,
    arrives.2,
    comes ∙ (λ i. outcome_of wall (mid_is i) count (arrives.1 i)),
    fit_full,
  )

-- ## refusals, by the parts of a state

module _ {X : Type 0} (number : ℕ) (table : List Comm) (waiting : PendingView X) (p c : ℕ)
    (members : List ℕ) (lt : c < length table)
    (group : (found : Comm) → slice_get table c ≡ Some found → members ≡ found.members) where
  abbrev here : (found : Comm) × (slice_get table c ≡ Some found)
  here = some_at table c lt

  rank_here : (o : Option ℕ) → o ≡ rank_in members p → rank_in here.0.members p ≡ o
  rank_here o e = sym (e ∙ ap (λ ms. rank_in ms p) (group here.0 here.1))

  pub told_some :
      (shape : Shape) (rank : ℕ) (sig : Signature) (own : Own) (ty : ElemType) (given : ℕ) →
      p < number → ((found : Comm) → slice_get table c ≡ Some found → shape ≡ shape_of found) →
      Some rank ≡ rank_in members p →
      fault_after (shape_fault shape rank sig own ty given) (next waiting c rank sig)
      ≡ fault_among number table waiting p c sig own ty given
  told_some shape rank sig own ty given low shapes at =
      (λ i. fault_after (shape_fault (shapes here.0 here.1 i) rank sig own ty given)
      (next waiting c rank sig))
      ∙ (ap (λ o. fault_as waiting c here.0 o sig own ty given) (sym (rank_here (Some rank) at))
      ∙ (ap (λ o. fault_on waiting p c o sig own ty given) (sym here.1)
      ∙ sym (cond-true (nat_lt p number) (fault_on waiting p c (slice_get table c) sig own ty given)
      (Some refusals.NoSuchProcess) (lt-ltb p number low))))

  pub told_none : (sig : Signature) (own : Own) (ty : ElemType) (given : ℕ) → p < number →
      None ≡ rank_in members p →
      Some refusals.NotMember ≡ fault_among number table waiting p c sig own ty given
  told_none sig own ty given low at =
      ap (λ o. fault_as waiting c here.0 o sig own ty given) (sym (rank_here None at))
      ∙ (ap (λ o. fault_on waiting p c o sig own ty given) (sym here.1)
      ∙ sym (cond-true (nat_lt p number) (fault_on waiting p c (slice_get table c) sig own ty given)
      (Some refusals.NoSuchProcess) (lt-ltb p number low)))

  pub looked_some : (shape : Shape) (meeting : Meeting) (rank : ℕ) (sig : Signature) (own : Own)
      (ty : ElemType) (given : ℕ) →
      ((found : Comm) → slice_get table c ≡ Some found → shape ≡ shape_of found) →
      Some rank ≡ rank_in members p → meeting ≡ meeting_of waiting c rank sig →
      None ≡ fault_after (shape_fault shape rank sig own ty given) meeting.does →
      LookedAmong table waiting (record { process = p; meeting = meeting }) sig own ty given
  looked_some shape meeting rank sig own ty given shapes at is none =
      let both = no_fault_after (shape_fault shape rank sig own ty given) meeting.does (sym none) in
      let place = ap (λ (m : Meeting). m.comm) is in
      let own_rank = ap (λ (m : Meeting). m.rank) is in
      record {
        comm = here.0;
        there = ap (λ n. slice_get table n) place ∙ here.1;
        rank = rank_here (Some rank) at ∙ ap (λ n. Some n) (sym own_rank);
        faultless = (λ i. shape_fault (sym (shapes here.0 here.1) i) (own_rank i) sig own ty
            given) ∙ both.0;
        met = is ∙ (λ i. meeting_of waiting (sym place i) (sym own_rank i) sig);
        agrees = both.1;
      }
