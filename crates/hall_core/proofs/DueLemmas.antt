-- Takes in two steps: what a look finds, and what a close makes of a hall.
use Rattle.std.proofs.Common.{◌≡◌, ◌≢◌, ℕ, ◌<◌, ◌≤◌, List, Some, None}
use Rattle.std.proofs.Common.{refl, sym, ap, ◌∙◌, subst, length, ⊎_elim, inl}
use Rattle.std.specs.Prelude.{unwrap_or}
use Rattle.mpi_elems.specs.Contents.{Contents}
use Rattle.mpi_group.specs.Groups.{rank_in}
use Rattle.coll_values.specs.declared.full.Full.{Full}
use Rattle.coll_values.specs.declared.delivery.Block.{Block}
use Rattle.coll_values.specs.Values.{value}
use Rattle.run_model.specs.declared.outcome.Outcome.TheVariants.{Granted}
use Rattle.run_model.specs.declared.call.Act.TheVariants.{Take}
use Rattle.run_model.specs.declared.refusal.Refusal.TheVariants.{NoMemory, NoSuchRequest}
use Rattle.run_model.specs.declared.reply.Reply.{Reply}
use Rattle.run_model.specs.declared.reply.Reply.TheVariants.{Delivered, Pending, Refused}
use Rattle.run_model.specs.Runs.{MakesNothing, effects}
use Rattle.run_model.specs.Replies.{reply_by_outcome}
use Rattle.run_model.specs.Known.{IsKnownReply}
use Rattle.hall_core.specs.declared.claims.Claim.{Claim}
use Rattle.hall_core.specs.declared.claims.Claim.TheVariants.{Done, Ready}
use Rattle.hall_core.specs.declared.looks.Due.{Due}
use Rattle.hall_core.specs.declared.looks.Due.TheVariants as dues
use Rattle.hall_core.specs.declared.looks.Open.{Open}
use Rattle.hall_core.specs.declared.requests.Request.{Request}
use Rattle.hall_core.specs.declared.settled.Settlement.{Settlement}
use Rattle.hall_core.specs.Asking.{Asked, opened, requests_of}
use Rattle.hall_core.specs.Claims.{to_take, claim_reply, HoldsShare, HoldsWhatIsKept, IsHeld}
use Rattle.hall_core.specs.Claims.{IsUngranted}
use Rattle.hall_core.specs.Halls.{HallValue, HallView, settlement, view_of}
use Rattle.hall_core.specs.Invariant.{IsHallView}
use Rattle.hall_core.specs.Looks.{IsOf, IsOpen, IsDue, IsOutcome, Finds, due_reply}
use Rattle.hall_core.specs.Looks.{instance_for}
use Rattle.hall_core.specs.Moves.{Closes, FindsIn, FindsOn, IsGrantIn, Steps}
use Rattle.hall_core.proofs.CountLemmas.{nobody_asks}
use Rattle.hall_core.proofs.TakeLemmas.{quiet_steps, refused_due, pending_due, settled_due}
use Rattle.hall_core.proofs.TakeLemmas.{taken_steps, told_not_quiet, wanting}
use Rattle.hall_core.proofs.ClaimLemmas.{share_claimed}
use Rattle.hall_core.proofs.ApplyLemmas.{applied, asked_in, stands_for}
use Rattle.hall_core.proofs.NamedLemmas.{answer_named, step_named}

-- who has an open request is a process
pub is_process : (asked : List Asked) (p r : ℕ) (q : Request) →
    opened (requests_of asked p) r ≡ Some q → p < length asked
is_process asked p r q e = ⊎_elim
    (λ (low : p < length asked). low)
    (λ (past : length asked ≤ p). let never : None ≡ Some q = sym
    (ap (λ l. opened l r) (nobody_asks asked (length asked) p refl past)) ∙ e in absurd (cc))
    (Rattle.std.proofs.lemmas.Bool.cases_lt p (length asked))

-- ## what is found

pub finds_refused : (hall : HallView) (p r : ℕ) → opened (hall.asked p) r ≡ None →
    FindsIn hall p r (dues.Told (Refused NoSuchRequest))
finds_refused hall p r none = (
  quiet_steps hall hall p (Take r) (Refused NoSuchRequest) refl tt
      (λ m is stands. inl (sym (refused_due hall m stands p r none))),
  tt,
  tt,
  (λ e. absurd (cc)),
)

pub finds_pending : (hall : HallView) (p r : ℕ) (q : Request) → opened (hall.asked p) r ≡ Some q →
    hall.settled q.comm q.k ≡ None → FindsIn hall p r (dues.Told Pending)
finds_pending hall p r q waits none = (
  quiet_steps hall hall p (Take r) Pending refl tt
      (λ m is stands. inl (sym (pending_due hall m stands p r q waits none))),
  tt,
  tt,
  (λ e. absurd (cc)),
)

pub finds_settled : (hall : HallView) (p r : ℕ) (it : Open) (s : Settlement) (due : Due) →
    IsOf it p r → IsOpen hall it s → FindsOn s p it due → FindsIn hall p r due
finds_settled hall p r it s (dues.Told got) of is_open on = absurd on
finds_settled hall p r it s (dues.Outcome got found) of is_open on = record {
  of = subst (λ (o : Open). IsOf o p r) (sym on.0) of;
  due = record {
    outcome = s;
    is_open = subst (λ (o : Open). IsOpen hall o s) (sym on.0) is_open;
    told = on.1 ∙ ap (λ q. reply_by_outcome q s.full (Some s.outcome))
        (sym (ap (λ (o : Open). o.process) on.0 ∙ of.process));
  };
  no_delivery = on.2;
}
finds_settled hall p r it s (dues.Granted full rank found) of is_open on = record {
  of = subst (λ (o : Open). IsOf o p r) (sym on.0) of;
  is_open = subst (λ (o : Open). IsOpen hall o (settlement full.now Granted)) (sym on.0)
      (subst (λ (t : Settlement). IsOpen hall it t) on.1 is_open);
  is_member = on.2;
  can = on.3;
}

-- ## requests that are closed

-- the call that takes it, by its process and number
pub steps_of : (old new : HallView) (p r : ℕ) (it : Open) (got : Reply) → IsOf it p r →
    Steps old new it.process (Take it.request) got → Steps old new p (Take r) got
steps_of old new p r it got of steps =
    subst (λ q. Steps old new q (Take r) got) of.process
    (subst (λ n. Steps old new it.process (Take n) got) of.number steps)

pub due_steps : (old new : HallView) (it : Open) (got : Reply) → IsDue old it got →
    Closes old new it.process it.request → Steps old new it.process (Take it.request) got
due_steps old new it got due closes =
    taken_steps old new it.process it.request (instance_for it) due.outcome got due.is_open.waits
    due.is_open.came due.told closes

pub due_not_quiet : (hall : HallView) (it : Open) (got : Reply) → IsDue hall it got →
    MakesNothing got → ⊥
due_not_quiet hall it got due quiet = told_not_quiet it.process due.outcome got due.told quiet

pub outcome_steps : (old new : HallView) (p r : ℕ) (got : Reply) (it : Open) →
    IsOutcome old p r got it → Closes old new it.process it.request → Steps old new p (Take r) got
outcome_steps old new p r got it is closes =
    steps_of old new p r it got is.of (due_steps old new it got is.due closes)

module _ (hall : HallView) (p r : ℕ) (full : Full Contents) (rank : ℕ) (it : Open)
    (grant : IsGrantIn hall p r full rank it) where
  pub grant_due : IsDue hall it (Delivered (value full rank))
  grant_due = record {
    outcome = settlement full Granted;
    is_open = grant.is_open;
    told = sym (ap (λ q. reply_by_outcome q full (Some Granted)) grant.of.process
        ∙ ap (λ o. Delivered (value full (unwrap_or o 0))) grant.is_member);
  }

  pub grant_steps : (new : HallView) (got : List Block) → got ≡ value full rank →
      Closes hall new it.process it.request → Steps hall new p (Take r) (Delivered got)
  grant_steps new got e closes = steps_of hall new p r it (Delivered got) grant.of
      (due_steps hall new it (Delivered got)
      (subst (λ d. IsDue hall it (Delivered d)) (sym e) grant_due) closes)

  -- or there is no memory for it
  pub grant_wanting : Steps hall hall p (Take r) (Refused NoMemory)
  grant_wanting = steps_of hall hall p r it (Refused NoMemory) grant.of
      (quiet_steps hall hall it.process (Take it.request) (Refused NoMemory) refl tt
      (λ m is stands. wanting hall m stands it.process it.request (instance_for it)
      (settlement full Granted) grant.is_open.waits grant.is_open.came refl))

  pub grant_held : IsHeld hall p r full rank
  grant_held = record {
    asked = instance_for it;
    waits = (λ i. opened (hall.asked (sym grant.of.process i)) (sym grant.of.number i))
        ∙ grant.is_open.waits;
    granted = grant.is_open.came;
    is_member = grant.is_member;
  }

-- what was not granted is found so
pub not_granted : (hall : HallView) (p r : ℕ) (full : Full Contents) (rank : ℕ) (it : Open) →
    IsUngranted hall p r → IsGrantIn hall p r full rank it → ⊥
not_granted hall p r full rank it u grant =
    let held = grant_held hall p r full rank it grant in
    let some : Some u.asked ≡ Some held.asked = sym u.waits ∙ held.waits in
    let same : u.asked ≡ held.asked = cc in
    let came : Some u.outcome ≡ Some (settlement full Granted) = sym u.came
    ∙ ap (λ (q : Request). hall.settled q.comm q.k) same ∙ held.granted in
    let granted : u.outcome ≡ settlement full Granted = cc in
    u.other (ap (λ (s : Settlement). s.outcome) granted)

-- ## claims

module _ (hall : HallView) (p r : ℕ) (q : Request) (full : Full Contents)
    (waits : opened (hall.asked p) r ≡ Some q)
    (came : hall.settled q.comm q.k ≡ Some (settlement full Granted)) where
  shared_told : (claim : Claim) → HoldsShare p full claim →
      claim_reply claim ≡ reply_by_outcome p full (Some Granted)
  shared_told (Done got) holds = absurd holds
  shared_told (Ready shared rank room) holds =
      (λ i. Delivered (value (holds.0 i) rank))
      ∙ sym (ap (λ o. Delivered (value full (unwrap_or o 0))) holds.1)

  pub shared_holds : (claim : Claim) → HoldsShare p full claim → HoldsWhatIsKept hall p r claim
  shared_holds (Done got) holds = absurd holds
  shared_holds (Ready shared rank room) holds = record {
    asked = q;
    waits = waits;
    granted = came ∙ ap (λ (F : Full Contents). Some (settlement F Granted)) (sym holds.0);
    is_member = ap (λ (F : Full Contents). rank_in F.roll.members p) holds.0 ∙ holds.1;
  }

  pub shared_steps : (new : HallView) (claim : Claim) → HoldsShare p full claim →
      Closes hall new p r → Steps hall new p (Take r) (claim_reply claim)
  shared_steps new claim holds closes =
      taken_steps hall new p r q (settlement full Granted) (claim_reply claim) waits came
      (shared_told claim holds) closes

  pub shared_not_quiet : (claim : Claim) → HoldsShare p full claim →
      MakesNothing (claim_reply claim) → ⊥
  shared_not_quiet claim holds =
      told_not_quiet p (settlement full Granted) (claim_reply claim) (shared_told claim holds)

  -- or there is no memory for it
  pub shared_wanting : Steps hall hall p (Take r) (Refused NoMemory)
  shared_wanting = quiet_steps hall hall p (Take r) (Refused NoMemory) refl tt
      (λ m is stands. wanting hall m stands p r q (settlement full Granted) waits came refl)

-- ## in a hall

pub finds : (hall : HallValue) (p r : ℕ) (due : Due) → FindsIn (view_of hall) p r due →
    Finds hall p r due
unfolding grant_held
finds hall p r (dues.Told got) found = applied hall hall (to_take p r) got refl found.0
finds hall p r (dues.Outcome got it) found = found
finds hall p r (dues.Granted full rank it) found = record {
  of = found.of;
  due = grant_due (view_of hall) p r full.now rank it found;
  can = found.can;
  asked = λ run stands. asked_in hall run p r (instance_for it) stands
      (grant_held (view_of hall) p r full.now rank it found).waits;
  claimed = λ run stands.
      let of = stands_for hall run stands in
      share_claimed (view_of hall) of.kept (effects run) of.stands of.same p r full.now rank
      (grant_held (view_of hall) p r full.now rank it found);
  wanting = applied hall hall (to_take p r) (Refused NoMemory) refl
      (grant_wanting (view_of hall) p r full.now rank it found);
}

due_named : (hall : HallView) (it : Open) (got : Reply) → IsHallView hall → IsDue hall it got →
    IsKnownReply hall.policy got
due_named hall it got is due =
    answer_named hall.policy is.effects it.process (Take it.request) got is.policy is.is_made tt
    (inl (due.told ∙ sym (settled_due hall is.effects is.stands it.process it.request
    (instance_for it) due.outcome due.is_open.waits due.is_open.came)))

pub found_named : (hall : HallView) (p r : ℕ) (due : Due) → IsHallView hall →
    FindsIn hall p r due → IsKnownReply hall.policy (due_reply due)
found_named hall p r (dues.Told got) is found =
    step_named hall hall p (Take r) got is tt found.0
found_named hall p r (dues.Outcome got it) is found = due_named hall it got is found.due
found_named hall p r (dues.Granted full rank it) is found = tt

-- a look takes no memory
pub wants_none : (hall : HallView) (p r : ℕ) (due : Due) → FindsIn hall p r due →
    due_reply due ≢ Refused NoMemory
wants_none hall p r (dues.Told got) found = found.3
wants_none hall p r (dues.Outcome got it) found = λ e.
    due_not_quiet hall it got found.due (subst MakesNothing (sym e) tt)
wants_none hall p r (dues.Granted full rank it) found = λ e. absurd (cc)
