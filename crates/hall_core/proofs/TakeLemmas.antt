-- What a take answers, and what it makes of a hall.
use Rattle.std.proofs.Common.{◌≡◌, ◌≢◌, ℕ, ◌+◌, ◌<◌, Bool, true, false, ◌&&◌, ◌||◌, List, []}
use Rattle.std.proofs.Common.{◌∷◌, set, length}
use Rattle.std.proofs.Common.{refl, sym, ap, ◌∙◌, subst, Option, Some, None, slice_get, option_map}
use Rattle.std.proofs.Common.{⊎_elim, inl, inr, eq-eqb, ne_eqb}
use Rattle.std.specs.Prelude.{◌==◌}
use Rattle.std.specs.Option.{is_some}
use Rattle.std.proofs.lemmas.Bool.{cond-true, cond-false, false≢true, and_left}
use Rattle.std.proofs.lemmas.List.{length-set}
use Rattle.wall_policy.specs.Policy.{ChineseWall}
use Rattle.mpi_elems.specs.Contents.{Contents}
use Rattle.mpi_group.specs.Groups.{rank_in}
use Rattle.coll_values.specs.declared.full.Full.{Full}
use Rattle.run_model.specs.declared.refusal.Refusal.TheVariants.{NoSuchRequest, NoMemory}
use Rattle.run_model.specs.declared.outcome.Outcome.{Outcome}
use Rattle.run_model.specs.declared.outcome.Outcome.TheVariants.{Granted, Denied as DeniedBy}
use Rattle.run_model.specs.declared.outcome.Outcome.TheVariants.{Made as MadeComms}
use Rattle.run_model.specs.declared.outcome.Outcome.TheVariants.{NoRoom as NoneMade}
use Rattle.run_model.specs.Comms.{Comm, new_comms}
use Rattle.run_model.specs.Posts.{outcome_at}
use Rattle.run_model.specs.Contributions.{full_at}
use Rattle.run_model.specs.declared.call.Act.{Act}
use Rattle.run_model.specs.declared.call.Act.TheVariants.{Take}
use Rattle.run_model.specs.declared.reply.Reply.{Reply}
use Rattle.run_model.specs.declared.reply.Reply.TheVariants.{Posted, Barred, Pending, Delivered}
use Rattle.run_model.specs.declared.reply.Reply.TheVariants.{NewComm, NullComm, Denied, NoRoom}
use Rattle.run_model.specs.declared.reply.Reply.TheVariants.{Info, Refused}
use Rattle.run_model.specs.Runs.{Effects, requests, MakesNothing, is_outcome, with_taken}
use Rattle.run_model.specs.Replies.{posts_made, comm_at, reply_to_take, reply_by_outcome, reply_by}
use Rattle.run_model.specs.Replies.{join, joined, IsAnswer}
use Rattle.run_model.proofs.RunModelLemmas.{request_member, after_nothing, after_outcome}
use Rattle.run_model.proofs.RunModelLemmas.{comm_at_is}
use Rattle.hall_core.specs.declared.requests.Request.{Request}
use Rattle.hall_core.specs.declared.settled.Settlement.{Settlement}
use Rattle.hall_core.specs.Asking.{opened, taken_at, with_closed}
use Rattle.hall_core.specs.Halls.{HallView, StandsForEffects, settlement, settlement_in}
use Rattle.run_state.specs.Views.{PostStateView}
use Rattle.run_state.specs.Stands.{StandsForPosts}
use Rattle.run_model.specs.Books.{book}
use Rattle.run_model.specs.Proper.{IsProper}
use Rattle.hall_core.specs.Invariant.{IsHallView}
use Rattle.hall_core.specs.Moves.{Closes, Steps}
use Rattle.hall_core.proofs.AskingLemmas.{is_within}
use Rattle.hall_core.proofs.RequestLemmas.{updated_same, updated_other, same_or_not, taken_closed}
use Rattle.hall_core.proofs.RequestLemmas.{opened_closed, not_taken, unknown_or_taken}

-- ## calls that change nothing

pub quiet_steps : (old new : HallView) (p : ℕ) (act : Act) (got : Reply) → new ≡ old →
    MakesNothing got → ((m : Effects) → IsProper old.policy m → StandsForEffects old m →
    IsAnswer (reply_by old.policy m p act) got) → Steps old new p act got
quiet_steps old new p act got same nothing due = λ m is stands. (
  due m is stands,
  subst (λ (n : Effects). StandsForEffects new n) (sym (after_nothing m p act got nothing))
      (subst (λ (s : HallView). StandsForEffects s m) (sym same) stands),
)

-- ## the reply to a take

-- where it is told that there is nothing, there is nothing
pub none_of : {A : Type 0} (o : Option A) (b : Bool) → b ≡ is_some o → b ≡ false → o ≡ None
none_of None b e h = refl
none_of (Some x) b e h = absurd (false≢true (sym h ∙ e))

module _ (hall : HallView) (m : Effects) (stands : StandsForEffects hall m) (p r : ℕ) where
  pub refused_due : opened (hall.asked p) r ≡ None →
      reply_by hall.policy m p (Take r) ≡ Refused NoSuchRequest
  refused_due e = ⊎_elim
      (λ unknown. ap (λ q. reply_to_take hall.policy m p r q) unknown)
      (λ flag. by_request flag (slice_get (requests p (posts_made m)) r))
      (unknown_or_taken hall m stands p r e)
    where
      by_request : m.taken p r ≡ true → (o : Option (ℕ × ℕ)) →
          reply_to_take hall.policy m p r o ≡ Refused NoSuchRequest
      by_request flag None = refl
      by_request flag (Some ck) = cond-true (m.taken p r) (Refused NoSuchRequest)
          (reply_by_outcome p
          (full_at (comm_at hall.policy (posts_made m) ck.0) ck.0 ck.1 m.contributions)
          (outcome_at hall.policy ck.0 ck.1 (posts_made m))) flag

  module _ (q : Request) (waits : opened (hall.asked p) r ≡ Some q) where
    pub open_at : slice_get (requests p (posts_made m)) r ≡ Some (q.comm, q.k)
    open_at = stands.waiting p r q waits

    pub open_due : reply_by hall.policy m p (Take r)
        ≡ reply_by_outcome p
        (full_at (comm_at hall.policy (posts_made m) q.comm) q.comm q.k m.contributions)
        (outcome_at hall.policy q.comm q.k (posts_made m))
    open_due =
        ap (λ ck. reply_to_take hall.policy m p r ck) open_at
        ∙ cond-false (m.taken p r) (Refused NoSuchRequest) _ (not_taken hall m stands p r q waits)

    pub pending_due : hall.settled q.comm q.k ≡ None → reply_by hall.policy m p (Take r) ≡ Pending
    pending_due none = open_due
        ∙ ap (λ o. reply_by_outcome p
        (full_at (comm_at hall.policy (posts_made m) q.comm) q.comm q.k m.contributions) o)
        (unsettled (outcome_at hall.policy q.comm q.k (posts_made m))
        (sym (stands.settled p r q waits) ∙ none))
      where
        unsettled : (o : Option Outcome) →
            option_map (settlement (full_at (comm_at hall.policy (posts_made m) q.comm) q.comm q.k
            m.contributions)) o ≡ None → o ≡ None
        unsettled None e = refl
        unsettled (Some o) e = absurd (cc)

-- what is kept of an instance that was filled
pub record IsKnownAs (wall : ChineseWall) (m : Effects) (c k : ℕ) (s : Settlement) : Type 0 where
  pub came : outcome_at wall c k (posts_made m) ≡ Some s.outcome
  pub full : full_at (comm_at wall (posts_made m) c) c k m.contributions ≡ s.full

settled_as : (wall : ChineseWall) (m : Effects) (c k : ℕ) (s : Settlement) →
    settlement_in wall m c k ≡ Some s → IsKnownAs wall m c k s
settled_as wall m c k s e = go (outcome_at wall c k (posts_made m)) refl e
  where
    go : (o : Option Outcome) → outcome_at wall c k (posts_made m) ≡ o →
        option_map (settlement (full_at (comm_at wall (posts_made m) c) c k m.contributions)) o
        ≡ Some s → IsKnownAs wall m c k s
    go None is e = absurd (cc)
    go (Some o) is e =
        let same : settlement (full_at (comm_at wall (posts_made m) c) c k m.contributions) o ≡ s =
        cc in
        record {
          came = is ∙ ap (λ (t : Settlement). Some t.outcome) same;
          full = ap (λ (t : Settlement). t.full) same;
        }

-- of the instance of an open request
pub known_as : (hall : HallView) (m : Effects) → StandsForEffects hall m →
    (p r : ℕ) (q : Request) (s : Settlement) → opened (hall.asked p) r ≡ Some q →
    hall.settled q.comm q.k ≡ Some s → IsKnownAs hall.policy m q.comm q.k s
known_as hall m stands p r q s waits e =
    settled_as hall.policy m q.comm q.k s (sym (stands.settled p r q waits) ∙ e)

pub settled_due : (hall : HallView) (m : Effects) → StandsForEffects hall m →
    (p r : ℕ) (q : Request) (s : Settlement) → opened (hall.asked p) r ≡ Some q →
    hall.settled q.comm q.k ≡ Some s →
    reply_by hall.policy m p (Take r) ≡ reply_by_outcome p s.full (Some s.outcome)
settled_due hall m stands p r q s waits e =
    let is = known_as hall m stands p r q s waits e in
    open_due hall m stands p r q waits ∙ (λ i. reply_by_outcome p (is.full i) (is.came i))

-- ## a request that is taken

module _ (old new : HallView) (m : Effects) (stands : StandsForEffects old m) (p r : ℕ)
    (low : r < length (old.asked p)) (closes : Closes old new p r) where
  abbrev list : List (Option Request)
  list = set (old.asked p) r None

  now : (n : ℕ) → new.asked n ≡ with_closed old.asked p r n
  now n = ap (λ (f : ℕ → List (Option Request)). f n) closes.asked

  own : (n : ℕ) → n ≡ p → new.asked n ≡ list
  own n is = now n ∙ updated_same old.asked p n list is

  other : (n : ℕ) → n ≢ p → new.asked n ≡ old.asked n
  other n apart = now n ∙ updated_other old.asked p n list apart

  given_now : (n : ℕ) → length (new.asked n) ≡ length (requests n (posts_made m))
  given_now n = ⊎_elim
      (λ is. ap length (own n is)
      ∙ (length-set (old.asked p) r None
      ∙ (stands.given p ∙ ap (λ j. length (requests j (posts_made m))) (sym is))))
      (λ apart. ap length (other n apart) ∙ stands.given n)
      (same_or_not n p)

  taken_now : (n s : ℕ) → taken_at (new.asked n) s ≡ (with_taken m p r).taken n s
  taken_now n s = ⊎_elim
      (λ is. ap (λ l. taken_at l s) (own n is)
      ∙ (taken_closed (old.asked p) r s low
      ∙ (ap (λ b. (r == s) || b) (stands.taken p s ∙ ap (λ j. m.taken j s) (sym is))
      ∙ ap (λ b. (b && r == s) || m.taken n s) (sym (eq-eqb p n (sym is))))))
      (λ apart. ap (λ l. taken_at l s) (other n apart)
      ∙ (stands.taken n s
      ∙ ap (λ b. b || m.taken n s)
      (sym (and_left (p == n) (r == s) (ne_eqb p n (λ e. apart (sym e)))))))
      (same_or_not n p)

  -- who waits has waited before
  waited : (n s : ℕ) (f : Request) → opened (new.asked n) s ≡ Some f →
      opened (old.asked n) s ≡ Some f
  waited n s f e = ⊎_elim
      (λ is. ap (λ j. opened (old.asked j) s) is
      ∙ opened_closed (old.asked p) r s f (sym (ap (λ l. opened l s) (own n is)) ∙ e))
      (λ apart. sym (ap (λ l. opened l s) (other n apart)) ∙ e)
      (same_or_not n p)

  pub stands_taken : StandsForEffects new (with_taken m p r)
  stands_taken = record {
    post_state = subst (λ (w : ChineseWall). StandsForPosts w new.post_state m.contributions)
        (sym closes.policy) (subst
        (λ (k : PostStateView Contents). StandsForPosts old.policy k m.contributions)
        (sym closes.post_state) stands.post_state);
    given = given_now;
    taken = taken_now;
    waiting = λ n s f e. stands.waiting n s f (waited n s f e);
    settled = λ n s f e. closes.kept n s f e
        ∙ (stands.settled n s f (waited n s f e)
        ∙ ap (λ (w : ChineseWall). settlement_in w m f.comm f.k) (sym closes.policy));
    book = closes.book
        ∙ (stands.book ∙ ap (λ (w : ChineseWall). book w (posts_made m)) (sym closes.policy));
  }

join_is : (first : ℕ) (comm : Comm) (o : Option ℕ) (others : Reply) → is_outcome others ≡ true →
    is_outcome (join first comm o others) ≡ true
join_is first comm (Some rank) others h = refl
join_is first comm None others h = h

joined_is : (p first : ℕ) (cs : List Comm) → is_outcome (joined p first cs) ≡ true
joined_is p first [] = refl
joined_is p first (comm ∷ cs) = join_is first comm (rank_in comm.members p)
    (joined p (first + 1) cs) (joined_is p (first + 1) cs)

outcome_is : (p : ℕ) (full : Full Contents) (o : Outcome) →
    is_outcome (reply_by_outcome p full (Some o)) ≡ true
outcome_is p full Granted = refl
outcome_is p full (DeniedBy rule q label) = refl
outcome_is p full (MadeComms first number) = joined_is p first (new_comms full.roll)
outcome_is p full NoneMade = refl

not_quiet : (got : Reply) → is_outcome got ≡ true → MakesNothing got → ⊥
not_quiet (Delivered delivery) h quiet = quiet
not_quiet (NewComm c r n) h quiet = quiet
not_quiet NullComm h quiet = quiet
not_quiet (Denied rule p label) h quiet = quiet
not_quiet NoRoom h quiet = quiet
not_quiet (Posted request) h quiet = quiet
not_quiet (Barred request label) h quiet = quiet
not_quiet Pending h quiet = false≢true h
not_quiet (Info size rank dims) h quiet = false≢true h
not_quiet (Refused refusal) h quiet = false≢true h

pub told_not_quiet : (p : ℕ) (s : Settlement) (got : Reply) →
    got ≡ reply_by_outcome p s.full (Some s.outcome) → MakesNothing got → ⊥
told_not_quiet p s got e quiet =
    not_quiet got (ap is_outcome e ∙ outcome_is p s.full s.outcome) quiet

pub taken_steps : (old new : HallView) (p r : ℕ) (q : Request) (s : Settlement) (got : Reply) →
    opened (old.asked p) r ≡ Some q → old.settled q.comm q.k ≡ Some s →
    got ≡ reply_by_outcome p s.full (Some s.outcome) → Closes old new p r →
    Steps old new p (Take r) got
taken_steps old new p r q s got waits e told closes = λ m is stands. (
  inl (told ∙ sym (settled_due old m stands p r q s waits e)),
  subst (λ (n : Effects). StandsForEffects new n)
      (sym (after_outcome m p r got (ap is_outcome told ∙ outcome_is p s.full s.outcome)))
      (stands_taken old new m stands p r (is_within (old.asked p) r q waits) closes),
)

pub wanting : (hall : HallView) (m : Effects) → StandsForEffects hall m →
    (p r : ℕ) (q : Request) (s : Settlement) → opened (hall.asked p) r ≡ Some q →
    hall.settled q.comm q.k ≡ Some s → s.outcome ≡ Granted →
    IsAnswer (reply_by hall.policy m p (Take r)) (Refused NoMemory)
wanting hall m stands p r q s waits e granted =
    subst (λ due. IsAnswer due (Refused NoMemory)) (sym (settled_due hall m stands p r q s waits e
    ∙ ap (λ o. reply_by_outcome p s.full (Some o)) granted)) (inr (refl, refl))

-- whose request it is is a member of its instance
pub rank_there : (hall : HallView) → IsHallView hall → (p r : ℕ) (q : Request) (s : Settlement) →
    opened (hall.asked p) r ≡ Some q → hall.settled q.comm q.k ≡ Some s →
    rank_in s.full.roll.members p ≢ None
rank_there hall is p r q s waits e none =
    let known = known_as hall is.effects is.stands p r q s waits e in
    let member = request_member hall.policy (posts_made is.effects) p r (q.comm, q.k)
    is.is_made.proper.posts (open_at hall is.effects is.stands p r q waits) in
    let same : s.full.roll.members ≡ member.comm.members = ap
    (λ (f : Full Contents). f.roll.members) (sym known.full) ∙ ap (λ (n : Comm). n.members)
    (comm_at_is hall.policy (posts_made is.effects) q.comm member.comm member.at) in
    let both : Some member.rank ≡ None = sym member.is_member ∙
    (ap (λ ms. rank_in ms p) (sym same) ∙ none) in
    absurd (cc)
