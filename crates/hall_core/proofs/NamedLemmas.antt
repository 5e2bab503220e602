-- What a hall keeps and answers names what the policy has.
use Rattle.std.proofs.Common.{◌≡◌, ℕ, ◌+◌, Bool, true, false, List, [], ◌∷◌}
use Rattle.std.proofs.Common.{refl, sym, subst, Option, Some, None, slice_get}
use Rattle.std.proofs.Common.{cond, inl, inr}
use Rattle.std.specs.Prelude.{◌==◌, nat_lt}
use Rattle.wall_labels.specs.declared.label.Label.{Label}
use Rattle.wall_policy.specs.Policy.{ChineseWall, IsPolicy}
use Rattle.mpi_elems.specs.Contents.{Contents}
use Rattle.mpi_group.specs.Groups.{rank_in}
use Rattle.coll_values.specs.declared.full.Full.{Full}
use Rattle.run_model.specs.declared.refusal.Refusal.{Refusal}
use Rattle.run_model.specs.declared.outcome.Outcome.{Outcome}
use Rattle.run_model.specs.declared.outcome.Outcome.TheVariants as outcomes
use Rattle.run_model.specs.Comms.{Comm, processes, new_comms}
use Rattle.run_model.specs.Posts.{Post, comms}
use Rattle.run_model.specs.Posts.{outcome_at}
use Rattle.run_model.specs.Books.{AreCounted}
use Rattle.run_model.proofs.RunModelLemmas.{taken_at, entry_of}
use Rattle.run_model.proofs.RunModelLemmas.{proper_step, settled_from, labels_at}
use Rattle.run_model.proofs.RunModelLemmas.{outcome_named}
use Rattle.run_model.specs.declared.call.Posting.{Posting}
use Rattle.run_model.specs.declared.call.Act.{Act}
use Rattle.run_model.specs.declared.call.Act.TheVariants.{Post as ToPost, Take, Info as ToInfo}
use Rattle.run_model.specs.declared.reply.Reply.{Reply}
use Rattle.run_model.specs.declared.reply.Reply.TheVariants as replies
use Rattle.run_model.specs.Runs.{Effects, requests, given_in, label_if, after_entry}
use Rattle.run_model.specs.Replies.{posts_made, comm_at, refusal, accepted, reply_to_post}
use Rattle.run_model.specs.Replies.{reply_to_take, reply_by_outcome, reply_by, join, joined}
use Rattle.run_model.specs.Replies.{info_by, info_on, IsAnswer}
use Rattle.run_model.specs.Contributions.{full_at}
use Rattle.hall_core.specs.Halls.{HallView}
use Rattle.hall_core.specs.Invariant.{IsMade, IsHallView}
use Rattle.hall_core.specs.Moves.{Steps}
use Rattle.run_model.specs.Known.{IsKnownLabel, HasKnownLabel, IsKnownReply, IsKnownIfAny}
use Rattle.run_model.specs.Known.{IsKnownOutcome, PostsHaveKnownLabels}

-- ## outcomes

settled_named : (wall : ChineseWall) (past : List Post) → IsPolicy wall → AreCounted wall past →
    PostsHaveKnownLabels wall past → (c k : ℕ) (o : Outcome) → outcome_at wall c k past ≡ Some o →
    IsKnownOutcome wall o
settled_named wall past policy taken labels c k o e =
    let h = settled_from wall c k past o e in
    outcome_named wall h.x h.before policy (taken_at wall past h.x h.before h.moment taken)
    (labels_at wall past h.x h.before h.moment labels) o h.came

-- ## replies

accepted_named : (wall : ChineseWall) (passed : Bool) (request : ℕ) (label : Label) →
    IsKnownLabel wall label → IsKnownReply wall (accepted passed request label)
accepted_named wall true request label known = tt
accepted_named wall false request label known = known

post_named : (wall : ChineseWall) (m : Effects) (p : ℕ) (posting : Posting) (o : Option Refusal) →
    IsKnownLabel wall posting.label → IsKnownReply wall (reply_to_post wall m p posting o)
post_named wall m p posting (Some r) known = tt
post_named wall m p posting None known = accepted_named wall _ _ posting.label known

join_named : (wall : ChineseWall) (first : ℕ) (comm : Comm) (o : Option ℕ) (others : Reply) →
    IsKnownReply wall others → IsKnownReply wall (join first comm o others)
join_named wall first comm (Some rank) others h = tt
join_named wall first comm None others h = h

joined_named : (wall : ChineseWall) (p first : ℕ) (cs : List Comm) →
    IsKnownReply wall (joined p first cs)
joined_named wall p first [] = tt
joined_named wall p first (comm ∷ cs) = join_named wall first comm (rank_in comm.members p)
    (joined p (first + 1) cs) (joined_named wall p (first + 1) cs)

came_named : (wall : ChineseWall) (p : ℕ) (full : Full Contents) (o : Option Outcome) →
    ((v : Outcome) → o ≡ Some v → IsKnownOutcome wall v) →
    IsKnownReply wall (reply_by_outcome p full o)
came_named wall p full None h = tt
came_named wall p full (Some outcomes.Granted) h = tt
came_named wall p full (Some (outcomes.Denied rule q label)) h =
    h (outcomes.Denied rule q label) refl
came_named wall p full (Some (outcomes.Made first number)) h =
    joined_named wall p first (new_comms full.roll)
came_named wall p full (Some outcomes.NoRoom) h = tt

either_named : (wall : ChineseWall) (b : Bool) (x y : Reply) → IsKnownReply wall x →
    IsKnownReply wall y → IsKnownReply wall (cond b x y)
either_named wall true x y h k = h
either_named wall false x y h k = k

take_named : (wall : ChineseWall) (m : Effects) (p r : ℕ) (o : Option (ℕ × ℕ)) →
    ((c k : ℕ) (v : Outcome) → outcome_at wall c k (posts_made m) ≡ Some v →
    IsKnownOutcome wall v) → IsKnownReply wall (reply_to_take wall m p r o)
take_named wall m p r None h = tt
take_named wall m p r (Some (c, k)) h = either_named wall (m.taken p r) _ _ tt
    (came_named wall p (full_at (comm_at wall (posts_made m) c) c k m.contributions)
    (outcome_at wall c k (posts_made m)) (h c k))

rank_named : (wall : ChineseWall) (comm : Comm) (o : Option ℕ) → IsKnownReply wall (info_by comm o)
rank_named wall comm None = tt
rank_named wall comm (Some rank) = tt

info_named : (wall : ChineseWall) (p : ℕ) (o : Option Comm) → IsKnownReply wall (info_on p o)
info_named wall p None = tt
info_named wall p (Some comm) = rank_named wall comm (rank_in comm.members p)

due_named : (wall : ChineseWall) (m : Effects) (p : ℕ) (act : Act) → IsPolicy wall → IsMade wall m →
    HasKnownLabel wall act → IsKnownReply wall (reply_by wall m p act)
due_named wall m p (ToPost posting) policy is label =
    post_named wall m p posting (refusal wall m p posting) label
due_named wall m p (Take r) policy is label = take_named wall m p r
    (slice_get (requests p (posts_made m)) r)
    (λ c k v e. settled_named wall (posts_made m) policy is.proper.posts is.labels c k v e)
due_named wall m p (ToInfo c) policy is label = either_named wall (nat_lt p (processes wall)) _ _
    (info_named wall p (slice_get (comms wall (posts_made m)) c)) tt

pub answer_named : (wall : ChineseWall) (m : Effects) (p : ℕ) (act : Act) (got : Reply) →
    IsPolicy wall → IsMade wall m → HasKnownLabel wall act → IsAnswer (reply_by wall m p act) got →
    IsKnownReply wall got
answer_named wall m p act got policy is label (inl e) =
    subst (IsKnownReply wall) (sym e) (due_named wall m p act policy is label)
answer_named wall m p act got policy is label (inr e) = subst (IsKnownReply wall) (sym e.1) tt

-- ## a call

given_known : (wall : ChineseWall) (given : ℕ) (label : Label) → IsKnownLabel wall label →
    IsKnownIfAny wall (label_if given label)
given_known wall given label known = by_number (given == 0)
  where
    by_number : (b : Bool) → IsKnownIfAny wall (cond b None (Some label))
    by_number true = tt
    by_number false = known

labels_more : (wall : ChineseWall) (m : Effects) (p : ℕ) (act : Act) (got : Reply) →
    PostsHaveKnownLabels wall (posts_made m) → HasKnownLabel wall act →
    PostsHaveKnownLabels wall (posts_made (after_entry m (entry_of p act got)))
labels_more wall m p (ToPost posting) (replies.Posted r) h known =
    (h, given_known wall (given_in posting) posting.label known)
labels_more wall m p (ToPost posting) (replies.Barred r label) h known =
    (h, given_known wall (given_in posting) posting.label known)
labels_more wall m p (ToPost posting) replies.Pending h known = h
labels_more wall m p (ToPost posting) (replies.Delivered delivery) h known = h
labels_more wall m p (ToPost posting) (replies.NewComm c r n) h known = h
labels_more wall m p (ToPost posting) replies.NullComm h known = h
labels_more wall m p (ToPost posting) (replies.Denied rule q label) h known = h
labels_more wall m p (ToPost posting) replies.NoRoom h known = h
labels_more wall m p (ToPost posting) (replies.Info size rank dims) h known = h
labels_more wall m p (ToPost posting) (replies.Refused refusal) h known = h
labels_more wall m p (Take r) got h known = h
labels_more wall m p (ToInfo c) got h known = h

pub is_hall_after : (old new : HallView) (p : ℕ) (act : Act) (got : Reply) → IsHallView old →
    new.policy ≡ old.policy → HasKnownLabel old.policy act → Steps old new p act got →
    IsHallView new
is_hall_after old new p act got is same known steps =
    let step = steps is.effects is.is_made.proper is.stands in
    record {
      policy = subst IsPolicy (sym same) is.policy;
      effects = after_entry is.effects (entry_of p act got);
      stands = step.1;
      is_made = subst (λ (w : ChineseWall). IsMade w (after_entry is.effects (entry_of p act got)))
          (sym same) (record {
            proper = proper_step old.policy is.effects p is.is_made.proper act got step.0;
            labels = labels_more old.policy is.effects p act got is.is_made.labels known;
          });
    }

pub step_named : (old new : HallView) (p : ℕ) (act : Act) (got : Reply) → IsHallView old →
    HasKnownLabel old.policy act → Steps old new p act got → IsKnownReply old.policy got
step_named old new p act got is known steps = answer_named old.policy is.effects p act got
    is.policy is.is_made known (steps is.effects is.is_made.proper is.stands).0
