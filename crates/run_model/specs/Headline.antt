-- The headline: what becomes of every collective that is full, after every legal run. A run has its
-- newest entry first.
use Rattle.std.specs.Prelude.{◌≡◌, ◌≢◌, ◌<◌, ◌↔◌, ℕ, List, ◌∷◌, true, false, slice_get}
use Rattle.std.specs.Prelude.{Option, Some, None}
use Rattle.wall_labels.specs.declared.ids.TheConstants.{DATASET_LIMIT}
use Rattle.wall_labels.specs.declared.label.Label.{Label}
use Rattle.wall_labels.specs.declared.label.Label.TheVariants.{Of}
use Rattle.wall_policy.specs.Policy.{ChineseWall, IsPolicy}
use Rattle.wall_rules.specs.Histories.{History}
use Rattle.mpi_group.specs.Groups.{rank_in}
use Rattle.coll_routes.specs.declared.roll.Roll.{Roll}
use Rattle.coll_routes.specs.Signatures.{is_constructor}
use Rattle.coll_values.specs.Values.{value}
use Rattle.wall_rules.specs.declared.rule.Rule.{Rule}
use Rattle.wall_verdict.specs.declared.verdict.Verdict.TheVariants as verdicts
use Rattle.wall_verdict.specs.Meanings.{IsVerdict, MembersStayApart}
use Rattle.run_model.specs.declared.outcome.Outcome.TheVariants.{Granted}
use Rattle.run_model.specs.Comms.{Comm}
use Rattle.coll_routes.specs.Rolls.{is_full}
use Rattle.run_model.specs.Posts.{Post, instance, place, filled, comms, labelled}
use Rattle.run_model.specs.Posts.{histories, outcome}
use Rattle.run_model.specs.Holding.{IsMoment, IsPart}
use Rattle.run_model.specs.declared.call.Act.TheVariants.{Take}
use Rattle.run_model.specs.declared.reply.Reply.{Reply}
use Rattle.run_model.specs.declared.reply.Reply.TheVariants.{Delivered, Denied}
use Rattle.run_model.specs.Runs.{Entry, posts, requests, is_taken}
use Rattle.run_model.specs.Replies.{reply, Legal}
use Rattle.run_model.specs.RunLaws.{instance_in, NobodyHoldsTwoRivals}

-- The star rule: what stands in the poster's history is the label of its post. Under `public` only
-- a process with an empty history passes, since no dataset is called so; a post without a label
-- passes always. (Brewer and Nash 1989: the *-property.)
abbrev pub PassesTheStarRule : History → (p : ℕ) → Option Label → Type 0
PassesTheStarRule has p None = Unit {0}
PassesTheStarRule has p (Some label) = (d : ℕ) → d < DATASET_LIMIT → has p d ≡ true → label ≡ Of d

-- Every contribution to the instance that post x filled passed the star rule at its post: post y,
-- made after the posts `then`, passes under the histories of that moment.
abbrev pub EachPassedAtItsPost : ChineseWall → Roll → Post → (before : List Post) → Type 0
EachPassedAtItsPost wall roll x before =
    (i : ℕ) (y : Post) (then : List Post) → IsPart roll x before i y then →
    PassesTheStarRule (histories wall then) y.process y.stated.label

-- every member's history, with the label of post x entered, permits all that is charged to it,
-- jointly
abbrev pub EachIsPermitted : ChineseWall → Roll → Post → (before : List Post) → Type 0
EachIsPermitted wall roll x before = MembersStayApart wall (labelled (histories wall before) x) roll

-- each request for instance (c, k) is due this reply, by the rank of its process, until it is taken
abbrev pub EachIsDue : ChineseWall → List Entry → (c k : ℕ) → (ℕ → Reply) → Type 0
EachIsDue wall run c k due =
    (p request rank : ℕ) → slice_get (requests p (posts run)) request ≡ Some (c, k) →
    is_taken p request run ≡ false → rank_in (instance_in wall run c k).roll.members p ≡ Some rank →
    reply wall run (record { process = p; act = Take request }) ≡ due rank

-- all of its members are told the same denial, which names the lowest rank that was barred, or else
-- the least pair that offends
pub record IsDenied (wall : ChineseWall) (run : List Entry) (c k : ℕ) (has : History) (roll : Roll)
    : Type 0 where
  pub rule : Rule
  pub process : ℕ
  pub label : Label
  pub named : IsVerdict wall has roll (verdicts.Denied rule process label)
  pub told : EachIsDue wall run c k (λ rank. Denied rule process label)

-- What becomes of instance (c, k): post x of its last member, made after the posts `before`, filled
-- it. It was granted exactly if every contribution passed the star rule at its post and every
-- receiver is permitted what is charged to it; then each member is due the value that MPI
-- prescribes. Else all are due the same denial, and nothing enters the histories but the label of
-- post x.
pub record IsJudged (wall : ChineseWall) (run : List Entry) (c k : ℕ) : Type 0 where
  pub x : Post
  pub before : List Post
  pub roll : Roll
  pub moment : IsMoment (posts run) x before
  pub there : x.comm ≡ c
  pub kth : place x before ≡ k
  pub fills : filled (comms wall before) x before ≡ Some roll
  pub same : (instance_in wall run c k).roll ≡ roll
  pub exactly : (outcome wall x before ≡ Some Granted) ↔
      (EachPassedAtItsPost wall roll x before × EachIsPermitted wall roll x before)
  pub delivered : outcome wall x before ≡ Some Granted →
      EachIsDue wall run c k (λ rank. Delivered (value (instance_in wall run c k) rank))
  pub denied : outcome wall x before ≢ Some Granted →
      IsDenied wall run c k (labelled (histories wall before) x) roll
  pub unmoved : outcome wall x before ≢ Some Granted →
      (p d : ℕ) → histories wall (x ∷ before) p d ≡ labelled (histories wall before) x p d

-- instance (c, k) of a collective is full, on a communicator that has a member
pub record IsFullCollective (wall : ChineseWall) (run : List Entry) (c k : ℕ) : Type 0 where
  pub comm : Comm
  pub member : ℕ
  pub there : slice_get (comms wall (posts run)) c ≡ Some comm
  pub is_member : slice_get comm.members 0 ≡ Some member
  pub full : is_full (instance comm c k (posts run)).stated ≡ true
  pub collective : is_constructor (instance comm c k (posts run)).sig ≡ false

abbrev pub FullCollectivesAreJudged : Type 0
FullCollectivesAreJudged =
    (wall : ChineseWall) (run : List Entry) (c k : ℕ) → IsPolicy wall → Legal wall run →
    IsFullCollective wall run c k → IsJudged wall run c k

-- The headline, in the order of its words: every full collective of every legal run is judged by
-- the two rules, delivered as MPI prescribes or denied to all alike; and nobody ever comes to hold
-- unsanitised data of two rivals, at first hand or through others.
pub record Headline : Type 0 where
  pub instances : FullCollectivesAreJudged
  pub holders : NobodyHoldsTwoRivals
