-- What holds of all legal runs. A run has its newest entry first, so `later ++ run` begins with
-- `run`.
use Rattle.std.specs.Prelude.{◌≡◌, ◌≢◌, ◌<◌, ◌↔◌, ℕ, List, ◌∷◌, ◌++◌, Bool, true, false, not}
use Rattle.std.specs.Prelude.{length, slice_get, Some, None}
use Rattle.wall_labels.specs.declared.label.Label.{Label}
use Rattle.wall_policy.specs.Policy.{ChineseWall, IsPolicy}
use Rattle.wall_rules.specs.Histories.{NobodyHoldsRivals}
use Rattle.mpi_elems.specs.Contents.{Contents}
use Rattle.mpi_group.specs.Groups.{rank_in}
use Rattle.coll_routes.specs.declared.roll.Roll.{Roll}
use Rattle.coll_routes.specs.Signatures.{is_constructor}
use Rattle.coll_values.specs.declared.full.Full.{Full}
use Rattle.coll_values.specs.declared.delivery.Block.{Block}
use Rattle.coll_values.specs.Instances.{IsWhole}
use Rattle.coll_values.specs.Values.{value}
use Rattle.coll_values.specs.Laws.{AgreeAt}
use Rattle.wall_rules.specs.declared.rule.Rule.{Rule}
use Rattle.wall_verdict.specs.declared.verdict.Verdict.TheVariants as verdicts
use Rattle.wall_verdict.specs.Star.{star}
use Rattle.wall_verdict.specs.Meanings.{IsVerdict, NobodyIsBarred, MembersStayApart}
use Rattle.run_model.specs.declared.entry.Entry.{Entry as BookEntry}
use Rattle.run_model.specs.declared.outcome.Outcome.{Outcome}
use Rattle.run_model.specs.declared.outcome.Outcome.TheVariants.{Granted, Denied as DeniedBy}
use Rattle.run_model.specs.declared.refusal.Refusal.TheVariants.{NoMemory}
use Rattle.run_model.specs.Comms.{Comm}
use Rattle.run_model.specs.Posts.{Post, comms, filled, labelled, histories, outcome, outcome_at}
use Rattle.run_model.specs.Books.{book, posts_in, AreCounted, IsSound}
use Rattle.run_model.specs.Holding.{IsMoment}
use Rattle.run_model.specs.PostLaws.{IsWhatIsHeld, NobodyHoldsBoth}
use Rattle.run_model.specs.Contributions.{full_at}
use Rattle.run_model.specs.declared.call.Posting.{Posting}
use Rattle.run_model.specs.declared.call.Act.{Act}
use Rattle.run_model.specs.declared.call.Act.TheVariants.{Take}
use Rattle.run_model.specs.declared.call.Call.{Call}
use Rattle.run_model.specs.declared.reply.Reply.{Reply}
use Rattle.run_model.specs.declared.reply.Reply.TheVariants.{Posted, Barred, Delivered}
use Rattle.run_model.specs.declared.reply.Reply.TheVariants.{NewComm, Denied, Refused}
use Rattle.run_model.specs.Runs.{Entry, posts, contributions, effects, counted, label_in, requests}
use Rattle.run_model.specs.Runs.{is_taken, MakesNothing}
use Rattle.run_model.specs.Replies.{comm_at, reply, IsAnswer, Legal}
use Rattle.run_model.specs.Proper.{IsProper}

-- ## runs and replies

-- a run with which a legal run begins is legal
abbrev pub PrefixesAreLegal : Type 0
PrefixesAreLegal =
    (wall : ChineseWall) (later run : List Entry) → Legal wall (later ++ run) → Legal wall run

-- one reply is due, and it is never out of memory
abbrev pub OneReplyIsDue : Type 0
OneReplyIsDue = (wall : ChineseWall) (run : List Entry) (call : Call) (given : Reply) →
    IsAnswer (reply wall run call) given → given ≢ Refused NoMemory → given ≡ reply wall run call

abbrev pub OutOfMemoryIsNeverDue : Type 0
OutOfMemoryIsNeverDue =
    (wall : ChineseWall) (run : List Entry) (call : Call) → reply wall run call ≢ Refused NoMemory

-- a reply that makes a post or delivers
abbrev pub NeedsMemory : Reply → Type 0
NeedsMemory (Posted request) = Unit {0}
NeedsMemory (Barred request label) = Unit {0}
NeedsMemory (Delivered delivery) = Unit {0}
NeedsMemory _ = ⊥

-- it stands only where such a reply is due
abbrev pub OutOfMemoryIsOfGrowth : Type 0
OutOfMemoryIsOfGrowth = (wall : ChineseWall) (run : List Entry) (e : Entry) → Legal wall (e ∷ run) →
    e.reply ≡ Refused NoMemory → NeedsMemory (reply wall run e.call)

-- a call that is refused, that waits or that asks changes nothing on which later replies depend
abbrev pub RefusedCallsMakeNothing : Type 0
RefusedCallsMakeNothing =
    (run : List Entry) (e : Entry) → MakesNothing e.reply → effects (e ∷ run) ≡ effects run

-- a request that was taken stays taken, and had been given
abbrev pub TakenRequestsStayTaken : Type 0
TakenRequestsStayTaken = (later run : List Entry) (p request : ℕ) → is_taken p request run ≡ true →
    is_taken p request (later ++ run) ≡ true

abbrev pub TakenRequestsWereGiven : Type 0
TakenRequestsWereGiven = (wall : ChineseWall) (run : List Entry) (p request : ℕ) → Legal wall run →
    is_taken p request run ≡ true → request < length (requests p (posts run))

-- what a legal run makes is proper, and that is all that a server needs to know of it
abbrev pub LegalRunsMakeProper : Type 0
LegalRunsMakeProper =
    (wall : ChineseWall) (run : List Entry) → Legal wall run → IsProper wall (effects run)

-- ## posts

-- each post that a legal run counts meets no refusal after the posts before it, and was barred
-- exactly where it fails the star rule
abbrev pub LegalPostsCount : Type 0
LegalPostsCount =
    (wall : ChineseWall) (run : List Entry) → Legal wall run → AreCounted wall (posts run)

-- a posting that was answered Posted passes the star rule at its turn, and one that was answered
-- Barred fails it
abbrev pub WordsAreOfTheStarRule : Type 0
WordsAreOfTheStarRule = (wall : ChineseWall) (later run : List Entry) (e : Entry)
    (posting : Posting) (barred : Bool) → Legal wall (later ++ e ∷ run) →
    counted e.call.act e.reply ≡ Some (posting, barred) →
    barred ≡ not (star (histories wall (posts run)) e.call.process (label_in posting))

-- ## communicators and instances

-- a communicator keeps its number, its group and its grid
abbrev pub CommunicatorsStay : Type 0
CommunicatorsStay = (wall : ChineseWall) (later run : List Entry) →
    (new : List Comm) × (comms wall (posts (later ++ run)) ≡ comms wall (posts run) ++ new)

-- instance (c, k) with the elements that its members gave
abbrev pub instance_in : ChineseWall → List Entry → (c k : ℕ) → Full Contents
instance_in wall run c k = full_at (comm_at wall (posts run) c) c k (contributions run)

-- the outcome of an instance stays, and so does the instance
abbrev pub OutcomesStay : Type 0
OutcomesStay = (wall : ChineseWall) (later run : List Entry) (c k : ℕ) (o : Outcome) →
    Legal wall (later ++ run) → outcome_at wall c k (posts run) ≡ Some o →
    (outcome_at wall c k (posts (later ++ run)) ≡ Some o)
    × (instance_in wall (later ++ run) c k ≡ instance_in wall run c k)

-- A collective that post x fills, made after the posts `before`, is granted exactly if nobody was
-- barred, and each member may hold all that is charged to it beside what it holds, the poster's own
-- label included.
abbrev pub GrantsAreJoint : Type 0
GrantsAreJoint = (wall : ChineseWall) (run : List Entry) (x : Post) (before : List Post)
    (roll : Roll) → IsPolicy wall → Legal wall run → IsMoment (posts run) x before →
    filled (comms wall before) x before ≡ Some roll → is_constructor roll.sig ≡ false →
    (outcome wall x before ≡ Some Granted) ↔
    (NobodyIsBarred roll × MembersStayApart wall (labelled (histories wall before) x) roll)

-- A denial names the lowest rank that was barred, or else the least pair of a receiver and a
-- contributor that offends: its process and its label.
abbrev pub DenialsNameTheLeast : Type 0
DenialsNameTheLeast = (wall : ChineseWall) (run : List Entry) (x : Post) (before : List Post)
    (roll : Roll) (rule : Rule) (process : ℕ) (label : Label) → IsPolicy wall → Legal wall run →
    IsMoment (posts run) x before → filled (comms wall before) x before ≡ Some roll →
    outcome wall x before ≡ Some (DeniedBy rule process label) →
    IsVerdict wall (labelled (histories wall before) x) roll (verdicts.Denied rule process label)

-- a post enters its own label, and nothing else where it makes no grant
abbrev pub GrantsAloneAreCharged : Type 0
GrantsAloneAreCharged = (wall : ChineseWall) (x : Post) (before : List Post) (p d : ℕ) →
    outcome wall x before ≢ Some Granted →
    histories wall (x ∷ before) p d ≡ labelled (histories wall before) x p d

-- in a granted instance each rank gave as many elements as it stated, of the signature's type
abbrev pub GrantedInstancesAreWhole : Type 0
GrantedInstancesAreWhole = (wall : ChineseWall) (run : List Entry) (c k : ℕ) → IsPolicy wall →
    Legal wall run → outcome_at wall c k (posts run) ≡ Some Granted →
    IsWhole (instance_in wall run c k)

-- ## what takes are told

-- the caller takes a request of its own that it has not taken, whose instance was granted, and gets
-- its value at the caller's rank
pub record IsDelivered (wall : ChineseWall) (run : List Entry) (p : ℕ) (act : Act)
    (blocks : List Block) : Type 0 where
  pub request : ℕ
  pub comm : ℕ
  pub k : ℕ
  pub rank : ℕ
  pub takes : act ≡ Take request
  pub given : slice_get (requests p (posts run)) request ≡ Some (comm, k)
  pub untaken : is_taken p request run ≡ false
  pub granted : outcome_at wall comm k (posts run) ≡ Some Granted
  pub is_member : rank_in (comm_at wall (posts run) comm).members p ≡ Some rank
  pub blocks_are : blocks ≡ value (instance_in wall run comm k) rank

-- what a legal run delivers is the value of a granted instance
abbrev pub DeliveriesAreOfGrants : Type 0
DeliveriesAreOfGrants = (wall : ChineseWall) (run : List Entry) (e : Entry) (blocks : List Block) →
    Legal wall (e ∷ run) → e.reply ≡ Delivered blocks →
    IsDelivered wall run e.call.process e.call.act blocks

-- and each request of a granted instance is told its value, until it is taken
abbrev pub GrantsAreDelivered : Type 0
GrantsAreDelivered = (wall : ChineseWall) (run : List Entry) (p request c k rank : ℕ) →
    slice_get (requests p (posts run)) request ≡ Some (c, k) → is_taken p request run ≡ false →
    outcome_at wall c k (posts run) ≡ Some Granted →
    rank_in (comm_at wall (posts run) c).members p ≡ Some rank →
    reply wall run (record { process = p; act = Take request })
    ≡ Delivered (value (instance_in wall run c k) rank)

-- each request of a denied instance is told the denial
abbrev pub DenialsAreTold : Type 0
DenialsAreTold = (wall : ChineseWall) (run : List Entry) (p request c k : ℕ) (rule : Rule)
    (process : ℕ) (label : Label) → slice_get (requests p (posts run)) request ≡ Some (c, k) →
    is_taken p request run ≡ false →
    outcome_at wall c k (posts run) ≡ Some (DeniedBy rule process label) →
    reply wall run (record { process = p; act = Take request }) ≡ Denied rule process label

-- p is in this communicator, which has so many members, at this rank
pub record IsIn (wall : ChineseWall) (run : List Entry) (p number rank size : ℕ) : Type 0 where
  pub comm : Comm
  pub there : slice_get (comms wall (posts run)) number ≡ Some comm
  pub is_member : rank_in comm.members p ≡ Some rank
  pub count : length comm.members ≡ size

-- who is told of a new communicator is in it, at the rank that it is told
abbrev pub NewCommsAreThere : Type 0
NewCommsAreThere = (wall : ChineseWall) (run : List Entry) (e : Entry) (number rank size : ℕ) →
    Legal wall (e ∷ run) → e.reply ≡ NewComm number rank size →
    IsIn wall run e.call.process number rank size

-- the value of an instance at a rank depends on the elements alone that go to it
abbrev pub ValuesAreOfRoutedElements : Type 0
ValuesAreOfRoutedElements = (wall : ChineseWall) (run other : List Entry) (c k j : ℕ) →
    AgreeAt (instance_in wall run c k) (instance_in wall other c k) j →
    value (instance_in wall run c k) j ≡ value (instance_in wall other c k) j

-- ## histories, and what processes hold, directly or through others

-- a pair that stands in the histories stays there
abbrev pub HistoriesGrow : Type 0
HistoriesGrow = (wall : ChineseWall) (run later : List Entry) (p d : ℕ) →
    histories wall (posts run) p d ≡ true → histories wall (posts (later ++ run)) p d ≡ true

-- after no legal run a process has had access to two rivals (Brewer and Nash 1989: what the simple
-- security rule keeps)
abbrev pub LegalRunsKeepTheWall : Type 0
LegalRunsKeepTheWall = (wall : ChineseWall) (run : List Entry) → IsPolicy wall → Legal wall run →
    NobodyHoldsRivals wall.classes (histories wall (posts run))

-- after each entry of a legal run a process holds exactly what stands in its history
abbrev pub HoldingIsHistory : Type 0
HoldingIsHistory = (wall : ChineseWall) (later run : List Entry) → Legal wall (later ++ run) →
    IsWhatIsHeld wall (posts run) (histories wall (posts run))

-- after no entry of a legal run a process holds two rivals
abbrev pub NobodyHoldsTwoRivals : Type 0
NobodyHoldsTwoRivals = (wall : ChineseWall) (later run : List Entry) → IsPolicy wall →
    Legal wall (later ++ run) → NobodyHoldsBoth wall (posts run)

-- ## books

-- the book of a legal run is sound, and its posts are those of the run
abbrev pub BooksAreSound : Type 0
BooksAreSound = (wall : ChineseWall) (run : List Entry) → Legal wall run →
    IsSound wall (book wall (posts run)) × (posts_in (book wall (posts run)) ≡ posts run)

-- it begins with the book of each run with which the run begins
abbrev pub BooksGrow : Type 0
BooksGrow = (wall : ChineseWall) (later run : List Entry) →
    (rest : List BookEntry) × (book wall (posts (later ++ run)) ≡ book wall (posts run) ++ rest)

-- the book decides: legal runs with one book have one history of each process, the same
-- communicators, and the same outcomes
pub record MadeAlike (wall : ChineseWall) (run other : List Entry) : Type 0 where
  pub same_posts : posts run ≡ posts other
  pub same_histories : (p d : ℕ) → histories wall (posts run) p d ≡ histories wall (posts other) p d
  pub same_comms : comms wall (posts run) ≡ comms wall (posts other)
  pub same_outcomes : (c k : ℕ) →
      outcome_at wall c k (posts run) ≡ outcome_at wall c k (posts other)

abbrev pub BooksDecide : Type 0
BooksDecide = (wall : ChineseWall) (run other : List Entry) →
    book wall (posts run) ≡ book wall (posts other) → MadeAlike wall run other

-- ## what an entry moves

-- An entry that counts no post, as a take, moves nothing: posts with their elements, and so
-- histories, communicators, outcomes and book, are as they were.
pub record MovesNothing (wall : ChineseWall) (run : List Entry) (e : Entry) : Type 0 where
  pub givens_are : contributions (e ∷ run) ≡ contributions run
  pub alike : MadeAlike wall (e ∷ run) run
  pub book_is : book wall (posts (e ∷ run)) ≡ book wall (posts run)

abbrev pub OnlyPostsMove : Type 0
OnlyPostsMove = (wall : ChineseWall) (run : List Entry) (e : Entry) →
    counted e.call.act e.reply ≡ None → MovesNothing wall run e

-- An entry that was refused, that waits or that asks can be left out of a legal run: what was
-- answered out of memory counts as not made.
abbrev pub QuietEntriesCanBeLeftOut : Type 0
QuietEntriesCanBeLeftOut =
    (wall : ChineseWall) (later run : List Entry) (e : Entry) → MakesNothing e.reply →
    Legal wall (later ++ e ∷ run) → Legal wall (later ++ run)
