-- The reply that is due to a call after a run, and legal runs. A run has its newest entry first.
use Rattle.std.specs.Prelude.{◌≡◌, ℕ, List, [], ◌∷◌, Bool, true, false, not, ◌||◌, ◌+◌, ◌^◌, ◌⊎◌}
use Rattle.std.specs.Prelude.{length, slice_get, Option, Some, None, unwrap_or, nat_lt, nat_le}
use Rattle.std.specs.Prelude.{if◌then◌else◌, count_by}
use Rattle.std.specs.Option.{option_map}
use Rattle.wall_labels.specs.declared.label.Label.{Label}
use Rattle.wall_policy.specs.Policy.{ChineseWall}
use Rattle.mpi_elems.specs.Contents.{Contents}
use Rattle.mpi_group.specs.Groups.{rank_in}
use Rattle.mpi_cart.specs.Grids.{Topology, below}
use Rattle.coll_values.specs.declared.full.Full.{Full}
use Rattle.coll_values.specs.Values.{value}
use Rattle.wall_verdict.specs.Star.{star}
use Rattle.run_model.specs.declared.refusal.Refusal.{Refusal}
use Rattle.run_model.specs.declared.refusal.Refusal.TheVariants.{NoSuchProcess, NoSuchComm}
use Rattle.run_model.specs.declared.refusal.Refusal.TheVariants.{NotMember, TooManyRequests}
use Rattle.run_model.specs.declared.refusal.Refusal.TheVariants.{NoMemory, NoSuchRequest}
use Rattle.run_model.specs.declared.outcome.Outcome.{Outcome}
use Rattle.run_model.specs.declared.outcome.Outcome.TheVariants.{Granted, Denied as DeniedBy}
use Rattle.run_model.specs.declared.outcome.Outcome.TheVariants.{Made as MadeComms}
use Rattle.run_model.specs.declared.outcome.Outcome.TheVariants.{NoRoom as NoneMade}
use Rattle.run_model.specs.Comms.{Comm, processes, new_comms}
use Rattle.run_model.specs.Posts.{Post, comms, histories, outcome_at}
use Rattle.run_model.specs.Refusals.{or_else, fault}
use Rattle.run_model.specs.declared.call.Posting.{Posting}
use Rattle.run_model.specs.declared.call.Act.{Act}
use Rattle.run_model.specs.declared.call.Act.TheVariants.{Post as ToPost, Take, Info as ToInfo}
use Rattle.run_model.specs.declared.call.Call.{Call}
use Rattle.run_model.specs.declared.reply.Reply.{Reply}
use Rattle.run_model.specs.declared.reply.Reply.TheVariants.{Posted, Barred, Pending, Delivered}
use Rattle.run_model.specs.declared.reply.Reply.TheVariants.{NewComm, NullComm, Denied, NoRoom}
use Rattle.run_model.specs.declared.reply.Reply.TheVariants.{Info, Refused}
use Rattle.run_model.specs.Contributions.{posts_of, full_at}
use Rattle.run_model.specs.Runs.{Entry, Effects, effects, given_in, label_in, requests}

-- ## refusals of a post

abbrev pub posts_made : Effects → List Post
posts_made effects = posts_of effects.contributions

-- how many requests p has that are not taken
abbrev pub open_requests : (p : ℕ) → Effects → ℕ
open_requests p effects =
    count_by (λ r. not (effects.taken p r)) (below (length (requests p (posts_made effects))))

-- 256 requests are not taken, or 2^62 were given (own rules)
abbrev pub is_limit_reached : (waiting given : ℕ) → Bool
is_limit_reached waiting given = nat_le 256 waiting || nat_le (2 ^ 62) given

abbrev pub too_many : (p : ℕ) → Effects → Bool
too_many p effects =
    is_limit_reached (open_requests p effects) (length (requests p (posts_made effects)))

-- the first of their order that holds
abbrev pub refusal : ChineseWall → Effects → (p : ℕ) → Posting → Option Refusal
refusal wall effects p posting = or_else (fault wall (posts_made effects) p posting.comm posting.sig
    posting.own posting.elements.elem_type (given_in posting))
    (if too_many p effects then Some TooManyRequests else None)

-- ## replies

abbrev pub accepted : (passed : Bool) → (request : ℕ) → Label → Reply
accepted passed request label = if passed then Posted request else Barred request label

abbrev pub reply_to_post : ChineseWall → Effects → (p : ℕ) → Posting → Option Refusal → Reply
reply_to_post wall effects p posting (Some refusal) = Refused refusal
reply_to_post wall effects p posting None = accepted
    (star (histories wall (posts_made effects)) p (label_in posting))
    (length (requests p (posts_made effects))) posting.label

-- the new communicator that p is in, of those from this number on, if it is in one
abbrev pub join : (number : ℕ) → Comm → (rank : Option ℕ) → (others : Reply) → Reply
join number comm (Some rank) others = NewComm number rank (length comm.members)
join number comm None others = others

abbrev pub joined : (p first : ℕ) → List Comm → Reply
joined p first [] = NullComm
joined p first (comm ∷ rest) = join first comm (rank_in comm.members p) (joined p (first + 1) rest)

-- what a process is told of its request for an instance: that it waits, or its outcome
abbrev pub reply_by_outcome : (p : ℕ) → Full Contents → Option Outcome → Reply
reply_by_outcome p full None = Pending
reply_by_outcome p full (Some Granted) =
    Delivered (value full (unwrap_or (rank_in full.roll.members p) 0))
reply_by_outcome p full (Some (DeniedBy rule q label)) = Denied rule q label
reply_by_outcome p full (Some (MadeComms first number)) = joined p first (new_comms full.roll)
reply_by_outcome p full (Some NoneMade) = NoRoom

abbrev pub no_comm : Comm
no_comm = record { members = []; grid = None }

abbrev pub comm_at : ChineseWall → List Post → (c : ℕ) → Comm
comm_at wall past c = unwrap_or (slice_get (comms wall past) c) no_comm

abbrev pub reply_to_take : ChineseWall → Effects → (p request : ℕ) → Option (ℕ × ℕ) → Reply
reply_to_take wall effects p request None = Refused NoSuchRequest
reply_to_take wall effects p request (Some (c, k)) = if effects.taken p request
    then Refused NoSuchRequest
    else reply_by_outcome p
    (full_at (comm_at wall (posts_made effects) c) c k effects.contributions)
    (outcome_at wall c k (posts_made effects))

-- the size, the rank, and the number of dimensions of the grid, if there is one
abbrev pub info_by : Comm → Option ℕ → Reply
info_by comm None = Refused NotMember
info_by comm (Some rank) =
    Info (length comm.members) rank (option_map (λ (g : Topology). length g.dims) comm.grid)

abbrev pub info_on : (p : ℕ) → Option Comm → Reply
info_on p None = Refused NoSuchComm
info_on p (Some comm) = info_by comm (rank_in comm.members p)

abbrev pub reply_to_info : ChineseWall → Effects → (p c : ℕ) → Reply
reply_to_info wall effects p c = if nat_lt p (processes wall)
    then info_on p (slice_get (comms wall (posts_made effects)) c) else Refused NoSuchProcess

abbrev pub reply_by : ChineseWall → Effects → (p : ℕ) → Act → Reply
reply_by wall effects p (ToPost posting) =
    reply_to_post wall effects p posting (refusal wall effects p posting)
reply_by wall effects p (Take request) =
    reply_to_take wall effects p request (slice_get (requests p (posts_made effects)) request)
reply_by wall effects p (ToInfo c) = reply_to_info wall effects p c

-- the reply to a call after a run
unfoldable pub reply : ChineseWall → List Entry → Call → Reply
reply wall run call = reply_by wall (effects run) call.process call.act

-- ## legal runs

-- a reply in whose place out of memory may be answered
abbrev pub may_lack_memory : Reply → Bool
may_lack_memory (Posted request) = true
may_lack_memory (Barred request label) = true
may_lack_memory (Delivered delivery) = true
may_lack_memory Pending = false
may_lack_memory (NewComm c r n) = false
may_lack_memory NullComm = false
may_lack_memory (Denied rule p label) = false
may_lack_memory NoRoom = false
may_lack_memory (Info size rank dims) = false
may_lack_memory (Refused refusal) = false

-- the reply that is due, or out of memory in its place
abbrev pub IsAnswer : (due given : Reply) → Type 0
IsAnswer due given = (given ≡ due) ⊎ ((may_lack_memory due ≡ true) × (given ≡ Refused NoMemory))

-- Each reply is the one that is due after the entries before it. (An entry answered out of memory
-- counts nowhere: it makes no post and takes nothing.)
abbrev pub Legal : ChineseWall → List Entry → Type 0
Legal wall [] = Unit {0}
Legal wall (e ∷ run) = Legal wall run × IsAnswer (reply wall run e.call) e.reply
