-- Which instance each request of a rank is for. (Own rules.)
use Rattle.std.specs.Prelude.{◌≡◌, ℕ, ◌<◌, Bool, true, false, Option, Some, None, IfSome}
use Rattle.std.specs.Prelude.{List, length, take, slice_index_or, nat_eq}
use Rattle.std.specs.List.{count_by}
use Rattle.mpi_comm.specs.declared.table.TheConstants.{COMMUNICATOR_LIMIT}
use Rattle.run_model.specs.declared.call.Act.{Act}
use Rattle.run_model.specs.declared.call.Act.TheVariants.{Post, Take, Info as ToInfo}
use Rattle.run_model.specs.declared.reply.Reply.{Reply}
use Rattle.run_model.specs.declared.reply.Reply.TheVariants.{Posted, Barred, Pending, Delivered}
use Rattle.run_model.specs.declared.reply.Reply.TheVariants.{NewComm, NullComm, Denied, NoRoom}
use Rattle.run_model.specs.declared.reply.Reply.TheVariants.{Info, Refused}
use Rattle.rank_stage.specs.declared.board.Instance.{Instance}

-- how many of these instances are of the communicator
abbrev pub on_comm : (comm : ℕ) → List Instance → ℕ
on_comm comm all = count_by (λ it. nat_eq it.comm comm) all

-- the instance of no request
abbrev pub no_instance : Instance
no_instance = record { comm = 0; number = 0 }

-- Of each request: its instance is the one that its communicator opens for the k-th post, where the
-- rank had k requests there before.
abbrev pub AreCounted : List Instance → Type 0
AreCounted all = (request : ℕ) → request < length all
    → (slice_index_or all request no_instance).number
    ≡ on_comm (slice_index_or all request no_instance).comm (take request all)

-- the instance of the next request on the communicator
abbrev pub next_on : (comm : ℕ) → List Instance → Instance
next_on comm all = record { comm = comm; number = on_comm comm all }

-- The request of a post that counts, barred or not; no other reply gives one.
abbrev pub request_of : Reply → Option ℕ
request_of (Posted request) = Some request
request_of (Barred request label) = Some request
request_of Pending = None
request_of (Delivered delivery) = None
request_of (NewComm comm rank size) = None
request_of NullComm = None
request_of (Denied rule process label) = None
request_of NoRoom = None
request_of (Info size rank dims) = None
request_of (Refused refusal) = None

-- the communicator of a post
abbrev pub comm_of : Act → Option ℕ
comm_of (Post posting) = Some posting.comm
comm_of (Take request) = None
comm_of (ToInfo comm) = None

abbrev pub is_post : Act → Bool
is_post (Post posting) = true
is_post (Take request) = false
is_post (ToInfo comm) = false

-- if it is a post, it is on a communicator below the number
abbrev pub PostsBelow : (number : ℕ) → Act → Type 0
PostsBelow number act = IfSome (comm_of act) (λ comm. comm < number)

-- if it is a post, and on a communicator that there can be, there is a place for that
abbrev pub HasPlace : (places : ℕ) → Act → Type 0
HasPlace places act =
    IfSome (comm_of act) (λ comm. comm < COMMUNICATOR_LIMIT → comm < places)

-- so many requests were entered on each communicator
abbrev pub CountsAll : (entered : List ℕ) → List Instance → Type 0
CountsAll entered all = (comm : ℕ) → comm < length entered
    → slice_index_or entered comm 0 ≡ on_comm comm all
