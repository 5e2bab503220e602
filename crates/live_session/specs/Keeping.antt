-- What a session keeps of the requests of its process: words of private contracts.
use Rattle.std.specs.Prelude.{◌≡◌, ℕ, ◌<◌, ◌≤◌, List, [], ◌∷◌, ◌++◌, ◌==◌, suc, map, not, length}
use Rattle.std.specs.Prelude.{Bool, true, false, Option, Some, None, vec_capacity}
use Rattle.std.specs.List.{filter}
use Rattle.run_model.specs.declared.reply.Reply.{Reply}
use Rattle.run_model.specs.declared.reply.Reply.TheVariants.{Posted, Barred, Pending, Delivered}
use Rattle.run_model.specs.declared.reply.Reply.TheVariants.{NewComm, NullComm, Denied, NoRoom}
use Rattle.run_model.specs.declared.reply.Reply.TheVariants.{Info, Refused}
use Rattle.run_model.specs.Runs.{Entry}
use Rattle.hall_turn.specs.Known.{Known}
use Rattle.hall_turn.specs.Runs.{calls_of}
use Rattle.live_session.specs.declared.requests.Open.{Open}
use Rattle.live_session.specs.declared.requests.Requests.{Requests}
use Rattle.live_session.specs.Requests.{given_by, open_by}

-- the request that a post got with this reply, if it counts
abbrev pub request_in : Reply → Option ℕ
request_in (Posted request) = Some request
request_in (Barred request label) = Some request
request_in Pending = None
request_in (Delivered delivery) = None
request_in (NewComm c r n) = None
request_in NullComm = None
request_in (Denied rule p label) = None
request_in NoRoom = None
request_in (Info size rank dims) = None
request_in (Refused refusal) = None

-- the numbers of those that are kept as open
abbrev pub numbers : Requests → List ℕ
numbers kept = map (λ (o : Open). o.request) kept.untaken.items

-- one request more was given, and is open
pub record IsEntered (old : Requests) (request : ℕ) (new : Requests) : Type 0 where
  pub given : new.given ≡ suc request
  pub untaken : numbers new ≡ numbers old ++ request ∷ []
  pub room : vec_capacity new.untaken ≡ vec_capacity old.untaken

-- What a post that got this request, if it did, makes of what is kept, where there was room and the
-- number has one above it.
abbrev pub IsPosted : (old : Requests) → Option ℕ → (new : Requests) → Type 0
IsPosted old None new = new ≡ old
IsPosted old (Some request) new = length old.untaken.items < vec_capacity old.untaken →
    request < 18446744073709551615 → IsEntered old request new

-- a request is open no more
pub record IsClosed (old : Requests) (request : ℕ) (new : Requests) : Type 0 where
  pub given : new.given ≡ old.given
  pub untaken : numbers new ≡ filter (λ r. not (request == r)) (numbers old)
  pub room : vec_capacity new.untaken ≡ vec_capacity old.untaken

-- what a take of the request with this reply makes of what is kept
abbrev pub IsTaken : (old : Requests) → (request : ℕ) → (is_told : Bool) → (new : Requests) → Type 0
IsTaken old request true new = IsClosed old request new
IsTaken old request false new = new ≡ old

-- What is kept is what these calls of the process tell, and there is room for all that can be open.
pub record Fits (kept : Requests) (process : ℕ) (calls : List Entry) : Type 0 where
  pub given : kept.given ≡ given_by calls
  pub untaken : numbers kept ≡ open_by process calls
  pub room : 256 ≤ vec_capacity kept.untaken

-- what is kept is what the pass has seen
abbrev pub Keeps : (kept : Requests) → Known → Type 0
Keeps kept pass = Fits kept pass.process (calls_of pass.process pass.seen)
