-- Runs: calls with their replies, and what they have made. A run has its newest entry first.
use Rattle.std.specs.Prelude.{ℕ, List, [], ◌∷◌, ◌++◌, Bool, true, false, ◌&&◌, ◌||◌, ◌==◌, length}
use Rattle.std.specs.Prelude.{Option, Some, None, if◌then◌else◌, filter_map, map, reverse}
use Rattle.std.specs.List.{list_any, cons_option, zip}
use Rattle.wall_labels.specs.declared.label.Label.{Label}
use Rattle.mpi_elems.specs.Contents.{Contents, contents, elements}
use Rattle.coll_routes.specs.declared.statement.Stated.{Stated}
use Rattle.run_model.specs.Posts.{Post, place}
use Rattle.run_model.specs.Contributions.{Contribution, contribution, posts_of}
use Rattle.run_model.specs.declared.call.Posting.{Posting}
use Rattle.run_model.specs.declared.call.Act.{Act}
use Rattle.run_model.specs.declared.call.Act.TheVariants.{Post as ToPost, Take, Info as ToInfo}
use Rattle.run_model.specs.declared.call.Call.{Call}
use Rattle.run_model.specs.declared.reply.Reply.{Reply}
use Rattle.run_model.specs.declared.reply.Reply.TheVariants.{Posted, Barred, Pending, Delivered}
use Rattle.run_model.specs.declared.reply.Reply.TheVariants.{NewComm, NullComm, Denied, NoRoom}
use Rattle.run_model.specs.declared.reply.Reply.TheVariants.{Info, Refused}

-- a call with its reply
pub record Entry : Type 0 where
  pub call : Call
  pub reply : Reply

abbrev pub entry : Call → Reply → Entry
entry call reply = record { call = call; reply = reply }

-- a process does this, and has this reply
abbrev pub said : (process : ℕ) → Act → Reply → Entry
said process act reply = entry (record { process = process; act = act }) reply

abbrev pub entry_of : Call × Reply → Entry
entry_of pair = entry pair.0 pair.1

-- the run of calls with their replies, one for each, the newest first
abbrev pub run_of : List Call → List Reply → List Entry
run_of calls replies = reverse (map entry_of (zip calls replies))

-- ## what a run has made

-- A post has no label where it gives nothing (own rule).
abbrev pub label_if : (given : ℕ) → Label → Option Label
label_if given label = if given == 0 then None else Some label

-- how many elements a posting gives; a pair counts once
abbrev pub given_in : Posting → ℕ
given_in posting = length (elements posting.elements)

abbrev pub label_in : Posting → Option Label
label_in posting = label_if (given_in posting) posting.label

abbrev pub statement : Posting → (barred : Bool) → Stated
statement posting barred = record {
  sig = posting.sig;
  own = posting.own;
  given = given_in posting;
  label = label_in posting;
  barred = barred;
}

-- a barred post drops its elements
abbrev pub kept_if : Contents → (barred : Bool) → Contents
kept_if part barred = if barred then contents part.elem_type [] 0 else part

abbrev pub kept : Posting → (barred : Bool) → Contents
kept posting barred = kept_if posting.elements barred

-- A post counts if its reply is Posted or Barred: the posting, and whether it was barred.
abbrev pub counted : Act → Reply → Option (Posting × Bool)
counted (ToPost posting) (Posted request) = Some (posting, false)
counted (ToPost posting) (Barred request label) = Some (posting, true)
counted act reply = None

abbrev pub contribution_by : (p : ℕ) → Option (Posting × Bool) → Option (Contribution Contents)
contribution_by p (Some (posting, barred)) =
    Some (contribution p posting.comm (statement posting barred) (kept posting barred))
contribution_by p None = None

abbrev pub contribution_in : Entry → Option (Contribution Contents)
contribution_in e = contribution_by e.call.process (counted e.call.act e.reply)

-- the counted posts of a run, with the elements that they brought
abbrev pub contributions : List Entry → List (Contribution Contents)
contributions run = filter_map contribution_in run

-- and without them
abbrev pub posts : List Entry → List Post
posts run = posts_of (contributions run)

-- The requests of p are its counted posts in order: for each, the communicator and the number of
-- its instance there.
abbrev pub requests : (p : ℕ) → List Post → List (ℕ × ℕ)
requests p [] = []
requests p (x ∷ past) =
    if x.process == p then requests p past ++ (x.comm, place x past) ∷ [] else requests p past

-- the reply is the outcome of a request
abbrev pub is_outcome : Reply → Bool
is_outcome (Delivered delivery) = true
is_outcome (NewComm c r n) = true
is_outcome NullComm = true
is_outcome (Denied rule p label) = true
is_outcome NoRoom = true
is_outcome (Posted request) = false
is_outcome (Barred request label) = false
is_outcome Pending = false
is_outcome (Info size rank dims) = false
is_outcome (Refused refusal) = false

-- the reply neither makes a post nor tells an outcome: the call is refused, or it waits, or it
-- asked about a communicator
abbrev pub MakesNothing : Reply → Type 0
MakesNothing (Refused refusal) = Unit {0}
MakesNothing Pending = Unit {0}
MakesNothing (Info size rank dims) = Unit {0}
MakesNothing (Posted request) = ⊥
MakesNothing (Barred request label) = ⊥
MakesNothing (Delivered delivery) = ⊥
MakesNothing (NewComm c r n) = ⊥
MakesNothing NullComm = ⊥
MakesNothing (Denied rule p label) = ⊥
MakesNothing NoRoom = ⊥

abbrev pub takes : Act → (request : ℕ) → Bool
takes (Take r) request = r == request
takes (ToPost posting) request = false
takes (ToInfo c) request = false

-- an earlier take got the outcome of p's request
abbrev pub is_taken : (p request : ℕ) → List Entry → Bool
is_taken p request run =
    list_any (λ e. e.call.process == p && takes e.call.act request && is_outcome e.reply) run

-- What a run has made, as far as later replies depend on it: its counted posts with their elements,
-- and which requests of each process were taken.
pub record Effects : Type 0 where
  pub contributions : List (Contribution Contents)
  pub taken : (p request : ℕ) → Bool

abbrev pub effects : List Entry → Effects
effects run =
    record { contributions = contributions run; taken = λ p request. is_taken p request run }

-- ## what one entry more makes

-- one counted post more
abbrev pub with_contribution : Effects → Contribution Contents → Effects
with_contribution effects g =
    record { contributions = g ∷ effects.contributions; taken = effects.taken }

-- one request of p more that was taken
abbrev pub with_taken : Effects → (p request : ℕ) → Effects
with_taken effects p request = record {
  contributions = effects.contributions;
  taken = λ q r. p == q && request == r || effects.taken q r;
}

abbrev pub after_entry : Effects → Entry → Effects
after_entry effects e = record {
  contributions =
      cons_option (contribution_in e) effects.contributions;
  taken = λ p request. e.call.process == p && takes e.call.act request && is_outcome e.reply
      || effects.taken p request;
}
