-- Lines that were told, and are told again.
use Rattle.std.specs.Prelude.{◌≡◌, ◌≢◌, ℕ, List, ◌++◌, codes, Bool, true, false, Option, Some, None}
use Rattle.std.specs.Prelude.{All, IfSome}
use Rattle.wall_policy.specs.Policy.{ChineseWall}
use Rattle.mpi_elems.specs.Contents.{Contents}
use Rattle.coll_routes.specs.declared.signature.Signature.{Signature}
use Rattle.coll_routes.specs.declared.signature.Signature.TheVariants.{Bcast, Allgather, Allgatherv}
use Rattle.coll_routes.specs.declared.signature.Signature.TheVariants.{Allreduce}
use Rattle.coll_routes.specs.Rolls.{places}
use Rattle.coll_values.specs.declared.full.Full.{Full}
use Rattle.coll_values.specs.declared.delivery.Block.{Block}
use Rattle.coll_values.specs.Values.{value}
use Rattle.run_model.specs.declared.outcome.Outcome.TheVariants.{Granted}
use Rattle.run_model.specs.Posts.{outcome_at}
use Rattle.run_model.specs.Contributions.{Contribution, posts_of, full_at}
use Rattle.run_model.specs.Buffers.{SameInstanceButForRoom}
use Rattle.run_model.specs.Runs.{Entry, contributions}
use Rattle.run_model.specs.Replies.{comm_at}
use Rattle.run_model.specs.declared.refusal.Refusal.TheVariants.{NoMemory}
use Rattle.run_model.specs.declared.reply.Reply.{Reply}
use Rattle.run_model.specs.declared.reply.Reply.TheVariants.{Delivered, Refused}
use Rattle.hall_core.specs.Halls.{StandsFor}
use Rattle.hall_script.specs.declared.kept.KeptLine.{KeptLine}
use Rattle.hall_script.specs.declared.kept.KeptLines.{KeptLines}
use Rattle.hall_script.specs.declared.teller.Teller.{Teller}
use Rattle.hall_script.specs.Replies.{delivery_text}

-- ## kinds

-- Kinds that deliver the same blocks to each rank that gets any. (MPI 4.1, 6.4, 6.7, 6.9.6.)
unfoldable pub tells_alike : Signature → Bool
tells_alike (Bcast r ty n) = true
tells_alike (Allgather ty n) = true
tells_alike (Allgatherv ty) = true
tells_alike (Allreduce op ty n) = true
tells_alike _ = false

-- rank j gets what each gets that gets any
pub record IsToldAlike (full : Full Contents) (j : ℕ) : Type 0 where
  pub alike : tells_alike full.roll.sig ≡ true
  pub has_place : places full.roll j ≢ 0

-- ## lines

-- the line of a delivery
abbrev pub told_line : List Block → List ℕ
told_line blocks = delivery_text blocks ++ codes "\n"

-- instance (c, k) after these contributions
abbrev pub instance_at : ChineseWall → List (Contribution Contents) → (c k : ℕ) → Full Contents
instance_at wall past c k = full_at (comm_at wall (posts_of past) c) c k past

-- instance (c, k) was granted, and this is the line of each of its ranks that gets a block
pub record IsRight (wall : ChineseWall) (past : List (Contribution Contents)) (c k : ℕ)
    (text : List ℕ) : Type 0 where
  pub granted : outcome_at wall c k (posts_of past) ≡ Some Granted
  pub told : (j : ℕ) → places (instance_at wall past c k).roll j ≢ 0 →
      text ≡ told_line (value (instance_at wall past c k) j)

-- ## lines that are kept

-- this line is kept here, as that of instance (c, k)
pub record IsKeptAs (kept : KeptLine) (c k : ℕ) (line : List ℕ) : Type 0 where
  pub comm : kept.comm ≡ c
  pub number : kept.k ≡ k
  pub text : kept.text.items ≡ line

-- no line is kept here
abbrev pub IsNothing : Option KeptLine → Type 0
IsNothing place = place ≡ None

-- what is kept here is right, if anything is
abbrev pub IsRightLine : ChineseWall → List (Contribution Contents) → Option KeptLine → Type 0
IsRightLine wall past place = IfSome place (λ kept. IsRight wall past kept.comm kept.k kept.text.items)

abbrev pub AreRight : ChineseWall → List (Contribution Contents) → KeptLines → Type 0
AreRight wall past lines = All (IsRightLine wall past) lines.places.items

-- ## what is delivered

-- the reply to a take of what a rank gets, by whether there was memory for it
abbrev pub delivery_if : Bool → Full Contents → (rank : ℕ) → Reply
delivery_if true full rank = Delivered (value full rank)
delivery_if false full rank = Refused NoMemory

-- this is instance `at` but for the room of buffers, and it was granted
pub record IsShown (wall : ChineseWall) (past : List (Contribution Contents)) (at : ℕ × ℕ)
    (full : Full Contents) : Type 0 where
  pub granted : outcome_at wall at.0 at.1 (posts_of past) ≡ Some Granted
  pub same : SameInstanceButForRoom full (instance_at wall past at.0 at.1)

-- ## tellers

-- the hall of a teller stands for the run, and its lines are right after it
pub record TellsRun (teller : Teller) (run : List Entry) : Type 0 where
  pub stands : StandsFor teller.hall run
  pub right : AreRight teller.hall.policy (contributions run) teller.lines
