-- Worked outcomes where the last communicators are made: there is room for 1,024.
use Rattle.std.specs.Prelude.{◌≡◌, ℕ, List, [], Option}
use Rattle.wall_policy.specs.Policy.{ChineseWall}
use Rattle.wall_rules.specs.Histories.{History}
use Rattle.coll_routes.specs.declared.signature.Signature.{Signature}
use Rattle.coll_routes.specs.declared.signature.Signature.TheVariants.{Dup, Create}
use Rattle.coll_routes.specs.declared.statement.Stated.{Stated}
use Rattle.coll_routes.specs.declared.roll.Shape.{Shape}
use Rattle.run_model.specs.declared.outcome.Outcome.{Outcome}
use Rattle.run_model.specs.declared.outcome.Outcome.TheVariants.{Made, NoRoom}
use Rattle.run_model.specs.Posts.{outcome_of}

-- where so many communicators are there, each full instance of this signature has this outcome
abbrev pub HasOutcome : (before : ℕ) → Signature → Outcome → Type 0
HasOutcome before sig outcome =
    (wall : ChineseWall) (has : History) (members : List ℕ) (shape : Shape)
    (stated : List (Option Stated)) →
    outcome_of wall has before
    (record { members = members; shape = shape; sig = sig; stated = stated })
    ≡ outcome

-- a duplicate is the last communicator
abbrev pub LastIsMade : Type 0
LastIsMade = HasOutcome 1023 Dup (Made 1023 1)

-- there is no room for one more
abbrev pub OneMoreHasNoRoom : Type 0
OneMoreHasNoRoom = HasOutcome 1024 Dup NoRoom

-- a subgroup of nobody needs none
abbrev pub NothingNeedsNoRoom : Type 0
NothingNeedsNoRoom = HasOutcome 1024 (Create []) (Made 1024 0)
