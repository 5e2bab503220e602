-- Two lists of calls with their replies, as two worlds.
use Rattle.std.specs.Prelude.{◌<◌, ℕ, List, map}
use Rattle.std.specs.List.{AllZip}
use Rattle.wall_labels.specs.declared.ids.TheConstants.{DATASET_LIMIT}
use Rattle.wall_policy.specs.Policy.{ChineseWall}
use Rattle.run_model.specs.Holding.{Holds}
use Rattle.run_model.specs.declared.call.Call.{Call}
use Rattle.run_model.specs.declared.reply.Reply.{Reply}
use Rattle.run_model.specs.Runs.{Entry, posts, run_of}
use Rattle.run_model.specs.Worlds.{SameCallButForValues, NobodyLacksMemory, AreOneToTheWall}
use Rattle.run_model.specs.Worlds.{DifferOnlyIn, CannotTell}
use Rattle.run_model.specs.WorldRows.{replies_in}

-- the calls are equal but for values, and none was answered out of memory
pub record DifferInValues (first second : List Call) (told other : List Reply) : Type 0 where
  pub calls : AllZip SameCallButForValues first second
  pub first_memory : NobodyLacksMemory (run_of first told)
  pub second_memory : NobodyLacksMemory (run_of second other)

-- then all that the wall goes by is equal at each turn, and replies are equal but for numbers
abbrev pub OneWallIn : ChineseWall → (first second : List Call) →
    (told other : List Reply) → Type 0
OneWallIn wall first second told other = DifferInValues first second told other →
    AreOneToTheWall wall (run_of first told) (run_of second other)

-- And where values differ only in posts of those who may write of d then, who doesn't hold d after
-- the first list sees the same in both, but for numbers of sanitised results with a contributor
-- labelled d.
abbrev pub CannotTellIn : ChineseWall → (first second : List Call) →
    (told other : List Reply) → Type 0
CannotTellIn wall first second told other =
    DifferInValues first second told other → (d p : ℕ) → d < DATASET_LIMIT →
    DifferOnlyIn wall d (run_of first told) (run_of second other) →
    ¬ (Holds wall (posts (run_of first told)) p d) →
    CannotTell wall d p (run_of first told) (run_of second other)

-- ## worked lists

-- the calls of a list of entries
abbrev pub called : List Entry → List Call
called entries = map (λ (e : Entry). e.call) entries

-- what is asked of two lists holds of these calls with their replies
abbrev pub DifferAsListed : (one other : List Entry) → Type 0
DifferAsListed one other = DifferInValues (called one) (called other)
    (replies_in one) (replies_in other)
