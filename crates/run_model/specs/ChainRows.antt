-- A worked chain of books.
use Rattle.std.specs.Prelude.{List, [], ◌∷◌, false, Some, None, codes}
use Rattle.wall_labels.specs.declared.op.Op.TheVariants.{Sum}
use Rattle.wall_labels.specs.declared.label.Label.{Label}
use Rattle.wall_labels.specs.declared.label.Label.TheVariants.{Of}
use Rattle.wall_policy.specs.Policy.{ChineseWall, with_held}
use Rattle.run_model.specs.declared.outcome.Outcome.{Outcome}
use Rattle.run_model.specs.declared.outcome.Outcome.TheVariants.{Granted}
use Rattle.run_model.specs.declared.entry.Entry.{Entry}
use Rattle.run_model.specs.declared.entry.Entry.TheVariants.{Settled}
use Rattle.run_model.specs.BookRows.{banks_and_oil, numbers_to_n0, gave, plainly, alpha}
use Rattle.run_model.specs.Chains.{Link}

-- a0 sends n0 alone data of alpha
abbrev pub alpha_for_n0 : List Entry
alpha_for_n0 =
    gave 0 0 numbers_to_n0 1 alpha false
    ∷ plainly 1 0 numbers_to_n0
    ∷ plainly 2 0 numbers_to_n0
    ∷ plainly 3 0 numbers_to_n0
    ∷ Settled 0 0 Granted
    ∷ []

abbrev pub one_book : List Link
one_book = record { wall = banks_and_oil; book = alpha_for_n0 } ∷ []

-- the policy after it: n0 held alpha, and the others their homes
abbrev pub banks_after : ChineseWall
banks_after = with_held banks_and_oil ((0, 0) ∷ (1, 1) ∷ (2, 2) ∷ (3, 0) ∷ [])

-- the same with one class more, of one firm
abbrev pub banks_grown : ChineseWall
banks_grown = record {
  version = 1;
  class_names = codes "banks" ∷ codes "oil" ∷ codes "mines" ∷ [];
  dataset_names =
      codes "alpha" ∷ codes "beta" ∷ codes "crude" ∷ codes "delta" ∷ codes "eureka" ∷ [];
  process_names = codes "a0" ∷ codes "b0" ∷ codes "c0" ∷ codes "n0" ∷ [];
  classes = 0 ∷ 0 ∷ 1 ∷ 1 ∷ 2 ∷ [];
  homes = Some 0 ∷ Some 1 ∷ Some 2 ∷ None ∷ [];
  leasts = (Sum, 3) ∷ [];
  distincts = (Sum, 1) ∷ [];
  held = (0, 0) ∷ (1, 1) ∷ (2, 2) ∷ (3, 0) ∷ [];
}

abbrev pub beta : Label
beta = Of 1

-- b0 sends n0 alone data of beta
abbrev pub beta_for_n0 : Outcome → List Entry
beta_for_n0 outcome =
    plainly 0 0 numbers_to_n0
    ∷ gave 1 0 numbers_to_n0 1 beta false
    ∷ plainly 2 0 numbers_to_n0
    ∷ plainly 3 0 numbers_to_n0
    ∷ Settled 0 0 outcome
    ∷ []
