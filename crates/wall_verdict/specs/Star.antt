-- The star rule at a post. (Brewer and Nash 1989: the *-property.)
use Rattle.std.specs.Prelude.{ℕ, Bool, true, ◌&&◌, ◌||◌, ◌==◌, Option, Some, None}
use Rattle.wall_labels.specs.declared.ids.TheConstants.{DATASET_LIMIT}
use Rattle.wall_labels.specs.declared.label.Label.{Label}
use Rattle.wall_rules.specs.Histories.{History}
use Rattle.wall_rules.specs.Rules.{PassesStar, passes_star}
use Rattle.wall_verdict.specs.Charges.{dataset_in, is_that}

-- each dataset in the poster's history is the label; a post without a label passes
abbrev pub MayPost : History → (p : ℕ) → Option Label → Type 0
MayPost has p None = Unit {0}
MayPost has p (Some label) = PassesStar (has p) label

-- the same as a test
abbrev pub star : History → (p : ℕ) → Option Label → Bool
star has p None = true
star has p (Some label) = passes_star DATASET_LIMIT (has p) label

-- a post that passed enters its label in the poster's history at once (own rule: a write is an
-- access)
abbrev pub with_label : History → (poster : ℕ) → Option Label → (passed : Bool) → History
with_label has poster label passed p d =
    has p d || (p == poster && passed && is_that (dataset_in label) d)
