-- Processes and labels that the policy has. (Own rule: the condition that a caller keeps, and what
-- it gets.)
use Rattle.std.specs.Prelude.{◌<◌, ℕ, length}
use Rattle.wall_labels.specs.declared.label.Label.{Label}
use Rattle.wall_labels.specs.declared.label.Label.TheVariants.{Public, Of}
use Rattle.wall_policy.specs.Policy.{ChineseWall}

abbrev pub IsKnownProcess : ChineseWall → ℕ → Type 0
IsKnownProcess wall p = p < length wall.process_names

-- public, or a dataset of the policy
abbrev pub IsKnownLabel : ChineseWall → Label → Type 0
IsKnownLabel wall Public = Unit {0}
IsKnownLabel wall (Of d) = d < length wall.dataset_names
