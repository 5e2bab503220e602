-- What labels say. (Own rule: `public` stands for sanitised information, which is of no dataset.)
use Rattle.std.specs.Prelude.{ℕ, Option, Some, None}
use Rattle.wall_labels.specs.declared.label.Label.{Label}
use Rattle.wall_labels.specs.declared.label.Label.TheVariants.{Public, Of}

-- the dataset that the label names
abbrev pub dataset_of : Label → Option ℕ
dataset_of Public = None
dataset_of (Of d) = Some d
