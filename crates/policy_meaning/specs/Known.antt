-- Facts and warnings whose classes, processes and datasets the policy has.
use Rattle.std.specs.Prelude.{ℕ, ◌<◌, length}
use Rattle.wall_policy.specs.Policy.{ChineseWall}
use Rattle.policy_meaning.specs.declared.fact.Fact.{Fact}
use Rattle.policy_meaning.specs.declared.fact.Fact.TheVariants.{HasClass, AtHome, NoHome}
use Rattle.policy_meaning.specs.declared.fact.Fact.TheVariants.{KeptApart, SanitisedFrom}
use Rattle.policy_meaning.specs.declared.warning.Warning.{Warning}
use Rattle.policy_meaning.specs.declared.warning.Warning.TheVariants.{NothingSanitised}
use Rattle.policy_meaning.specs.declared.warning.Warning.TheVariants.{OfOperation, NoRival}
use Rattle.policy_meaning.specs.declared.warning.Warning.TheVariants.{NobodysHome, AnyLabel}

abbrev pub IsProcess : ChineseWall → ℕ → Type 0
IsProcess wall p = p < length wall.process_names

abbrev pub IsDataset : ChineseWall → ℕ → Type 0
IsDataset wall d = d < length wall.dataset_names

abbrev pub IsKnownFact : ChineseWall → Fact → Type 0
IsKnownFact wall (HasClass class) = class < length wall.class_names
IsKnownFact wall (AtHome p d) = IsProcess wall p × IsDataset wall d
IsKnownFact wall (NoHome p) = IsProcess wall p
IsKnownFact wall (KeptApart p q) = IsProcess wall p × IsProcess wall q
IsKnownFact wall (SanitisedFrom op least distinct) = Unit {0}

abbrev pub IsKnownWarning : ChineseWall → Warning → Type 0
IsKnownWarning wall NothingSanitised = Unit {0}
IsKnownWarning wall (OfOperation op doubt) = Unit {0}
IsKnownWarning wall (NoRival d) = IsDataset wall d
IsKnownWarning wall (NobodysHome d) = IsDataset wall d
IsKnownWarning wall (AnyLabel p) = IsProcess wall p
