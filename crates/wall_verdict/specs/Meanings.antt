-- Charges and verdicts as relations, in the words of the rules.
use Rattle.std.specs.Prelude.{◌≡◌, ℕ, ◌<◌, true, false, ◌||◌, ◌⊎◌, IsTrue, slice_get, Some}
use Rattle.wall_labels.specs.declared.label.Label.{Label}
use Rattle.wall_labels.specs.declared.label.Label.TheVariants.{Of}
use Rattle.wall_policy.specs.Policy.{ChineseWall}
use Rattle.wall_policy.specs.Rivals.{AreRivals}
use Rattle.wall_rules.specs.Histories.{History}
use Rattle.wall_rules.specs.Rules.{HoldsNoRivals}
use Rattle.coll_routes.specs.declared.roll.Roll.{Roll}
use Rattle.coll_routes.specs.Rolls.{label_of, is_barred, routed}
use Rattle.wall_rules.specs.declared.rule.Rule.TheVariants.{Star, Simple}
use Rattle.wall_verdict.specs.declared.verdict.Verdict.{Verdict}
use Rattle.wall_verdict.specs.declared.verdict.Verdict.TheVariants.{Granted, Denied}
use Rattle.wall_verdict.specs.Charges.{sanitised, charged}

-- dataset d is charged to rank j for what rank i gives: it goes there unsanitised, labelled d
pub record IsChargedFrom (wall : ChineseWall) (roll : Roll) (j i d : ℕ) : Type 0 where
  pub routed : routed roll i j ≡ true
  pub label : label_of roll i ≡ Some (Of d)
  pub unsanitised : sanitised wall roll j ≡ false

-- process p has had access to e, or e is charged to rank j from a rank below i
abbrev pub IsHeldBefore : ChineseWall → History → Roll → (j p i e : ℕ) → Type 0
IsHeldBefore wall has roll j p i e =
    IsTrue (has p e) ⊎ ((k : ℕ) × (k < i) × IsChargedFrom wall roll j k e)

-- What is charged to rank j from rank i has a rival that its process has had access to, or that is
-- charged to j from a rank below i.
pub record Offends (wall : ChineseWall) (has : History) (roll : Roll) (j i : ℕ) : Type 0 where
  pub process : ℕ
  pub dataset : ℕ
  pub rival : ℕ
  pub receiver : slice_get roll.members j ≡ Some process
  pub charged : IsChargedFrom wall roll j i dataset
  pub rivals : AreRivals wall.classes dataset rival
  pub held : IsHeldBefore wall has roll j process i rival

-- a post was barred at rank i, and at none below it
pub record IsLowestBarred (roll : Roll) (i : ℕ) : Type 0 where
  pub within : i < roll.shape.size
  pub barred : is_barred roll i ≡ true
  pub lowest : (k : ℕ) → k < i → is_barred roll k ≡ false

abbrev pub NobodyIsBarred : Roll → Type 0
NobodyIsBarred roll = (i : ℕ) → i < roll.shape.size → is_barred roll i ≡ false

-- pair (k, m) comes before pair (j, i): the receiver decides first
abbrev pub IsBefore : (k m j i : ℕ) → Type 0
IsBefore k m j i = (k < j) ⊎ ((k ≡ j) × (m < i))

-- receiver j and contributor i offend, and no pair before them does
pub record IsLeastOffence (wall : ChineseWall) (has : History) (roll : Roll) (j i : ℕ)
    : Type 0 where
  pub receiver : j < roll.shape.size
  pub contributor : i < roll.shape.size
  pub offends : Offends wall has roll j i
  pub least : (k m : ℕ) → k < roll.shape.size → m < roll.shape.size → IsBefore k m j i →
      ¬ (Offends wall has roll k m)

abbrev pub NobodyOffends : ChineseWall → History → Roll → Type 0
NobodyOffends wall has roll =
    (j i : ℕ) → j < roll.shape.size → i < roll.shape.size → ¬ (Offends wall has roll j i)

-- a denial names this process and label: those of the lowest rank that was barred
pub record NamesBarred (roll : Roll) (process : ℕ) (label : Label) : Type 0 where
  pub rank : ℕ
  pub lowest : IsLowestBarred roll rank
  pub is_member : slice_get roll.members rank ≡ Some process
  pub is_label : label_of roll rank ≡ Some label

-- a denial names this process and label: the receiver, and the contributor's label, of the least
-- pair that offends
pub record NamesOffence (wall : ChineseWall) (has : History) (roll : Roll) (process : ℕ)
    (label : Label) : Type 0 where
  pub receiver : ℕ
  pub contributor : ℕ
  pub least : IsLeastOffence wall has roll receiver contributor
  pub is_member : slice_get roll.members receiver ≡ Some process
  pub is_label : label_of roll contributor ≡ Some label

-- what a verdict says of a full instance
abbrev pub IsVerdict : ChineseWall → History → Roll → Verdict → Type 0
IsVerdict wall has roll Granted = NobodyIsBarred roll × NobodyOffends wall has roll
IsVerdict wall has roll (Denied Star process label) = NamesBarred roll process label
IsVerdict wall has roll (Denied Simple process label) =
    NobodyIsBarred roll × NamesOffence wall has roll process label

-- Each member's history, together with what is charged to it, holds no two rivals.
abbrev pub MembersStayApart : ChineseWall → History → Roll → Type 0
MembersStayApart wall has roll = (j p : ℕ) → slice_get roll.members j ≡ Some p →
    HoldsNoRivals wall.classes (λ d. has p d || charged wall roll j d)
