-- What a verdict does to the histories.
use Rattle.std.specs.Prelude.{ℕ, Bool, true, false, ◌&&◌, ◌||◌, Option, Some, None}
use Rattle.wall_policy.specs.Policy.{ChineseWall}
use Rattle.wall_rules.specs.Histories.{History}
use Rattle.mpi_group.specs.Groups.{rank_in}
use Rattle.coll_routes.specs.declared.roll.Roll.{Roll}
use Rattle.wall_verdict.specs.declared.verdict.Verdict.{Verdict}
use Rattle.wall_verdict.specs.declared.verdict.Verdict.TheVariants.{Granted, Denied}
use Rattle.wall_verdict.specs.Charges.{charged}
use Rattle.wall_verdict.specs.Verdicts.{verdict}

abbrev pub charged_at : ChineseWall → Roll → Option ℕ → (d : ℕ) → Bool
charged_at wall roll (Some j) d = charged wall roll j d
charged_at wall roll None d = false

-- d is charged to the rank of process p
abbrev pub charged_to : ChineseWall → Roll → (p d : ℕ) → Bool
charged_to wall roll p d = charged_at wall roll (rank_in roll.members p) d

abbrev pub is_granted : Verdict → Bool
is_granted Granted = true
is_granted (Denied rule p label) = false

-- the histories, and for each member what is charged to it
abbrev pub with_charges : ChineseWall → History → Roll → History
with_charges wall has roll p d = has p d || charged_to wall roll p d

-- The histories after a verdict: a grant enters what is charged to each member, a denial enters
-- nothing. (Own rule.)
abbrev pub settled : ChineseWall → History → Roll → History
settled wall has roll p d =
    has p d || (is_granted (verdict wall has roll) && charged_to wall roll p d)
