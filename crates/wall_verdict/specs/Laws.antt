-- What holds of all verdicts.
use Rattle.std.specs.Prelude.{◌≡◌, ◌↔◌, ℕ, ◌<◌, IsTrue, Some, count_by}
use Rattle.wall_policy.specs.Policy.{ChineseWall}
use Rattle.mpi_cart.specs.Grids.{below}
use Rattle.wall_rules.specs.Histories.{History, NobodyHoldsRivals}
use Rattle.coll_routes.specs.declared.roll.Roll.{Roll}
use Rattle.coll_routes.specs.Fit.{IsFit}
use Rattle.wall_verdict.specs.declared.verdict.Verdict.TheVariants.{Granted}
use Rattle.wall_verdict.specs.Charges.{contribution, contributed, different_datasets, charged}
use Rattle.wall_verdict.specs.Verdicts.{verdict}
use Rattle.wall_verdict.specs.Meanings.{IsChargedFrom, IsVerdict, NobodyIsBarred, MembersStayApart}

-- The number of different datasets of a rank's contributors is the number of datasets that some
-- rank contributes to it, each counted once: of all that lie below any bound.
abbrev pub DifferentAreCountedOnce : Type 0
DifferentAreCountedOnce = (roll : Roll) (j bound : ℕ) →
    ((i d : ℕ) → contribution roll i j ≡ Some d → d < bound) →
    different_datasets roll j ≡ count_by (contributed roll j) (below bound)

-- what is charged to a rank are the labels of those who give it unsanitised data
abbrev pub ChargesAreLabels : Type 0
ChargesAreLabels = (wall : ChineseWall) (roll : Roll) (j d : ℕ) → IsTrue (charged wall roll j d) ↔
    ((i : ℕ) × (i < roll.shape.size) × IsChargedFrom wall roll j i d)

-- a denial names the lowest rank that was barred, or else the least pair that offends
abbrev pub VerdictsNameTheLeast : Type 0
VerdictsNameTheLeast = (wall : ChineseWall) (has : History) (roll : Roll) → IsFit roll →
    IsVerdict wall has roll (verdict wall has roll)

-- Where histories hold no rivals, an instance is granted exactly if nobody was barred, and each
-- member may hold all that is charged to it beside what it holds.
abbrev pub GrantsAreJoint : Type 0
GrantsAreJoint = (wall : ChineseWall) (has : History) (roll : Roll) → IsFit roll →
    NobodyHoldsRivals wall.classes has → (verdict wall has roll ≡ Granted) ↔
    (NobodyIsBarred roll × MembersStayApart wall has roll)
