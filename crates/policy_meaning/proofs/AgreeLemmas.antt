-- Of an operation that is out of reach no warning speaks of a sanitised result.
use Rattle.std.proofs.Common.{◌≡◌, ℕ, ◌<◌, ◌≤◌, true, false, length, Some, arith, inl, inr}
use Rattle.std.proofs.lemmas.Bool.{false≢true}
use Rattle.wall_labels.specs.declared.op.Op.{Op}
use Rattle.wall_policy.specs.Policy.{ChineseWall, least_of, distinct_of}
use Rattle.policy_meaning.specs.declared.warning.Doubt.{Doubt}
use Rattle.policy_meaning.specs.declared.warning.Doubt.TheVariants.{TooFewProcesses}
use Rattle.policy_meaning.specs.declared.warning.Doubt.TheVariants.{TooFewDatasets, TellsOneFigure}
use Rattle.policy_meaning.specs.declared.warning.Doubt.TheVariants.{ShowsThrough, TwoContributors}
use Rattle.policy_meaning.specs.declared.warning.Doubt.TheVariants.{FewDatasets, BelowAsked}
use Rattle.policy_meaning.specs.Warnings.{IsInReach, most_labels}
use Rattle.policy_meaning.specs.Laws.{WarningsAgree, IsOutOfReach}

-- what can be reached is not out of reach
apart : (wall : ChineseWall) (op : Op) (least distinct : ℕ) → IsOutOfReach wall op →
    least_of wall op ≡ Some least → distinct_of wall op ≡ Some distinct →
    IsInReach wall least distinct → ⊥
apart wall op least distinct (inl few) left right reach =
    let same : few.0 ≡ least = cc in
    let far = few.4 in let near = reach.0 in omega arith
apart wall op least distinct (inr few) left right reach =
    let same : few.1 ≡ distinct = cc in
    let far = few.4 in let near = reach.1 in omega arith

pub warnings_agree : WarningsAgree
warnings_agree wall op TooFewProcesses out of due = false≢true of
warnings_agree wall op TooFewDatasets out of due = false≢true of
warnings_agree wall op TellsOneFigure out of due =
    apart wall op due.0 due.1 out due.2 due.3 due.4.0
warnings_agree wall op ShowsThrough out of due =
    apart wall op due.0 due.1 out due.2 due.3 due.4.0
warnings_agree wall op TwoContributors out of due =
    apart wall op due.0 due.1 out due.2 due.3 due.4.0
warnings_agree wall op FewDatasets out of due =
    apart wall op due.0 due.1 out due.2 due.3 due.4.0
warnings_agree wall op BelowAsked out of due =
    apart wall op due.0 due.1 out due.2 due.3 due.4.0
