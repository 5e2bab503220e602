-- What the facts and the warnings of a policy mean for every run under it.
use Rattle.std.specs.Prelude.{◌≡◌, ℕ, ◌<◌, ◌≤◌, ◌↔◌, ◌⊎◌, Bool, true, false, IsTrue, List, length}
use Rattle.std.specs.Prelude.{Some, None, slice_get}
use Rattle.wall_labels.specs.declared.op.Op.{Op}
use Rattle.wall_policy.specs.Policy.{ChineseWall, IsPolicy, home_of}
use Rattle.mpi_group.specs.Groups.{IsGroup}
use Rattle.coll_routes.specs.declared.roll.Roll.{Roll}
use Rattle.coll_routes.specs.Signatures.{reduction}
use Rattle.wall_verdict.specs.Charges.{contribution, contributors, different_datasets, sanitised}
use Rattle.run_model.specs.Holding.{Holds}
use Rattle.run_model.specs.Runs.{Entry, posts}
use Rattle.run_model.specs.Replies.{Legal}
use Rattle.policy_meaning.specs.declared.fact.Fact.TheVariants.{SanitisedFrom}
use Rattle.policy_meaning.specs.declared.warning.Doubt.{Doubt}
use Rattle.policy_meaning.specs.declared.warning.Doubt.TheVariants.{TooFewProcesses}
use Rattle.policy_meaning.specs.declared.warning.Doubt.TheVariants.{TooFewDatasets}
use Rattle.policy_meaning.specs.declared.warning.Warning.TheVariants.{OfOperation}
use Rattle.policy_meaning.specs.Facts.{AreKeptApart, IsFact}
use Rattle.policy_meaning.specs.Warnings.{Warns}

-- After no legal run one of two processes that are kept apart holds data of the other's home,
-- directly or through others.
abbrev pub KeptApartNeverMeet : Type 0
KeptApartNeverMeet = (wall : ChineseWall) (run : List Entry) (p q d : ℕ) → IsPolicy wall →
    Legal wall run → AreKeptApart wall p q → home_of wall q ≡ Some d →
    ¬ (Holds wall (posts run) p d)

-- What a rank gets of a kind that reduces by the operation is sanitised exactly if it has so many
-- contributors, and they so many different datasets.
abbrev pub IsSanitisedFrom : ChineseWall → Op → (least distinct : ℕ) → Type 0
IsSanitisedFrom wall op least distinct = (roll : Roll) (j : ℕ) → reduction roll.sig ≡ Some op →
    IsTrue (sanitised wall roll j)
    ↔ ((least ≤ contributors roll j) × (distinct ≤ different_datasets roll j))

-- the verdict asks the numbers that the facts have
abbrev pub NumbersAreOfTheVerdict : Type 0
NumbersAreOfTheVerdict = (wall : ChineseWall) (op : Op) (least distinct : ℕ) →
    IsFact wall (SanitisedFrom op least distinct) → IsSanitisedFrom wall op least distinct

-- no result of another operation is sanitised
abbrev pub OthersAreNeverSanitised : Type 0
OthersAreNeverSanitised = (wall : ChineseWall) (op : Op) (roll : Roll) (j : ℕ) →
    ((least distinct : ℕ) → ¬ (IsFact wall (SanitisedFrom op least distinct))) →
    reduction roll.sig ≡ Some op → sanitised wall roll j ≡ false

-- The roll is one of a run under the policy, of which nothing was barred: its members are processes
-- of the policy, and what goes from one to rank j has the label of that one's home; a process
-- without a home may write any.
pub record IsOfPolicy (wall : ChineseWall) (roll : Roll) (j : ℕ) : Type 0 where
  pub group : IsGroup roll.members
  pub sized : length roll.members ≡ roll.shape.size
  pub processes : (i p : ℕ) → slice_get roll.members i ≡ Some p → p < length wall.process_names
  pub datasets : (i d : ℕ) → contribution roll i j ≡ Some d → d < length wall.dataset_names
  pub labels : (i p d : ℕ) → slice_get roll.members i ≡ Some p → contribution roll i j ≡ Some d →
      (home_of wall p ≡ Some d) ⊎ (home_of wall p ≡ None)

-- an operation that is warned of as never sanitised is so
abbrev pub IsOutOfReach : ChineseWall → Op → Type 0
IsOutOfReach wall op = Warns wall (OfOperation op TooFewProcesses)
    ⊎ Warns wall (OfOperation op TooFewDatasets)

abbrev pub OutOfReachIsNeverSanitised : Type 0
OutOfReachIsNeverSanitised = (wall : ChineseWall) (op : Op) (roll : Roll) (j : ℕ) →
    IsOutOfReach wall op → IsOfPolicy wall roll j → reduction roll.sig ≡ Some op →
    sanitised wall roll j ≡ false

-- the doubt is of a result that is sanitised
abbrev pub is_of_a_result : Doubt → Bool
is_of_a_result TooFewProcesses = false
is_of_a_result TooFewDatasets = false
is_of_a_result _ = true

-- none is due to an operation that is warned of as never sanitised
abbrev pub WarningsAgree : Type 0
WarningsAgree = (wall : ChineseWall) (op : Op) (doubt : Doubt) → IsOutOfReach wall op →
    is_of_a_result doubt ≡ true → ¬ (Warns wall (OfOperation op doubt))
