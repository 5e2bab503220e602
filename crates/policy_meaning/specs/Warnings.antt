-- What a policy may say and hardly means. (Own rules.)
use Rattle.std.specs.Prelude.{◌≡◌, ◌≢◌, ℕ, ◌<◌, ◌≤◌, ◌+◌, ◌*◌, min, Bool, true, false, IsTrue}
use Rattle.std.specs.Prelude.{◌&&◌, length, count_by, is_none, Option, Some, None, if◌then◌else◌}
use Rattle.std.specs.List.{list_any}
use Rattle.wall_labels.specs.Limits.{class_limit}
use Rattle.wall_labels.specs.declared.op.Op.{Op}
use Rattle.wall_labels.specs.declared.op.Op.TheVariants.{Max, Min, Maxloc, Minloc, Sum, Prod, Land}
use Rattle.wall_labels.specs.declared.op.Op.TheVariants.{Lor, Band, Bor}
use Rattle.wall_labels.specs.Ops.{op_number}
use Rattle.wall_policy.specs.Policy.{ChineseWall, home_of, least_of, distinct_of, class_of}
use Rattle.wall_policy.specs.Rivals.{AreRivals}
use Rattle.mpi_cart.specs.Grids.{below}
use Rattle.wall_verdict.specs.Charges.{is_that}
use Rattle.policy_meaning.specs.declared.warning.Doubt.{Doubt}
use Rattle.policy_meaning.specs.declared.warning.Doubt.TheVariants.{TooFewProcesses}
use Rattle.policy_meaning.specs.declared.warning.Doubt.TheVariants.{TooFewDatasets, TellsOneFigure}
use Rattle.policy_meaning.specs.declared.warning.Doubt.TheVariants.{ShowsThrough, TwoContributors}
use Rattle.policy_meaning.specs.declared.warning.Doubt.TheVariants.{FewDatasets, BelowAsked}
use Rattle.policy_meaning.specs.declared.warning.Warning.{Warning}
use Rattle.policy_meaning.specs.declared.warning.Warning.TheVariants.{NothingSanitised}
use Rattle.policy_meaning.specs.declared.warning.Warning.TheVariants.{OfOperation, NoRival}
use Rattle.policy_meaning.specs.declared.warning.Warning.TheVariants.{NobodysHome, AnyLabel}

-- the operation picks one of the values (MPI 4.1, 6.9.2 and 6.9.4)
abbrev pub picks : Op → Bool
picks Max = true
picks Min = true
picks Maxloc = true
picks Minloc = true
picks _ = false

-- one value can settle the whole result: a 0 or a 1, a true or a false (MPI 4.1, 6.9.2)
abbrev pub shows_through : Op → Bool
shows_through Prod = true
shows_through Land = true
shows_through Lor = true
shows_through Band = true
shows_through Bor = true
shows_through _ = false

abbrev pub is_sum : Op → Bool
is_sum Sum = true
is_sum _ = false

-- some process is at home at d
abbrev pub is_a_home : ChineseWall → ℕ → Bool
is_a_home wall d = list_any (λ p. is_that (home_of wall p) d) (below (length wall.process_names))

-- how many datasets are somebody's home, and how many processes have none
abbrev pub homes : ChineseWall → ℕ
homes wall = count_by (is_a_home wall) (below (length wall.dataset_names))

abbrev pub homeless : ChineseWall → ℕ
homeless wall = count_by (λ p. is_none (home_of wall p)) (below (length wall.process_names))

-- How many different datasets the labels of one instance can name at most: a process with a home
-- names that one or its post is barred, and one without a home names any.
abbrev pub most_labels : ChineseWall → ℕ
most_labels wall = min (length wall.dataset_names) (homes wall + homeless wall)

-- A result can be sanitised that takes so many contributors, and so many different datasets of them:
-- there are so many processes, and their labels can name so many.
abbrev pub IsInReach : ChineseWall → (least distinct : ℕ) → Type 0
IsInReach wall least distinct =
    (least ≤ length wall.process_names) × (distinct ≤ most_labels wall)

abbrev pub CanBeSanitised : ChineseWall → Op → Type 0
CanBeSanitised wall op = (least : ℕ) × (distinct : ℕ) × (least_of wall op ≡ Some least)
    × (distinct_of wall op ≡ Some distinct)
    × IsInReach wall least distinct

-- how many processes are at home at d
abbrev pub at_home : ChineseWall → (d : ℕ) → ℕ
at_home wall d = count_by (λ p. is_that (home_of wall p) d) (below (length wall.process_names))

-- one, if some process is at home at d
abbrev pub is_one_home : ChineseWall → (d : ℕ) → ℕ
is_one_home wall d = min 1 (at_home wall d)

-- Two rivals by themselves are a crowd of so many: data of both can be given to one instance, by
-- processes that are at home there and by those without a home, and so many processes can give
-- some.
pub record IsCrowd (wall : ChineseWall) (least d e : ℕ) : Type 0 where
  pub rivals : AreRivals wall.classes d e
  pub both : 2 ≤ is_one_home wall d + is_one_home wall e + homeless wall
  pub many : least ≤ at_home wall d + at_home wall e + homeless wall

-- the dataset is of the class, and somebody's home
abbrev pub is_home_of : ChineseWall → (class d : ℕ) → Bool
is_home_of wall class d = is_that (class_of wall d) class && is_a_home wall d

-- the class has such a dataset
abbrev pub has_home : ChineseWall → (class : ℕ) → Bool
has_home wall class = list_any (is_home_of wall class) (below (length wall.dataset_names))

-- how many classes give figures
unfoldable pub giving : ChineseWall → ℕ
giving wall = count_by (has_home wall) (below class_limit)

-- How many different datasets a sum should take: two more than a process may know figures that went
-- into it, which are one of each class that gives some, and one for each process without a home.
abbrev pub asked : ChineseWall → ℕ
asked wall = 2 + giving wall + homeless wall

-- what is doubtful of an operation, whose results are sanitised from these numbers on
abbrev pub IsDoubtful : ChineseWall → Op → (least distinct : ℕ) → Doubt → Type 0
IsDoubtful wall op least distinct TooFewProcesses = length wall.process_names < least
IsDoubtful wall op least distinct TooFewDatasets = most_labels wall < distinct
IsDoubtful wall op least distinct TellsOneFigure =
    IsInReach wall least distinct × IsTrue (picks op)
IsDoubtful wall op least distinct ShowsThrough =
    IsInReach wall least distinct × IsTrue (shows_through op)
IsDoubtful wall op least distinct TwoContributors = IsInReach wall least distinct × (least ≡ 2)
IsDoubtful wall op least distinct FewDatasets =
    IsInReach wall least distinct × (distinct ≤ 2) × ((d : ℕ) × (e : ℕ) × IsCrowd wall least d e)
IsDoubtful wall op least distinct BelowAsked =
    IsInReach wall least distinct × IsTrue (is_sum op) × (distinct < asked wall)

-- when each warning is due
abbrev pub Warns : ChineseWall → Warning → Type 0
Warns wall NothingSanitised = (op : Op) → least_of wall op ≡ None
Warns wall (OfOperation op doubt) = (least : ℕ) × (distinct : ℕ) × (least_of wall op ≡ Some least)
    × (distinct_of wall op ≡ Some distinct)
    × IsDoubtful wall op least distinct doubt
Warns wall (NoRival d) =
    (d < length wall.dataset_names) × ((e : ℕ) → ¬ (AreRivals wall.classes d e))
Warns wall (NobodysHome d) =
    (d < length wall.dataset_names) × ((p : ℕ) → home_of wall p ≢ Some d)
Warns wall (AnyLabel p) = (p < length wall.process_names) × (home_of wall p ≡ None)
    × ((op : Op) × CanBeSanitised wall op)

abbrev pub doubt_number : Doubt → ℕ
doubt_number TooFewProcesses = 0
doubt_number TooFewDatasets = 1
doubt_number TellsOneFigure = 2
doubt_number ShowsThrough = 3
doubt_number TwoContributors = 4
doubt_number FewDatasets = 5
doubt_number BelowAsked = 6

-- Where a warning stands among all warnings: that nothing is sanitised, then operations, then
-- datasets without a rival, then those that are nobody's home, then processes, each by number.
-- There are 12 operations, and no more than 1,024 datasets.
abbrev pub warning_place : Warning → ℕ
warning_place NothingSanitised = 0
warning_place (OfOperation op doubt) = 1 + (7 * op_number op + doubt_number doubt)
warning_place (NoRival d) = 85 + d
warning_place (NobodysHome d) = 1109 + d
warning_place (AnyLabel p) = 2133 + p
