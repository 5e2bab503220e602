-- A policy of a Chinese Wall: which datasets are rivals, where each process is at home, what each
-- held before, and which results count as sanitised. (Brewer and Nash 1989: company datasets,
-- conflict of interest classes, sanitised information. Homes and least numbers are own rules.)
use Rattle.std.specs.Prelude.{◌≡◌, ℕ, ◌<◌, ◌≤◌, nat_eq, nat_le, Bool, true, false, IsTrue, ◌&&◌}
use Rattle.std.specs.Prelude.{◌||◌, ◌⊎◌, List, length, find, Option, Some, None, option_map}
use Rattle.std.specs.Prelude.{slice_get, take, filter, nat_lt}
use Rattle.std.specs.List.{list_all, list_any, AllZip}
use Rattle.wall_labels.specs.Limits.{process_limit, dataset_limit, class_limit}
use Rattle.wall_labels.specs.declared.op.Op.{Op}
use Rattle.wall_labels.specs.Ops.{op_number}
use Rattle.wall_policy.specs.Names.{Name, is_name, is_dataset_name, comes_twice}
use Rattle.wall_policy.specs.Rivals.{AreRivals, are_rivals}

-- The versions of a policy file. (Own format: version 2 states how many different datasets a
-- sanitised result takes.)
abbrev pub is_version : ℕ → Bool
is_version n = nat_eq n 1 || nat_eq n 2

-- Processes, datasets and classes are numbered from 0: what a list has at a number belongs to the
-- thing of that number.
pub record ChineseWall : Type 0 where
  -- the version of the file that says it
  pub version : ℕ
  pub class_names : List Name
  pub dataset_names : List Name
  pub process_names : List Name
  -- the class of each dataset: a class is the list of its datasets
  pub classes : List ℕ
  -- the home of each process, or none
  pub homes : List (Option ℕ)
  -- the operations whose results may be sanitised, each with the least number of contributors from
  -- which they are
  pub leasts : List (Op × ℕ)
  -- the same operations, each with the least number of different datasets among those contributors
  pub distincts : List (Op × ℕ)
  -- what was held before, in pairs of process and dataset; nothing, where a file says the policy
  pub held : List (ℕ × ℕ)

-- the class of a dataset
abbrev pub class_of : ChineseWall → ℕ → Option ℕ
class_of w d = slice_get w.classes d

-- two different datasets of one class
abbrev pub rival : ChineseWall → ℕ → ℕ → Bool
rival w d e = are_rivals w.classes d e

abbrev pub home_if_any : Option (Option ℕ) → Option ℕ
home_if_any None = None
home_if_any (Some home) = home

-- the home of a process; none also for a number that is no process
abbrev pub home_of : ChineseWall → ℕ → Option ℕ
home_of w p = home_if_any (slice_get w.homes p)

-- the pair of this process and this dataset stands in the list
abbrev pub has_pair : List (ℕ × ℕ) → (p d : ℕ) → Bool
has_pair pairs p d = list_any (λ pair. nat_eq pair.0 p && nat_eq pair.1 d) pairs

-- p held d before: earlier books gave it (own rule)
abbrev pub held_of : ChineseWall → (p d : ℕ) → Bool
held_of w p d = has_pair w.held p d

-- what a process holds at the beginning: its home, and what it held before
abbrev pub HasAtFirst : ChineseWall → (p d : ℕ) → Type 0
HasAtFirst w p d = (home_of w p ≡ Some d) ⊎ (held_of w p d ≡ true)

-- no process begins with two rivals (Brewer and Nash 1989: what the simple security rule keeps)
abbrev pub NobodyHasRivalsAtFirst : ChineseWall → Type 0
NobodyHasRivalsAtFirst w =
    (p d e : ℕ) → HasAtFirst w p d → HasAtFirst w p e → ¬ (AreRivals w.classes d e)

-- the process and the dataset of each pair are those of the policy
abbrev pub AreKnownPairs : ChineseWall → List (ℕ × ℕ) → Type 0
AreKnownPairs w pairs = (p d : ℕ) → has_pair pairs p d ≡ true →
    (p < length w.process_names) × (d < length w.dataset_names)

-- the number stated for an operation, in a finite map from operations to numbers
abbrev pub number_in : List (Op × ℕ) → Op → Option ℕ
number_in numbers op =
    option_map (λ r. r.1) (find (λ r. nat_eq (op_number r.0) (op_number op)) numbers)

abbrev pub least_of : ChineseWall → Op → Option ℕ
least_of w op = number_in w.leasts op

abbrev pub distinct_of : ChineseWall → Op → Option ℕ
distinct_of w op = number_in w.distincts op

-- a least number of contributors: two at least, and no more than there can be processes
abbrev pub is_least : ℕ → Bool
is_least n = nat_le 2 n && nat_le n process_limit

-- a least number of different datasets: one at least, and no more than the least number of
-- contributors
abbrev pub is_distinct : (least n : ℕ) → Bool
is_distinct least n = nat_le 1 n && nat_le n least

-- two numbers of one operation: of contributors, and of different datasets among them
abbrev pub IsPair : Op × ℕ → Op × ℕ → Type 0
IsPair least distinct = (least.0 ≡ distinct.0) × IsTrue (is_distinct least.1 distinct.1)

-- What is so of every policy.
pub record IsPolicy (w : ChineseWall) : Type 0 where
  pub known_version : is_version w.version ≡ true
  pub some_process : 1 ≤ length w.process_names
  pub few_processes : length w.process_names ≤ process_limit
  pub few_datasets : length w.dataset_names ≤ dataset_limit
  pub few_classes : length w.class_names ≤ class_limit
  -- each dataset belongs to exactly one class
  pub class_for_each : length w.classes ≡ length w.dataset_names
  pub known_classes : (d class : ℕ) → class_of w d ≡ Some class → class < length w.class_names
  -- each home is a dataset
  pub home_for_each : length w.homes ≡ length w.process_names
  pub known_homes : (p d : ℕ) → home_of w p ≡ Some d → d < length w.dataset_names
  -- a name names one thing
  pub distinct_classes : comes_twice w.class_names ≡ false
  pub distinct_datasets : comes_twice w.dataset_names ≡ false
  pub distinct_processes : comes_twice w.process_names ≡ false
  pub good_classes : list_all is_name w.class_names ≡ true
  pub good_datasets : list_all is_dataset_name w.dataset_names ≡ true
  pub good_processes : list_all is_name w.process_names ≡ true
  pub good_leasts : list_all (λ r. is_least r.1) w.leasts ≡ true
  -- an operation has both numbers or none
  pub good_distincts : AllZip IsPair w.leasts w.distincts
  pub known_held : AreKnownPairs w w.held
  pub apart : NobodyHasRivalsAtFirst w

-- ## what was held before

-- the policy with these pairs as what was held before
abbrev pub with_held : ChineseWall → List (ℕ × ℕ) → ChineseWall
with_held w pairs = record {
  version = w.version;
  class_names = w.class_names;
  dataset_names = w.dataset_names;
  process_names = w.process_names;
  classes = w.classes;
  homes = w.homes;
  leasts = w.leasts;
  distincts = w.distincts;
  held = pairs;
}

-- These pairs can be what was held before: they are of the policy's processes and datasets, none
-- that was held before is missing, and with them nobody begins with two rivals.
pub record CanBeHeld (w : ChineseWall) (pairs : List (ℕ × ℕ)) : Type 0 where
  pub known : AreKnownPairs w pairs
  pub kept : (p d : ℕ) → held_of w p d ≡ true → has_pair pairs p d ≡ true
  pub apart : NobodyHasRivalsAtFirst (with_held w pairs)

-- ## a prefix of the processes

-- the policy of the first n processes: what belongs to the others is not in it
abbrev pub first_processes : ℕ → ChineseWall → ChineseWall
first_processes n w = record {
  version = w.version;
  class_names = w.class_names;
  dataset_names = w.dataset_names;
  process_names = take n w.process_names;
  classes = w.classes;
  homes = take n w.homes;
  leasts = w.leasts;
  distincts = w.distincts;
  held = filter (λ pair. nat_lt pair.0 n) w.held;
}
