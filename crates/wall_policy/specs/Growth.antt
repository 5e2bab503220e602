-- What may change from one policy to the next: it may grow. (Own rule.) A file numbers its datasets
-- class by class, so a firm that is added to any class but the last moves the numbers of those behind
-- it: which policy file has grown from which policy is said by names, and the numbers of the later
-- file are given anew, those of the earlier policy first.
use Rattle.std.specs.Prelude.{◌≡◌, ◌<◌, ℕ, not, true, List, [], ◌++◌, length, map, filter, Option, Some}
use Rattle.std.specs.Prelude.{option_and_then, slice_get, unwrap_or}
use Rattle.wall_policy.specs.Names.{Name, place_of, is_in}
use Rattle.wall_policy.specs.Policy.{ChineseWall, IsPolicy, class_of, home_of}

---- Growth by numbers.

abbrev pub IsPrefix : {X : Type 0} → (prefix whole : List X) → Type 0
IsPrefix {X} prefix whole = (rest : List X) × (prefix ++ rest ≡ whole)

-- A policy that only grew: what an earlier one has stands in it at the same numbers, with the same
-- names, classes and homes, and more may stand behind it.
pub record GrewFrom (old new : ChineseWall) : Type 0 where
  pub datasets : IsPrefix old.dataset_names new.dataset_names
  pub classes : IsPrefix old.classes new.classes
  pub processes : IsPrefix old.process_names new.process_names
  pub homes : IsPrefix old.homes new.homes

---- Facts by names.

-- the name of the class of the dataset of this number
abbrev pub class_name : ChineseWall → (d : ℕ) → Option Name
class_name w d = option_and_then (λ class. slice_get w.class_names class) (class_of w d)

-- the name of the class of the dataset of this name; none where there is no such dataset
abbrev pub class_name_of : ChineseWall → Name → Option Name
class_name_of w name = option_and_then (class_name w) (place_of name w.dataset_names)

-- the name of the home of a process
abbrev pub home_name : ChineseWall → (p : ℕ) → Option Name
home_name w p = option_and_then (λ d. slice_get w.dataset_names d) (home_of w p)

---- Growth by names.

-- The process of this number in the earlier policy has its number, its name and its home in the
-- later. (Its number is its rank in the world.)
pub record KeepsProcess (old new : ChineseWall) (p : ℕ) : Type 0 where
  pub name : slice_get new.process_names p ≡ slice_get old.process_names p
  pub home : home_name new p ≡ home_name old p

-- the dataset of this number in the earlier policy is there in the later, in the class of that name
abbrev pub KeepsDataset : (old new : ChineseWall) (name : Name) → Type 0
KeepsDataset old new name = class_name_of new name ≡ class_name_of old name

-- The later policy has grown from the earlier, by names: all processes, all classes and all datasets
-- of it are kept. What is not in the earlier may stand anywhere in the later, but a process only
-- behind the others. Version and least numbers are each policy's own.
pub record HasGrown (old new : ChineseWall) : Type 0 where
  pub processes : (p : ℕ) → p < length old.process_names → KeepsProcess old new p
  pub classes : (c : ℕ) (name : Name) → slice_get old.class_names c ≡ Some name →
      is_in new.class_names name ≡ true
  pub datasets : (d : ℕ) (name : Name) → slice_get old.dataset_names d ≡ Some name →
      KeepsDataset old new name

---- The numbers of the later policy.

-- these names, and behind them those of the others that are none of them, in their order
abbrev pub names_first : (first others : List Name) → List Name
names_first first others = first ++ filter (λ name. not (is_in first name)) others

-- the number of the class of that name; every dataset has a class, so the number 0 stands for none
abbrev pub class_number : (class_names : List Name) → Option Name → ℕ
class_number class_names name =
    unwrap_or (option_and_then (λ n. place_of n class_names) name) 0

abbrev pub place_if_any : (dataset_names : List Name) → Option Name → Option ℕ
place_if_any dataset_names name = option_and_then (λ n. place_of n dataset_names) name

-- The later policy, which says what its file says, with the numbers of the earlier: its classes and
-- datasets come first.
abbrev pub renumbered : (old new : ChineseWall) → ChineseWall
renumbered old new = record {
  version = new.version;
  class_names = names_first old.class_names new.class_names;
  dataset_names = names_first old.dataset_names new.dataset_names;
  process_names = new.process_names;
  classes = map (λ name. class_number (names_first old.class_names new.class_names)
      (class_name_of new name)) (names_first old.dataset_names new.dataset_names);
  homes = map (λ home. place_if_any (names_first old.dataset_names new.dataset_names)
      (option_and_then (λ d. slice_get new.dataset_names d) home)) new.homes;
  leasts = new.leasts;
  distincts = new.distincts;
  held = [];
}

-- Two policies say the same, by names. (The order of classes and of datasets is no matter.)
pub record SaysTheSame (w v : ChineseWall) : Type 0 where
  pub version : w.version ≡ v.version
  pub processes : w.process_names ≡ v.process_names
  pub datasets : (name : Name) → class_name_of w name ≡ class_name_of v name
  pub homes : (p : ℕ) → home_name w p ≡ home_name v p
  pub leasts : w.leasts ≡ v.leasts
  pub distincts : w.distincts ≡ v.distincts

-- A file that has grown by names has grown by the numbers that are given anew: so `GrewFrom` is all
-- that chains of books need of it.
abbrev pub GrownFilesGrow : Type 0
GrownFilesGrow = (old new : ChineseWall) → IsPolicy old → IsPolicy new → HasGrown old new →
    GrewFrom old (renumbered old new)

-- And so numbered it is a policy, and says what its file says.
abbrev pub GrownFilesArePolicies : Type 0
GrownFilesArePolicies = (old new : ChineseWall) → IsPolicy old → IsPolicy new → HasGrown old new →
    IsPolicy (renumbered old new) × SaysTheSame new (renumbered old new)
