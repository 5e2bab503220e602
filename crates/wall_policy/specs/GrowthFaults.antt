-- Where a later policy has not grown from an earlier one: its first fault, by a fixed order. (Own
-- rule.) Processes come first, then classes, then datasets, each by its number in the earlier policy;
-- of a process the name comes before the home, of a dataset that it is there before its class.
use Rattle.std.specs.Prelude.{◌≡◌, ◌<◌, ℕ, true, false, length, Some, slice_get}
use Rattle.wall_policy.specs.declared.growth.GrowthFault.{GrowthFault}
use Rattle.wall_policy.specs.declared.growth.GrowthFault.TheVariants.{Process, Home, Class, Dataset}
use Rattle.wall_policy.specs.declared.growth.GrowthFault.TheVariants.{Moved, NoMemory}
use Rattle.wall_policy.specs.Names.{Name, is_in}
use Rattle.wall_policy.specs.Policy.{ChineseWall}
use Rattle.wall_policy.specs.Growth.{KeepsProcess, KeepsDataset, HasGrown, home_name}

---- The first of each kind are kept.

-- the first n processes of the earlier policy are kept
abbrev pub KeepsProcesses : (old new : ChineseWall) (n : ℕ) → Type 0
KeepsProcesses old new n = (p : ℕ) → p < n → KeepsProcess old new p

-- for each of the first n classes of the earlier policy there is one of that name in the later
abbrev pub KeepsClasses : (old new : ChineseWall) (n : ℕ) → Type 0
KeepsClasses old new n = (c : ℕ) (name : Name) → c < n → slice_get old.class_names c ≡ Some name →
    is_in new.class_names name ≡ true

-- the first n datasets of the earlier policy are kept
abbrev pub KeepsDatasets : (old new : ChineseWall) (n : ℕ) → Type 0
KeepsDatasets old new n = (d : ℕ) (name : Name) → d < n →
    slice_get old.dataset_names d ≡ Some name → KeepsDataset old new name

---- Faults.

-- the process of this number has another name in the later policy, or there is none
pub record LosesProcess (old new : ChineseWall) (p : ℕ) : Type 0 where
  pub there : p < length old.process_names
  pub before : KeepsProcesses old new p
  pub name : ¬ (slice_get new.process_names p ≡ slice_get old.process_names p)

-- the process has its name, and another home
pub record MovesHome (old new : ChineseWall) (p : ℕ) : Type 0 where
  pub there : p < length old.process_names
  pub before : KeepsProcesses old new p
  pub name : slice_get new.process_names p ≡ slice_get old.process_names p
  pub home : ¬ (home_name new p ≡ home_name old p)

-- no class of the later policy has the name of this one
pub record LosesClass (old new : ChineseWall) (c : ℕ) : Type 0 where
  pub processes : KeepsProcesses old new (length old.process_names)
  pub before : KeepsClasses old new c
  pub name : Name
  pub named : slice_get old.class_names c ≡ Some name
  pub gone : is_in new.class_names name ≡ false

-- no dataset of the later policy has the name of this one
pub record LosesDataset (old new : ChineseWall) (d : ℕ) : Type 0 where
  pub processes : KeepsProcesses old new (length old.process_names)
  pub classes : KeepsClasses old new (length old.class_names)
  pub before : KeepsDatasets old new d
  pub name : Name
  pub named : slice_get old.dataset_names d ≡ Some name
  pub gone : is_in new.dataset_names name ≡ false

-- the dataset of this name is in a class of another name
pub record MovesDataset (old new : ChineseWall) (d : ℕ) : Type 0 where
  pub processes : KeepsProcesses old new (length old.process_names)
  pub classes : KeepsClasses old new (length old.class_names)
  pub before : KeepsDatasets old new d
  pub name : Name
  pub named : slice_get old.dataset_names d ≡ Some name
  pub there : is_in new.dataset_names name ≡ true
  pub moved : ¬ (KeepsDataset old new name)

-- What the answer says of the two policies. Memory is asked for only where all is kept.
abbrev pub IsGrowthFault : (old new : ChineseWall) → GrowthFault → Type 0
IsGrowthFault old new (Process p) = LosesProcess old new p
IsGrowthFault old new (Home p) = MovesHome old new p
IsGrowthFault old new (Class c) = LosesClass old new c
IsGrowthFault old new (Dataset d) = LosesDataset old new d
IsGrowthFault old new (Moved d) = MovesDataset old new d
IsGrowthFault old new NoMemory = HasGrown old new
