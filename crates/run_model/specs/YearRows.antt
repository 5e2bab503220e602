-- Worked policies of a later day: what may differ from the policy of a book, and what may not.
use Rattle.std.specs.Prelude.{[], ◌∷◌, Some, None, codes}
use Rattle.wall_labels.specs.declared.op.Op.TheVariants.{Sum, Max}
use Rattle.wall_policy.specs.Policy.{ChineseWall}
use Rattle.run_model.specs.ChainRows.{banks_grown}

-- what n0 and the others held after the book, under a policy of version 2 whose sum is sanitised
-- from two contributors on, with a class and a process more
abbrev pub banks_lowered : ChineseWall
banks_lowered = record banks_grown {
  version = 2;
  process_names = codes "a0" ∷ codes "b0" ∷ codes "c0" ∷ codes "n0" ∷ codes "e0" ∷ [];
  homes = Some 0 ∷ Some 1 ∷ Some 2 ∷ None ∷ Some 4 ∷ [];
  leasts = (Sum, 2) ∷ (Max, 2) ∷ [];
  distincts = (Sum, 1) ∷ (Max, 1) ∷ [];
}

-- beta is in the class of crude
abbrev pub beta_moved : ChineseWall
beta_moved = record banks_grown { classes = 0 ∷ 1 ∷ 1 ∷ 1 ∷ 2 ∷ [] }

-- b0 has no home any more
abbrev pub home_removed : ChineseWall
home_removed = record banks_grown { homes = Some 0 ∷ None ∷ Some 2 ∷ None ∷ [] }

-- n0 has another name, and behind it is a new process of the old
abbrev pub n0_renamed : ChineseWall
n0_renamed = record banks_grown {
  process_names = codes "a0" ∷ codes "b0" ∷ codes "c0" ∷ codes "m0" ∷ codes "n0" ∷ [];
  homes = Some 0 ∷ Some 1 ∷ Some 2 ∷ None ∷ None ∷ [];
}

-- The policy of a file in which a bank has joined the others, and a class stands before theirs: so
-- the numbers of all datasets are others than in `banks_and_oil`.
abbrev pub gamma_joined : ChineseWall
gamma_joined = record {
  version = 2;
  class_names = codes "mines" ∷ codes "banks" ∷ codes "oil" ∷ [];
  dataset_names = codes "eureka" ∷ codes "alpha" ∷ codes "beta" ∷ codes "gamma" ∷ codes "crude"
      ∷ codes "delta" ∷ [];
  process_names = codes "a0" ∷ codes "b0" ∷ codes "c0" ∷ codes "n0" ∷ codes "g0" ∷ [];
  classes = 0 ∷ 1 ∷ 1 ∷ 1 ∷ 2 ∷ 2 ∷ [];
  homes = Some 1 ∷ Some 2 ∷ Some 4 ∷ None ∷ Some 3 ∷ [];
  leasts = (Sum, 2) ∷ [];
  distincts = (Sum, 2) ∷ [];
  held = [];
}

-- the same with the numbers of `banks_and_oil` first
abbrev pub gamma_behind : ChineseWall
gamma_behind = record {
  version = 2;
  class_names = codes "banks" ∷ codes "oil" ∷ codes "mines" ∷ [];
  dataset_names = codes "alpha" ∷ codes "beta" ∷ codes "crude" ∷ codes "delta" ∷ codes "eureka"
      ∷ codes "gamma" ∷ [];
  process_names = codes "a0" ∷ codes "b0" ∷ codes "c0" ∷ codes "n0" ∷ codes "g0" ∷ [];
  classes = 0 ∷ 0 ∷ 1 ∷ 1 ∷ 2 ∷ 0 ∷ [];
  homes = Some 0 ∷ Some 1 ∷ Some 2 ∷ None ∷ Some 5 ∷ [];
  leasts = (Sum, 2) ∷ [];
  distincts = (Sum, 2) ∷ [];
  held = [];
}
