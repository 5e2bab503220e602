use Rattle.std.proofs.Common.{◌≡◌, ◌++◌, drop}
use Rattle.wall_policy.specs.Numbering.{repeats_after}
use Rattle.wall_policy.specs.Checks.{dataset_names}
use Rattle.wall_policy.proofs.numbering.add_datasets.Given as goal

abbrev pub invariant-loop-class : goal.invariant-loop-class
invariant-loop-class l = record {
  rest : repeats_after l.table (dataset_names (drop l.class-index l.classes))
      ≡ repeats_after l.fn.table (dataset_names l.classes);
  all : l.table ++ dataset_names (drop l.class-index l.classes)
      ≡ l.fn.table ++ dataset_names l.classes;
}
