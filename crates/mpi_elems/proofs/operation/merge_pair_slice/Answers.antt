use Rattle.wall_labels.specs.declared.op.Op.TheVariants.{Maxloc, Minloc}
use Rattle.mpi_elems.proofs.LoopLemmas.{pairs_merged}
use Rattle.mpi_elems.proofs.operation.merge_pair_slice.Goals as goal

pub returns-in-Maxloc-clause-elements : goal.returns-in-Maxloc-clause-elements
returns-in-Maxloc-clause-elements c =
    rw c.in-Maxloc.is (pairs_merged Maxloc _ _ _ c.merge_each.ensures.cells)

pub returns-in-Minloc-clause-elements : goal.returns-in-Minloc-clause-elements
returns-in-Minloc-clause-elements c =
    rw c.in-Minloc.is (pairs_merged Minloc _ _ _ c.merge_each-in-Minloc.ensures.cells)
