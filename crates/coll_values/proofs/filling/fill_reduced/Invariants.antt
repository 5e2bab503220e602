use Rattle.std.proofs.Common.{◌≡◌, ◌≤◌}
use Rattle.mpi_elems.specs.Elements.{combine}
use Rattle.mpi_elems.specs.Contents.{elements, IsFit}
use Rattle.coll_values.specs.Values.{sent}
use Rattle.coll_values.proofs.FoldLemmas.{IsFold}
use Rattle.coll_values.proofs.filling.fill_reduced.Given as goal

abbrev pub invariant-loop-from : goal.invariant-loop-from
invariant-loop-from l = record {
  kind : l.line.elem_type ≡ l.initial.line.elem_type;
  folds : IsFold (combine l.op l.initial.line.elem_type) l.from (λ i. sent l.full i l.to 0)
      (elements l.line);
  room : l.initial.line.room ≤ l.line.room;
  fit : IsFit l.line;
}
