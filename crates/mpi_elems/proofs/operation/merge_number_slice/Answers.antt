use Rattle.wall_labels.specs.declared.op.Op.TheVariants.{Max, Min, Sum, Prod, Land, Lor, Lxor, Band}
use Rattle.wall_labels.specs.declared.op.Op.TheVariants.{Bor, Bxor}
use Rattle.mpi_elems.proofs.LoopLemmas.{singles_merged}
use Rattle.mpi_elems.proofs.operation.merge_number_slice.Goals as goal

pub returns-in-Max-clause-elements : goal.returns-in-Max-clause-elements
returns-in-Max-clause-elements g c = rw c.in-Max.is
    (singles_merged Max g.T.Native.kind g.T.Native.number _ _ _ c.merge_each.ensures.cells)

pub returns-in-Min-clause-elements : goal.returns-in-Min-clause-elements
returns-in-Min-clause-elements g c = rw c.in-Min.is
    (singles_merged Min g.T.Native.kind g.T.Native.number _ _ _ c.merge_each-in-Min.ensures.cells)

pub returns-in-Sum-clause-elements : goal.returns-in-Sum-clause-elements
returns-in-Sum-clause-elements g c = rw c.in-Sum.is
    (singles_merged Sum g.T.Native.kind g.T.Native.number _ _ _ c.merge_each-in-Sum.ensures.cells)

pub returns-in-Prod-clause-elements : goal.returns-in-Prod-clause-elements
returns-in-Prod-clause-elements g c = rw c.in-Prod.is
    (singles_merged Prod g.T.Native.kind g.T.Native.number _ _ _ c.merge_each-in-Prod.ensures.cells)

pub returns-in-Land-clause-elements : goal.returns-in-Land-clause-elements
returns-in-Land-clause-elements g c = rw c.in-Land.is
    (singles_merged Land g.T.Native.kind g.T.Native.number _ _ _ c.merge_each-in-Land.ensures.cells)

pub returns-in-Lor-clause-elements : goal.returns-in-Lor-clause-elements
returns-in-Lor-clause-elements g c = rw c.in-Lor.is
    (singles_merged Lor g.T.Native.kind g.T.Native.number _ _ _ c.merge_each-in-Lor.ensures.cells)

pub returns-in-Lxor-clause-elements : goal.returns-in-Lxor-clause-elements
returns-in-Lxor-clause-elements g c = rw c.in-Lxor.is
    (singles_merged Lxor g.T.Native.kind g.T.Native.number _ _ _ c.merge_each-in-Lxor.ensures.cells)

pub returns-in-Band-clause-elements : goal.returns-in-Band-clause-elements
returns-in-Band-clause-elements g c = rw c.in-Band.is
    (singles_merged Band g.T.Native.kind g.T.Native.number _ _ _ c.merge_each-in-Band.ensures.cells)

pub returns-in-Bor-clause-elements : goal.returns-in-Bor-clause-elements
returns-in-Bor-clause-elements g c = rw c.in-Bor.is
    (singles_merged Bor g.T.Native.kind g.T.Native.number _ _ _ c.merge_each-in-Bor.ensures.cells)

pub returns-in-Bxor-clause-elements : goal.returns-in-Bxor-clause-elements
returns-in-Bxor-clause-elements g c = rw c.in-Bxor.is
    (singles_merged Bxor g.T.Native.kind g.T.Native.number _ _ _ c.merge_each-in-Bxor.ensures.cells)
