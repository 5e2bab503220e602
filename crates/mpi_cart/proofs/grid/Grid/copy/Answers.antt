use Rattle.std.proofs.Common.{◌<◌, length, ap, arith, rules}
use Rattle.mpi_cart.proofs.StrideLemmas.{length-strides}
use Rattle.mpi_cart.proofs.grid.Grid.copy.Goals as goal

pub returns-in_err-copied-3-clause-memory : goal.returns-in_err-copied-3-clause-memory
returns-in_err-copied-3-clause-memory c = λ _.
    rw (← c.self.view_is)
    (let some : 0 < length c.self.inside.strides.items =
    simp (c.deref-3.ensures.value) at (c.in_err-copied-3.ensures.memory (search rules)) in
    let alike = ap length c.self.invariant.strides_are in
    let long = length-strides c.self.inside.dims.items in
    omega arith)
