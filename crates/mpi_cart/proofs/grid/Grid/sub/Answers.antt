use Rattle.std.proofs.Common.{◌<◌, length, arith, rules}
use Rattle.std.specs.List.{items_where_true}
use Rattle.mpi_cart.proofs.KeptLemmas.{kept_is_grid, kept_alike}
use Rattle.mpi_cart.proofs.grid.Grid.sub.Goals as goal

pub laid-requires : goal.laid-requires
laid-requires c = rw (
  c.in_ok-dims.ensures.made,
  c.in_ok-periods.ensures.made,
  c.deref.ensures.value,
  c.deref-2.ensures.value,
) (kept_is_grid _ _ _ c.self.invariant.grid)

pub returns-in_err-periods-clause-memory : goal.returns-in_err-periods-clause-memory
returns-in_err-periods-clause-memory c = λ _.
    rw (← c.self.view_is)
    (let some : 0 < length (items_where_true c.args.keep.now c.self.inside.periods.items) = simp
    (c.deref-2.ensures.value) at (c.in_err-periods.ensures.memory (search rules)) in
    let alike = kept_alike c.args.keep.now c.self.inside.periods.items c.self.inside.dims.items
    c.self.invariant.grid.paired in
    omega arith)
