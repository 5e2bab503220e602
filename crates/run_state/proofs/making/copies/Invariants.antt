use Rattle.std.proofs.Common.{◌≡◌, replicate}
use Rattle.run_state.proofs.making.copies.Given as goal

abbrev pub invariant-loop : goal.invariant-loop
invariant-loop l = l.grids.items ≡ replicate l.counter l.grid
