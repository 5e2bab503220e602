use Rattle.std.proofs.Common.{◌≡◌, take, drop}
use Rattle.mpi_elems.specs.Loops.{Combines}
use Rattle.mpi_elems.proofs.operation.combine_each.Given as goal

abbrev pub invariant-loop-i : goal.invariant-loop-i
invariant-loop-i g l = record {
  done : Combines g.O.Operation.gives (take l.i l.initial.firsts) (take l.i l.seconds)
      (take l.i l.firsts);
  rest : drop l.i l.firsts ≡ drop l.i l.initial.firsts;
}
