use Rattle.std.proofs.Common.{arith}
use Rattle.mpi_elems.proofs.ElementLemmas.{length-numbers_of-singles}
use Rattle.mpi_elems.proofs.reading.count_singles.Goals as goal

pub returns : goal.returns
returns g c =
    omega (arith, length-numbers_of-singles g.T.Native.number c.args.cells.now.items, c.len.ensures)
