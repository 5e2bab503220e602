use Rattle.std.proofs.Common.{arith}
use Rattle.mpi_elems.proofs.ReadingLemmas.{length-numbers_of-pairs}
use Rattle.mpi_elems.proofs.reading.count_pairs.Goals as goal

pub returns : goal.returns
returns c = omega (arith, length-numbers_of-pairs c.args.cells.now.items, c.len.ensures)
