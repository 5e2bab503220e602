use Rattle.std.proofs.Common.{◌≡◌, ◌*◌, ◌/◌, take, length, vec_len, vec_capacity}
use Rattle.mpi_elems.specs.Elements.{numbers_of}
use Rattle.mpi_elems.specs.Loops.{pairs}
use Rattle.mpi_elems.proofs.reading.native_pairs.Given as goal

abbrev pub invariant-loop-i : goal.invariant-loop-i
invariant-loop-i l = record {
  made : numbers_of (pairs l.made.items) ≡ take (2 * l.i) l.numbers;
  count : vec_len l.made ≡ l.i;
  room : vec_capacity l.made ≡ length l.numbers / 2;
}
