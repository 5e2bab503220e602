use Rattle.std.proofs.Common.{◌≡◌, map, take, length, vec_len, vec_capacity}
use Rattle.mpi_elems.proofs.reading.native_numbers.Given as goal

abbrev pub invariant-loop-number : goal.invariant-loop-number
invariant-loop-number g l = record {
  made : map g.T.Native.number l.made.items ≡ take l.number-index l.numbers;
  count : vec_len l.made ≡ l.number-index;
  room : vec_capacity l.made ≡ length l.numbers;
}
