use Rattle.std.proofs.Common.{rules, get_or, pos, arith, FitsSigned}
use Rattle.std.proofs.lemmas.Int.{to_z-of_z}
use Rattle.std.specs.Int.{w128}
use Rattle.mpi_elems.specs.Numbers.{is_number_of}
use Rattle.mpi_elems.proofs.ReadingLemmas.{passes_at, singles_read}
use Rattle.mpi_elems.proofs.reading.native_numbers.Goals as goal

pub native-requires : goal.native-requires
native-requires g c =
    let fits : FitsSigned w128 (get_or c.args.numbers.now c.loop-number.number-index (pos 0)) =
    search rules in
    rw (to_z-of_z w128 _ fits) (passes_at (is_number_of g.T.Native.kind) c.args.numbers.now
    c.loop-number.number-index (pos 0) c.requires (omega arith))

pub returns-clause-elements : goal.returns-clause-elements
returns-clause-elements g c = singles_read g.T.Native.number _ c.args.numbers.now
    c.loop-number.number-index (omega arith) c.loop-number.invariant.made
