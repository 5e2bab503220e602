use Rattle.std.proofs.Common.{arith, rules, sym, ap, ◌∙◌, FitsSigned, Some, ◌<◌, length}
use Rattle.std.specs.Int.{w128}
use Rattle.std.proofs.lemmas.Int.{to_z-of_z}
use Rattle.mpi_elems.proofs.ElementLemmas.{length-numbers_of-singles}
use Rattle.mpi_elems.proofs.ReadingLemmas.{single_number}
use Rattle.mpi_elems.proofs.reading.number_at.Goals as goal

pub index-requires : goal.index-requires
index-requires g c =
    omega (arith, length-numbers_of-singles g.T.Native.number c.args.cells.now.items)

pub returns-clause-same : goal.returns-clause-same
returns-clause-same g c =
    let wide : FitsSigned w128 c.to_number.result = search rules in
    let below : c.args.i < length c.args.cells.now.items = omega
    (arith, length-numbers_of-singles g.T.Native.number c.args.cells.now.items) in
    single_number g.T.Native.number _ c.args.i c.index.result.now below
    ∙ ap Some (ap g.T.Native.number (sym c.index.ensures) ∙ sym c.to_number.ensures.same
    ∙ sym (to_z-of_z w128 _ wide))
