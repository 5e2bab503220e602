use Rattle.std.proofs.Common.{◌∙◌, ap, sym, rules, arith, FitsSigned, w32, Some}
use Rattle.std.proofs.lemmas.Int.{to_z-of_z}
use Rattle.std.specs.Int.{w128}
use Rattle.mpi_elems.specs.Numbers.{is_number_of}
use Rattle.mpi_elems.proofs.ReadingLemmas.{even_number, odd_number, length-numbers_of-pairs}
use Rattle.mpi_elems.proofs.reading.pair_number_at.Goals as goal

pub index-requires : goal.index-requires
index-requires c = omega (arith, length-numbers_of-pairs c.args.cells.now.items)

pub returns-then-i-eq0-clause-same : goal.returns-then-i-eq0-clause-same
returns-then-i-eq0-clause-same c =
    let value : FitsSigned w32 c.index.result.now.0 = search rules in
    let wide : FitsSigned w128 c.to_number.result = search rules in
    even_number _ _ c.index.result.now c.requires c.if-i-eq0.true c.index.ensures
    ∙ sym (ap Some (to_z-of_z w128 _ wide ∙ c.to_number.ensures.same ∙ to_z-of_z w32 _ value))

pub returns-then-i-eq0-clause-within : goal.returns-then-i-eq0-clause-within
unfolding is_number_of
returns-then-i-eq0-clause-within c =
    let wide : FitsSigned w128 c.to_number.result = search rules in
    rw (to_z-of_z w128 _ wide) c.to_number.ensures.within

pub returns-else-i-eq0-clause-same : goal.returns-else-i-eq0-clause-same
returns-else-i-eq0-clause-same c =
    let value : FitsSigned w32 c.index.result.now.1 = search rules in
    let wide : FitsSigned w128 c.to_number-else-i-eq0.result = search rules in
    odd_number _ _ c.index.result.now c.requires c.if-i-eq0.false c.index.ensures
    ∙ sym (ap Some
    (to_z-of_z w128 _ wide ∙ c.to_number-else-i-eq0.ensures.same ∙ to_z-of_z w32 _ value))

pub returns-else-i-eq0-clause-within : goal.returns-else-i-eq0-clause-within
unfolding is_number_of
returns-else-i-eq0-clause-within c =
    let wide : FitsSigned w128 c.to_number-else-i-eq0.result = search rules in
    rw (to_z-of_z w128 _ wide) c.to_number-else-i-eq0.ensures.within
