use Rattle.std.proofs.Common.{FitsSigned, w32, rules}
use Rattle.std.proofs.lemmas.Int.{to_z-of_z}
use Rattle.mpi_elems.proofs.BuilderLemmas.{pair_pushed}
use Rattle.mpi_elems.proofs.builder.push_part.Goals as goal

pub returns-in-Some-clause-numbers : goal.returns-in-Some-clause-numbers
returns-in-Some-clause-numbers c =
    let value : FitsSigned w32 c.in-Some.value = search rules in
    let items = c.push_reserved.ensures.items in
    let made = rw (to_z-of_z w32 c.in-Some.value value, to_z-of_z w32 c.args.part c.ranges.part) at
    items in
    rw c.in-Some.is (pair_pushed _ _ c.in-Some.value c.args.part made)
