use Rattle.std.proofs.Common.{◌∙◌}
use Rattle.std.proofs.lemmas.Int.{to_z-of_z}
use Rattle.std.specs.Int.{w64}
use Rattle.mpi_elems.proofs.BuilderLemmas.{singles_pushed}
use Rattle.mpi_elems.proofs.builder.push_small_single.Goals as goal

pub returns-in-Some-clause-numbers : goal.returns-in-Some-clause-numbers
returns-in-Some-clause-numbers g c =
    singles_pushed g.T.Native.number _ _ _ _ c.push_reserved.ensures.items
    (c.in-Some.ensures.some ∙ to_z-of_z w64 c.args.number c.ranges.number)
