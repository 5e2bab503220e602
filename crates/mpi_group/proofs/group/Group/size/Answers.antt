use Rattle.std.proofs.Common.{arith}
use Rattle.wall_labels.specs.declared.ids.TheConstants.{PROCESS_LIMIT}
use Rattle.mpi_group.proofs.GroupLemmas.{length_distinct}
use Rattle.mpi_group.proofs.group.Group.size.Goals as goal

pub overflow_cast-result : goal.overflow_cast-result
overflow_cast-result c =
    let few = length_distinct c.self.inside.members.items PROCESS_LIMIT c.self.invariant.0.distinct
    c.self.invariant.0.below in
    omega arith

pub returns-clause-limit : goal.returns-clause-limit
returns-clause-limit c =
    let few = length_distinct c.self.inside.members.items PROCESS_LIMIT c.self.invariant.0.distinct
    c.self.invariant.0.below in
    omega arith
