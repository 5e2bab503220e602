use Rattle.std.proofs.Common.{◌<◌, length, rules}
use Rattle.mpi_group.proofs.RankTables.{some_entry}
use Rattle.mpi_group.proofs.group.Group.copy.Goals as goal

pub returns-in_err-copied-2-clause-memory : goal.returns-in_err-copied-2-clause-memory
returns-in_err-copied-2-clause-memory c = λ _.
    let some : 0 < length c.self.inside.ranks.items =
    simp (c.deref-2.ensures.value) at (c.in_err-copied-2.ensures.memory (search rules)) in
    rw (← c.self.view_is)
    (some_entry c.self.inside.members.items c.self.inside.ranks.items c.self.invariant.1 some)
