use Rattle.std.proofs.Common.{ap, ◌∙◌}
use Rattle.std.specs.Prelude.{is_some}
use Rattle.mpi_group.proofs.GroupLemmas.{is_some-rank_in}
use Rattle.mpi_group.proofs.group.Group.contains.Goals as goal

pub returns : goal.returns
returns c =
    c.is_some.ensures
    ∙ ap is_some c.rank_of.ensures
    ∙ is_some-rank_in c.args.self.now c.args.process
