use Rattle.std.proofs.Common.{sym, ◌∙◌}
use Rattle.mpi_group.specs.Groups.{is_member}
use Rattle.mpi_group.proofs.MemberLemmas.{some_kept}
use Rattle.mpi_group.proofs.group.kept.Goals as goal

pub returns-in_err-push-clause-memory : goal.returns-in_err-push-clause-memory
returns-in_err-push-clause-memory c = λ _.
    some_kept (λ p. is_member c.args.group.now p) c.args.processes.now
    c.loop-process.process-index c.process-item.result c.loop-process-test.true c.process-item.is
    (sym c.contains.ensures ∙ c.if-contains.true)
