use Rattle.std.proofs.Common.{◌≡◌, false, get_or, not, ap}
use Rattle.mpi_group.proofs.MemberLemmas.{some_kept}
use Rattle.mpi_group.proofs.group.unmarked.Goals as goal

pub returns-in_err-push-clause-memory : goal.returns-in_err-push-clause-memory
returns-in_err-push-clause-memory c = λ _.
    let i = c.loop-member.member-index in
    let member : c.number.result ≡ get_or c.args.members.now i c.number.result =
    rw (← c.number.ensures.value) at c.member-item.is in
    some_kept (λ p. not (get_or c.args.marks.now p false)) c.args.members.now i c.number.result
    c.loop-member-test.true member (ap not c.if-not-marks-number.true)
