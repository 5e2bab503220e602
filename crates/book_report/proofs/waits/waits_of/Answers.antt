use Rattle.std.proofs.Common.{◌≡◌, length, subst, arith}
use Rattle.book_report.specs.Turns.{AreWaitsBelow}
use Rattle.book_report.proofs.WaitLemmas.{waits_none}
use Rattle.book_report.proofs.waits.waits_of.Goals as goal

pub loop-comm-init : goal.loop-comm-init
loop-comm-init c = waits_none c.args.end.now.policy.now c.args.end.now.book.now.list _
    c.new-waits.ensures.items

pub returns : goal.returns
returns c =
    let many = c.len-comm-end.ensures.value in
    let high = c.loop-comm-test.false in
    let same : c.loop-comm.comm ≡ length c.args.end.now.post_state.now.comms = omega arith in
    subst (λ n. AreWaitsBelow c.args.end.now n c.loop-comm.waits.items) same c.loop-comm.invariant
