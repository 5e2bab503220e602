use Rattle.std.proofs.Common.{arith}
use Rattle.book_report.proofs.MeetingLemmas.{ranks_done}
use Rattle.book_report.proofs.waits.add_members.Goals as goal

pub returns : goal.returns
returns c =
    let many = c.size-rank-end.ensures.value in
    ranks_done c.args.begun.now.meeting c.requires.begun.meeting c.args.begun.now.k
    c.loop-rank.rank c.loop-rank.waits.items (omega arith) c.loop-rank.invariant
