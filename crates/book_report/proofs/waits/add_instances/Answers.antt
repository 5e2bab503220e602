use Rattle.std.proofs.Common.{arith}
use Rattle.book_report.proofs.MeetingLemmas.{comm_done}
use Rattle.book_report.proofs.waits.add_instances.Goals as goal

pub returns : goal.returns
returns c = comm_done c.args.meeting.now c.requires.meeting c.loop-k.k c.loop-k.waits.items
    (λ i turns low. let few = c.most-k-end.ensures i turns low in omega (arith, few))
    c.loop-k.invariant
