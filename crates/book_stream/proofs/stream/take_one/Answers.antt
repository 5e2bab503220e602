use Rattle.std.proofs.Common.{subst}
use Rattle.book_stream.specs.Readings.{IsBadBehind}
use Rattle.book_stream.proofs.SourceLemmas.{among}
use Rattle.book_stream.proofs.stream.take_one.Goals as goal

pub returns-in_default : goal.returns-in_default
returns-in_default c = λ lines line more stands.
    among c.args.policy.now lines line c.args.next.now more c.long_line.result
    (c.long_line.ensures line (c.in_default.ensures line stands.holds) lines stands.read)

pub returns-in-Err : goal.returns-in-Err
returns-in-Err c = λ lines line more stands.
    among c.args.policy.now lines line c.args.next.now more c.in-Err.fault
    (subst (λ l. IsBadBehind c.args.policy.now lines l c.in-Err.fault)
    (c.in-Some.ensures line stands.holds) (c.in-Err.ensures.fault lines stands.read))
