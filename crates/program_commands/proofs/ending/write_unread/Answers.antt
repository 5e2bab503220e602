use Rattle.std.proofs.Common.{◌++◌, codes}
use Rattle.program_commands.specs.Endings.{why_text}
use Rattle.program_commands.proofs.KnownLemmas.{both_written, first_broke, second_broke}
use Rattle.program_commands.proofs.ending.write_unread.Goals as goal

pub returns-in-Ok-write_why-clause-written : goal.returns-in-Ok-write_why-clause-written
returns-in-Ok-write_why-clause-written g c =
    both_written g.W.Sink.failures g.W.Sink.contents c.args.sink.now c.write_two.new.sink
    c.write_why.new.sink (codes "cannot read " ++ c.args.path.now) (why_text c.args.why)
    (rw c.as_bytes.ensures.value at c.in-Ok.ensures.written)
    c.in-Ok-write_why.ensures.written

pub returns-in-Err-write_why-clause-broken : goal.returns-in-Err-write_why-clause-broken
returns-in-Err-write_why-clause-broken g c =
    second_broke g.W.Sink.failures g.W.Sink.contents c.args.sink.now c.write_two.new.sink
    c.write_why.new.sink (codes "cannot read " ++ c.args.path.now) (why_text c.args.why)
    (rw c.as_bytes.ensures.value at c.in-Ok.ensures.written)
    c.in-Err-write_why.ensures.broken

pub returns-in-Err-clause-broken : goal.returns-in-Err-clause-broken
returns-in-Err-clause-broken g c =
    first_broke g.W.Sink.failures g.W.Sink.contents c.args.sink.now c.write_two.new.sink
    (codes "cannot read " ++ c.args.path.now) (why_text c.args.why)
    (rw c.as_bytes.ensures.value at c.in-Err.ensures.broken)
