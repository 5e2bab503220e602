use Rattle.std.proofs.Common.{◌++◌}
use Rattle.program_commands.proofs.KnownLemmas.{both_written, first_broke, second_broke}
use Rattle.program_commands.proofs.ending.write_three.Goals as goal

pub returns-in-Ok-write_two-clause-written : goal.returns-in-Ok-write_two-clause-written
returns-in-Ok-write_two-clause-written g c =
    both_written g.W.Sink.failures g.W.Sink.contents c.args.sink.now c.write_all.new.sink
    c.write_two.new.sink c.args.first.now (c.args.second.now ++ c.args.third.now)
    (c.in-Ok.ensures.went, c.in-Ok.ensures.written) c.in-Ok-write_two.ensures.written

pub returns-in-Err-write_two-clause-broken : goal.returns-in-Err-write_two-clause-broken
returns-in-Err-write_two-clause-broken g c =
    second_broke g.W.Sink.failures g.W.Sink.contents c.args.sink.now c.write_all.new.sink
    c.write_two.new.sink c.args.first.now (c.args.second.now ++ c.args.third.now)
    (c.in-Ok.ensures.went, c.in-Ok.ensures.written) c.in-Err-write_two.ensures.broken

pub returns-in-Err-clause-broken : goal.returns-in-Err-clause-broken
returns-in-Err-clause-broken g c =
    first_broke g.W.Sink.failures g.W.Sink.contents c.args.sink.now c.write_all.new.sink
    c.args.first.now (c.args.second.now ++ c.args.third.now)
    (c.in-Err.ensures.failed, c.in-Err.ensures.prefix)
