use Rattle.program_commands.proofs.KnownLemmas.{first_broke, second_broke}
use Rattle.program_commands.proofs.ending.write_two.Goals as goal

pub returns-in-Err-write_all-clause-broken : goal.returns-in-Err-write_all-clause-broken
returns-in-Err-write_all-clause-broken g c =
    second_broke g.W.Sink.failures g.W.Sink.contents c.args.sink.now c.write_all.new.sink
    c.write_all-in-Ok.new.sink c.args.first.now c.args.second.now
    (c.in-Ok.ensures.went, c.in-Ok.ensures.written)
    (c.in-Err-write_all.ensures.failed, c.in-Err-write_all.ensures.prefix)

pub returns-in-Err-clause-broken : goal.returns-in-Err-clause-broken
returns-in-Err-clause-broken g c =
    first_broke g.W.Sink.failures g.W.Sink.contents c.args.sink.now c.write_all.new.sink
    c.args.first.now c.args.second.now
    (c.in-Err.ensures.failed, c.in-Err.ensures.prefix)
