use Rattle.std.proofs.Common.{◌++◌, codes}
use Rattle.std.specs.Fmt.{decimal}
use Rattle.program_commands.specs.ChainLines.{run_text}
use Rattle.program_commands.proofs.KnownLemmas.{both_written, first_broke, second_broke}
use Rattle.program_commands.proofs.chain_line.write_broken.Goals as goal

pub returns-in-Ok-write_why-clause-written : goal.returns-in-Ok-write_why-clause-written
returns-in-Ok-write_why-clause-written g c =
    both_written g.W.Sink.failures g.W.Sink.contents c.args.sink.now c.write_two.new.sink
    c.write_why.new.sink (codes "chain: run " ++ decimal c.args.broken.now.number)
    (run_text c.args.broken.now.after c.args.broken.now.fault)
    (rw (c.as_bytes.ensures.value, c.format-digits.ensures.text) at c.in-Ok.ensures.written)
    c.in-Ok-write_why.ensures.written

pub returns-in-Err-write_why-clause-broken : goal.returns-in-Err-write_why-clause-broken
returns-in-Err-write_why-clause-broken g c =
    second_broke g.W.Sink.failures g.W.Sink.contents c.args.sink.now c.write_two.new.sink
    c.write_why.new.sink (codes "chain: run " ++ decimal c.args.broken.now.number)
    (run_text c.args.broken.now.after c.args.broken.now.fault)
    (rw (c.as_bytes.ensures.value, c.format-digits.ensures.text) at c.in-Ok.ensures.written)
    c.in-Err-write_why.ensures.broken

pub returns-in-Err-clause-broken : goal.returns-in-Err-clause-broken
returns-in-Err-clause-broken g c =
    first_broke g.W.Sink.failures g.W.Sink.contents c.args.sink.now c.write_two.new.sink
    (codes "chain: run " ++ decimal c.args.broken.now.number)
    (run_text c.args.broken.now.after c.args.broken.now.fault)
    (rw (c.as_bytes.ensures.value, c.format-digits.ensures.text) at c.in-Err.ensures.broken)
