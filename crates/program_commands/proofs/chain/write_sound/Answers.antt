use Rattle.program_commands.specs.Chains.{counts_text, head_text}
use Rattle.program_commands.proofs.KnownLemmas.{both_written, first_broke, second_broke}
use Rattle.program_commands.proofs.chain.write_sound.Goals as goal

pub returns-in-Err-write_head-clause-broken : goal.returns-in-Err-write_head-clause-broken
returns-in-Err-write_head-clause-broken g c =
    second_broke g.O.Sink.failures g.O.Sink.contents c.args.out.now c.write_counts.new.out
    c.write_head.new.out (counts_text c.args.runs c.args.entries) (head_text c.args.head)
    c.in-Ok.ensures.written c.in-Err-write_head.ensures.broken

pub returns-in-Err-clause-broken : goal.returns-in-Err-clause-broken
returns-in-Err-clause-broken g c =
    first_broke g.O.Sink.failures g.O.Sink.contents c.args.out.now c.write_counts.new.out
    (counts_text c.args.runs c.args.entries) (head_text c.args.head) c.in-Err.ensures.broken
