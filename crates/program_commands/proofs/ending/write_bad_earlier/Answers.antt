use Rattle.std.proofs.Common.{◌++◌, codes}
use Rattle.program_commands.specs.Endings.{earlier_fault_text}
use Rattle.program_commands.proofs.KnownLemmas.{first_broke, second_broke}
use Rattle.program_commands.proofs.ending.write_bad_earlier.Goals as goal

pub returns-in-Err-write_earlier_fault-clause-broken
    : goal.returns-in-Err-write_earlier_fault-clause-broken
returns-in-Err-write_earlier_fault-clause-broken g c =
    second_broke g.W.Sink.failures g.W.Sink.contents c.args.sink.now c.write_two.new.sink
    c.write_earlier_fault.new.sink
    (codes "after " ++ c.args.path.now) (earlier_fault_text c.args.fault)
    (rw c.as_bytes.ensures.value at c.in-Ok.ensures.written)
    c.in-Err-write_earlier_fault.ensures.broken

pub returns-in-Err-clause-broken : goal.returns-in-Err-clause-broken
returns-in-Err-clause-broken g c =
    first_broke g.W.Sink.failures g.W.Sink.contents c.args.sink.now c.write_two.new.sink
    (codes "after " ++ c.args.path.now) (earlier_fault_text c.args.fault)
    (rw c.as_bytes.ensures.value at c.in-Err.ensures.broken)
