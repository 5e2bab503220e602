use Rattle.std.proofs.Common.{◌++◌, codes}
use Rattle.std.specs.Fmt.{decimal}
use Rattle.program_commands.proofs.KnownLemmas.{both_written, first_broke, second_broke}
use Rattle.program_commands.proofs.chain.write_counts.Goals as goal

pub returns-in-Err-write_all-clause-broken : goal.returns-in-Err-write_all-clause-broken
returns-in-Err-write_all-clause-broken g c =
    second_broke g.O.Sink.failures g.O.Sink.contents c.args.out.now c.write_counted.new.sink
    c.write_all.new.sink (codes "sound " ++ (decimal c.args.runs ++ codes " runs, "))
    (decimal c.args.entries) c.in-Ok.ensures.written (
      c.in-Err-write_all.ensures.failed,
      rw (c.as_bytes.ensures.value, c.format-digits.ensures.text)
          at c.in-Err-write_all.ensures.prefix,
    )

pub returns-in-Err-clause-broken : goal.returns-in-Err-clause-broken
returns-in-Err-clause-broken g c =
    first_broke g.O.Sink.failures g.O.Sink.contents c.args.out.now c.write_counted.new.sink
    (codes "sound " ++ (decimal c.args.runs ++ codes " runs, ")) (decimal c.args.entries)
    c.in-Err.ensures.broken
