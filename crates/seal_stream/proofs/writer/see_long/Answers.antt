use Rattle.std.proofs.Common.{[], refl}
use Rattle.seal_stream.proofs.WriterLemmas.{long_among, long_fails, stops_here}
use Rattle.seal_stream.proofs.writer.see_long.Goals as goal

pub long_line-requires : goal.long_line-requires
long_line-requires c = let s = c.requires in record { reading = (s.2, s.3, s.5.judged) }

pub returns-then-writer-clause-failed : goal.returns-then-writer-clause-failed
returns-then-writer-clause-failed c = λ failures.
    let s = c.requires in
    long_fails c.args.policy.now c.args.writer.now.reading s.4 c.long_line.result failures failures
    (c.long_line.ensures s.4 (s.5.holds.long c.if-writer.true)) refl

pub returns-then-writer-clause-stops : goal.returns-then-writer-clause-stops
returns-then-writer-clause-stops c = λ before now lines kept line s.
    let wall = c.args.policy.now in
    let old = c.args.writer.now in
    stops_here wall old before now now lines kept line s old.reading old refl refl _ line [] refl
    c.long_line.result
    (long_among wall old.reading lines kept line [] c.long_line.result
    (c.long_line.ensures line (s.holds.long c.if-writer.true)) s.judged)
