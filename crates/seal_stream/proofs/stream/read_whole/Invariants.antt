use Rattle.std.proofs.Common.{◌≡◌}
use Rattle.seal_stream.proofs.SourceLemmas.{Going}
use Rattle.seal_stream.proofs.stream.read_whole.Given as goal

-- the source gave a text in so many reads, and the writer stands in it
abbrev pub invariant-loop-reads : goal.invariant-loop-reads
invariant-loop-reads g l = record {
  went : g.W.Sink.failures l.sealed ≡ g.W.Sink.failures l.fn.sealed;
  going : Going g.B.Source.failures g.B.Source.remaining l.policy l.fn.book l.book l.writer
      (g.W.Sink.contents l.fn.sealed) (g.W.Sink.contents l.sealed) l.reads;
}
