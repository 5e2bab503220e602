use Rattle.std.proofs.Common.{◌≡◌, length}
use Rattle.wall_labels.proofs.KnownLemmas.{Wrote}
use Rattle.wall_labels.proofs.device.write_all.Given as goal

abbrev pub invariant-loop-rest : goal.invariant-loop-rest
invariant-loop-rest g l = record {
  count : g.W.Sink.failures l.sink ≡ g.W.Sink.failures l.fn.sink;
  wrote : Wrote (g.W.Sink.contents l.fn.sink) (g.W.Sink.contents l.sink) l.bytes l.rest;
}

abbrev pub decreases-loop-rest : goal.decreases-loop-rest
decreases-loop-rest g l = length l.rest
