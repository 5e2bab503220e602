use Rattle.book_stream.proofs.SourceLemmas.{Going}
use Rattle.book_stream.proofs.stream.read_whole.Given as goal

abbrev pub invariant-loop-reads : goal.invariant-loop-reads
invariant-loop-reads g l = Going g.S.Source.failures g.S.Source.remaining l.policy l.fn.source
    l.source l.reader (g.T.Along.has_taken l.along) l.reads
