use Rattle.std.proofs.Common.{◌+◌}
use Rattle.mpi_elems.proofs.LoopLemmas.{map-appended}
use Rattle.mpi_elems.proofs.reading.append_pairs.Goals as goal

pub returns-clause-elements : goal.returns-clause-elements
returns-clause-elements c =
    map-appended _ c.append.new.to.items c.args.to.now.items _ c.args.from.now.items c.args.start
    (c.args.start + c.args.len) c.deref.ensures.value c.append.ensures.items
