use Rattle.std.proofs.Common.{◌+◌}
use Rattle.mpi_elems.proofs.LoopLemmas.{merged-slice}
use Rattle.mpi_elems.proofs.operation.merge_numbers.Goals as goal

pub returns-clause-elements : goal.returns-clause-elements
returns-clause-elements g c =
    merged-slice _ _ c.merge_number_slice.new.firsts.items c.args.firsts.now.items _
    c.args.from.now.items c.args.start (c.args.start + c.args.len) c.deref.ensures.value
    c.merge_number_slice.ensures.elements
