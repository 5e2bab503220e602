use Rattle.std.proofs.Common.{length, ◌-◌, arith, sym}
use Rattle.std.proofs.lemmas.List.{length-take, append-nil}
use Rattle.mpi_elems.proofs.LoopLemmas.{merges_written}
use Rattle.mpi_elems.proofs.operation.merge_each.Goals as goal

pub returns-then-common-seconds-clause-cells : goal.returns-then-common-seconds-clause-cells
returns-then-common-seconds-clause-cells g c =
    let size = length-take c.min-common.result c.args.seconds.now in
    merges_written g.O.Operation.gives c.args.firsts.now.items _ c.args.seconds.now
    c.combine_each.new.firsts _ c.min-common.result _ c.args.firsts.now.len
    (length c.args.seconds.now - c.min-common.result)
    (omega arith) (omega arith) (omega arith) (omega arith) c.deref_mut.ensures.value (omega arith)
    c.combine_each.ensures.combined c.combine_each.ensures.rest c.append.ensures.items

pub returns-else-common-seconds-clause-cells : goal.returns-else-common-seconds-clause-cells
returns-else-common-seconds-clause-cells g c =
    let size = length-take c.min-common.result c.args.seconds.now in
    merges_written g.O.Operation.gives c.args.firsts.now.items _ c.args.seconds.now
    c.combine_each.new.firsts _ c.min-common.result _ c.args.firsts.now.len 0
    (omega arith) (omega arith) (omega arith) (omega arith) c.deref_mut.ensures.value (omega arith)
    c.combine_each.ensures.combined c.combine_each.ensures.rest (sym (append-nil _))
