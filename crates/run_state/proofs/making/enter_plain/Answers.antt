use Rattle.std.proofs.Common.{◌∙◌, ◌+◌, ◌++◌, length, ap, arith, None, length-append, drop}
use Rattle.run_state.specs.Laid.{laid}
use Rattle.run_state.proofs.MakingLemmas.{entered_more, entered_last}
use Rattle.run_state.proofs.making.enter_plain.Goals as goal

pub loop-comm-preserved : goal.loop-comm-preserved
loop-comm-preserved c =
    let i = c.loop-comm.invariant in
    let push = c.push_reserved.ensures in
    let long = ap length push.items ∙ length-append c.loop-comm.shapes.items _ in
    let size = c.size-size.ensures.value ∙ ap length c.group.ensures in
    let before = i.count in
    let test = c.loop-comm-test.true in
    let end = c.len-end.ensures.value in
    record {
      count = omega arith;
      all = ap (λ xs. xs ++ laid None (drop (c.loop-comm.comm + 1) c.args.table.now)) push.items
          ∙ entered_more None c.args.table.now c.loop-comm.comm c.loop-comm.shapes.items _ _
          (omega arith) size i.all;
      room = (let kept = push.capacity in let room = i.room in omega arith);
    }

pub returns : goal.returns
returns c =
    let test = c.loop-comm-test.false in
    let end = c.len-end.ensures.value in
    entered_last None c.args.table.now c.loop-comm.comm c.loop-comm.shapes.items _ (omega arith)
    c.loop-comm.invariant.all
