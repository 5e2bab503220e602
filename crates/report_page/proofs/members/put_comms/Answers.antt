use Rattle.std.proofs.Common.{ℕ, List, ◌++◌, ap, ◌∙◌, arith}
use Rattle.report_text.proofs.ReportTextLemmas.{one_at, writes_more}
use Rattle.report_page.specs.Tables.{member_rows, comm_rows}
use Rattle.report_page.proofs.members.put_comms.Goals as goal

pub loop-comm-preserved : goal.loop-comm-preserved
loop-comm-preserved c =
    let wall = c.args.policy.now in
    let comms = c.args.post_state.now.comms in
    let many = c.len-comm-end.ensures.value in
    let low = c.loop-comm-test.true in
    let here = one_at comms c.loop-comm.comm (omega arith) in
    writes_more (comm_rows wall) comms c.loop-comm.comm here.0 c.loop-comm.text.items
    c.put_members.new.text.items _ here.1
    (c.in_ok-put_members.ensures
    ∙ ap (λ (ms : List ℕ). c.loop-comm.text.items ++ member_rows wall c.loop-comm.comm ms)
    (c.group.ensures here.0 here.1))
    c.loop-comm.invariant
