use Rattle.std.proofs.Common.{[], ◌∷◌, codes}
use Rattle.report_text.specs.Words.{numbered}
use Rattle.report_text.proofs.ReportTextLemmas.{ok_then}
use Rattle.report_page.specs.Cells.{table_head}
use Rattle.report_page.specs.Tables.{comm_rows}
use Rattle.report_page.proofs.PieceLemmas.{◌&◌, all_written}
use Rattle.report_page.proofs.members.put_comms_of.Goals as goal

pub returns : goal.returns
returns c =
    let rows = numbered (comm_rows c.args.policy.now) 0 c.args.post_state.now.comms in
    ok_then c.put_table_end.result _ _
    (λ ended. all_written c.args.text.now.items
    (table_head (codes "Who is in which communicator")
    (codes "<th>Communicator<th>Rank<th>Process"))
    c.put_table_head.new.text.items
    ((rows, c.put_comms.new.text.items)
    ∷ (codes "</table></div>\n", c.put_table_end.new.text.items) ∷ [])
    c.in_ok-put_table_head.ensures
    (c.in_ok-put_comms.ensures & ended & tt))
    c.put_table_end.ensures
