use Rattle.std.proofs.Common.{ℕ, List, ◌++◌, ap, ◌∙◌, append_assoc, codes}
use Rattle.report_text.specs.Words.{numbered}
use Rattle.report_text.specs.Members.{comm_lines}
use Rattle.report_text.proofs.WordLemmas.{ok_then}
use Rattle.report_text.proofs.members.put_comms_of.Goals as goal

pub returns : goal.returns
returns c =
    let lines = numbered (comm_lines c.args.policy.now) 0 c.args.post_state.now.comms in
    ok_then c.put_comms.result _ _
    (λ written. written ∙ ap (λ (t : List ℕ). t ++ lines) c.in_ok-put.ensures.ok
    ∙ append_assoc c.args.text.now.items (codes "\nwho is in which communicator:\n") lines)
    c.put_comms.ensures
