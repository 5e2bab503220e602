use Rattle.std.proofs.Common.{Ok, ap, ◌∙◌}
use Rattle.hall_script.proofs.SplitLemmas.{member_is_call}
use Rattle.hall_script.proofs.split.push_act_of.Goals as goal

pub returns-in_err-push_act-in-Some-clause-sound : goal.returns-in_err-push_act-in-Some-clause-sound
returns-in_err-push_act-in-Some-clause-sound c = λ _. member_is_call c.args.policy.now
    c.args.line.now c.in-Some.call (c.in_ok-read_member.ensures.call ∙ ap Ok c.in-Some.is)
