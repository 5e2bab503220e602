use Rattle.std.proofs.Common.{sym}
use Rattle.joint_sum.proofs.ReportLemmas.{some_report}
use Rattle.joint_sum.proofs.run.Goals as goal

pub returns-in-Ok-play_all : goal.returns-in-Ok-play_all
returns-in-Ok-play_all g c =
    some_report c.in-Ok.opened.0.policy c.args.policy.now c.in-Ok-play_all.ended.passes.items
    c.in-Ok-play_all.ended.told.items c.close.result (sym c.in-Ok.ensures.policy) c.close.ensures
