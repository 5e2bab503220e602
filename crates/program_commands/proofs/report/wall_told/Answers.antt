use Rattle.hall_script.specs.Devices.{used}
use Rattle.program_commands.specs.Earlier.{earlier_books}
use Rattle.program_commands.proofs.ReportLemmas.{after_reading, none_after_reading}
use Rattle.program_commands.proofs.report.wall_told.Goals as goal

pub returns-clause-policy : goal.returns-clause-policy
returns-clause-policy g c =
    after_reading _ _ c.in-Ok.first c.policy_after.result c.in-Ok.ensures.policy
    c.policy_after.ensures.after

pub returns-clause-ending : goal.returns-clause-ending
returns-clause-ending g c =
    none_after_reading c.args.policy.path.now (g.P.Explains.cause c.read_wall.new.source)
    (used g.P.Source.failures g.P.Source.remaining c.args.policy.device.now c.read_wall.new.source)
    g.D.Explains.cause
    (earlier_books g.D.Source.failures g.D.Source.remaining c.args.earlier.items)
    c.in-Ok.first c.policy_after.result c.in-Ok.ensures.policy c.policy_after.ensures.ending
