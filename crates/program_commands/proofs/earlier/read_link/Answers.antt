use Rattle.std.proofs.Common.{sym, subst}
use Rattle.wall_policy.specs.Policy.{ChineseWall}
use Rattle.hall_script.specs.Devices.{used}
use Rattle.program_commands.specs.Auditing.{IsNoBook}
use Rattle.program_commands.specs.Earlier.{IsNoLink}
use Rattle.program_commands.proofs.EarlierLemmas.{no_link}
use Rattle.program_commands.proofs.earlier.read_link.Goals as goal

pub returns-in-Err-clause-ending : goal.returns-in-Err-clause-ending
returns-in-Err-clause-ending g c =
    let device = used g.D.Source.failures g.D.Source.remaining c.args.device.now
    c.read_entries.new.source in
    subst (IsNoLink c.args.chain device c.args.path.now) (sym c.earlier_ending.ensures)
    (no_link c.args.chain device c.args.path c.in-Err.ending
    (subst (λ (w : ChineseWall). IsNoBook w device c.in-Err.ending) c.wall.ensures
    c.in-Err.ensures.ending))
