use Rattle.std.proofs.Common.{sym, subst}
use Rattle.std.specs.Prelude.{option_map}
use Rattle.hall_script.specs.declared.ask.Ask.{Ask}
use Rattle.live_session.specs.Sessions.{Stood}
use Rattle.live_session.specs.Steps.{CameTo, counting}
use Rattle.live_session.proofs.setting.Setting.act_on.Goals as goal

pub returns-in-Act-clause-came : goal.returns-in-Act-clause-came
returns-in-Act-clause-came g c =
    subst (λ (a : Ask). CameTo (Stood g.M.Machine.stands g.M.Machine.booked) c.args.self.now.most
    c.args.pass.now a c.act.result (option_map g.T.Receipt.covers c.args.caller.now.receipt)
    (option_map g.T.Receipt.covers c.act.new.caller.receipt)
    (counting c.args.caller.now.calls c.act.new.caller.calls) c.act.new.pass) (sym c.in-Act.is)
    c.act.ensures.came

pub returns-in-Wait-clause-came : goal.returns-in-Wait-clause-came
returns-in-Wait-clause-came g c =
    subst (λ (a : Ask). CameTo (Stood g.M.Machine.stands g.M.Machine.booked) c.args.self.now.most
    c.args.pass.now a c.wait_for.result (option_map g.T.Receipt.covers c.args.caller.now.receipt)
    (option_map g.T.Receipt.covers c.wait_for.new.caller.receipt)
    (counting c.args.caller.now.calls c.wait_for.new.caller.calls) c.wait_for.new.pass)
    (sym c.in-Wait.is) c.wait_for.ensures.came
