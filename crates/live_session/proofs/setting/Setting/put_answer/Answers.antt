use Rattle.std.proofs.Common.{◌∙◌, ap, sym}
use Rattle.std.specs.Prelude.{option_map}
use Rattle.hall_turn.specs.Known.{Doorway}
use Rattle.live_session.specs.Lines.{said, bad_line}
use Rattle.live_session.specs.Sessions.{Stood, its_fault}
use Rattle.live_session.proofs.SessionLemmas.{comes_bad, put_alone}
use Rattle.live_session.proofs.setting.Setting.put_answer.Goals as goal

pub returns-in-Ok-put-clause-puts : goal.returns-in-Ok-put-clause-puts
returns-in-Ok-put-clause-puts g c =
    let wall = c.args.self.now.policy.now in
    let bad = c.in-Ok-Err.bad in
    λ bytes h. (
      its_fault bad,
      comes_bad (Stood g.M.Machine.stands g.M.Machine.booked) c.args.self.now.most wall
          c.args.pass.now (said wall.dataset_names bytes) bad
          (option_map g.T.Receipt.covers c.args.caller.now.receipt) c.args.caller.now.calls
          (c.args.self.now.its ∙ ap (λ (d : Doorway). d.policy) (sym c.requires.door))
          c.requires.legal (c.in-Ok-Err.ensures.reads bytes h ∙ c.in-Ok-Err.field-0-is),
      put_alone c.args.lines.now.text.items c.put.new.text.items c.bad_line.result.now
          c.in-Ok-put.ensures.ok c.requires.none (bad_line bad) c.bad_line.ensures,
    )
