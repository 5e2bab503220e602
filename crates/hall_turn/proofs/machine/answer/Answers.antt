use Rattle.std.proofs.Common.{sym, subst, ◌∙◌, ◌∷◌}
use Rattle.wall_policy.specs.Policy.{ChineseWall}
use Rattle.run_model.specs.Runs.{entry}
use Rattle.run_model.specs.Replies.{Legal}
use Rattle.run_model.specs.Known.{IsKnownReply}
use Rattle.hall_turn.proofs.machine.answer.Goals as goal

pub returns : goal.returns
returns c = λ wall run legal stands.
    let reply = c.apply.result in
    let same = c.apply.ensures.policy ∙ stands.0 in
    let after = c.apply.ensures.runs run
    (subst (λ (w : ChineseWall). Legal w run) (sym stands.0) legal) stands.1 in (
      subst (λ (w : ChineseWall). Legal w (entry c.args.call reply ∷ run)) same after.0,
      (same, after.1),
      subst (λ (w : ChineseWall). IsKnownReply w reply) same c.apply.ensures.named,
    )
