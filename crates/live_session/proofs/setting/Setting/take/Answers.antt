use Rattle.std.proofs.Common.{sym, subst}
use Rattle.run_model.specs.declared.call.Act.TheVariants.{Take}
use Rattle.run_model.specs.declared.reply.Reply.{Reply}
use Rattle.run_model.specs.Runs.{said}
use Rattle.hall_turn.specs.Answers.{Enters}
use Rattle.live_session.proofs.KeepLemmas.{keeps_taken}
use Rattle.live_session.proofs.setting.Setting.take.Goals as goal

pub returns-in-Claim-clause-keeps : goal.returns-in-Claim-clause-keeps
returns-in-Claim-clause-keeps g c =
    let before = c.args.pass.now in
    let after = c.claim.new.pass in
    keeps_taken c.args.seat.now.requests c.taken.new.self.requests before after c.args.request
    c.finish-reply.result c.in-Claim.ensures.same
    (subst (λ (r : Reply). Enters before (said before.process (Take c.args.request) r) after)
    (sym c.finish-reply.ensures) c.in-Claim.ensures.answered.enters)
    c.requires.keeps c.taken.ensures
