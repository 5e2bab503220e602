use Rattle.std.proofs.Common.{subst}
use Rattle.run_model.specs.declared.call.Act.TheVariants.{Post as ToPost}
use Rattle.hall_turn.specs.declared.answer.Answer.{Answer}
use Rattle.hall_turn.specs.Answers.{Answered}
use Rattle.live_session.proofs.KeepLemmas.{keeps_posted}
use Rattle.live_session.proofs.setting.Setting.make.Goals as goal

pub returns-then-settled-clause-keeps : goal.returns-then-settled-clause-keeps
returns-then-settled-clause-keeps g c =
    let before = c.args.pass.now in
    let after = c.call_with_receipt-answer.new.pass in
    let e = c.call_with_receipt-answer.ensures in
    keeps_posted c.args.self.now.door.now.policy c.args.seat.now.requests c.posted.new.self.requests
    before after c.in-Post.posting c.in-Reply.reply e.same e.legal
    (subst (λ (a : Answer). Answered before (ToPost c.in-Post.posting) a after) c.in-Reply.is
    e.answered) c.requires.keeps c.posted.ensures

pub returns-else-settled-clause-keeps : goal.returns-else-settled-clause-keeps
returns-else-settled-clause-keeps g c =
    let before = c.args.pass.now in
    let after = c.call_with_receipt-answer.new.pass in
    let e = c.call_with_receipt-answer.ensures in
    keeps_posted c.args.self.now.door.now.policy c.args.seat.now.requests c.posted.new.self.requests
    before after c.in-Post.posting c.in-Reply.reply e.same e.legal
    (subst (λ (a : Answer). Answered before (ToPost c.in-Post.posting) a after) c.in-Reply.is
    e.answered) c.requires.keeps c.posted.ensures
