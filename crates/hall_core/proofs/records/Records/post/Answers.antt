use Rattle.std.proofs.Common.{◌≡◌, None, sym, ap, ◌∙◌, subst}
use Rattle.std.specs.Result.{result_err}
use Rattle.run_model.specs.declared.call.Act.TheVariants.{Post as ToPost}
use Rattle.run_model.specs.Replies.{refusal}
use Rattle.hall_core.specs.Invariant.{view_in}
use Rattle.hall_core.specs.Moves.{Steps}
use Rattle.hall_core.proofs.records.Records.post.Goals as goal

pub accept-requires-clause-none : goal.accept-requires-clause-none
accept-requires-clause-none c = λ m stands.
    subst (λ p. refusal c.args.self.now.policy m p c.args.posting ≡ None)
    (sym c.in-Ok.ensures.seat.process)
    (sym (c.seat_of.ensures.first m stands) ∙ ap result_err c.in-Ok.is)

pub returns-in-Ok-clause-steps : goal.returns-in-Ok-clause-steps
returns-in-Ok-clause-steps c =
    subst (λ p. Steps (view_in c.args.self.now) (view_in c.accept.new.self) p
    (ToPost c.args.posting) c.accept.result) c.in-Ok.ensures.seat.process c.accept.ensures.steps
