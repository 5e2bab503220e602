use Rattle.std.proofs.Common.{ap, length, ◌∙◌, ◌∷◌}
use Rattle.run_model.specs.Runs.{entry}
use Rattle.live_book.proofs.WritingLemmas.{replies_still, settles_by, stands_still}
use Rattle.live_book.proofs.bookless.BooklessHall.apply.Goals as goal

pub returns-clause-replies : goal.returns-clause-replies
returns-clause-replies c = rw (← c.self.view_is) (replies_still c.self.inside.hall.hall
    c.apply-reply.new.self.hall c.forget.new.self.hall c.apply-reply.result
    c.apply-reply.ensures.replies c.forget.ensures.unchanged)

pub returns-clause-carries : goal.returns-clause-carries
returns-clause-carries c = rw (← c.self.view_is) (λ wall run legal stands.
    let after = c.apply-reply.ensures.carries wall run legal stands in
    let later = entry c.args.call c.apply-reply.result ∷ run in (
      after.0,
      stands_still wall c.apply-reply.new.self.hall c.forget.new.self.hall later
          c.forget.ensures.unchanged (c.forget.ensures.runs later) after.1,
      after.2,
    ))

pub returns-clause-settled : goal.returns-clause-settled
returns-clause-settled c = rw (← c.self.view_is) (λ wall run legal stands.
    settles_by wall run (entry c.args.call c.apply-reply.result)
    c.len-settled.result c.self.inside.hall.news c.apply-reply.new.self.news c.self.invariant
    (c.apply-reply.ensures.news wall run legal stands)
    (c.len-settled.ensures.value ∙ ap length c.news.ensures.value))
