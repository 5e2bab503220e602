use Rattle.std.proofs.Common.{ap, ◌∙◌}
use Rattle.wall_verdict.specs.Star.{star}
use Rattle.run_model.specs.Posts.{histories}
use Rattle.audit_book.specs.Checks.{bare}
use Rattle.audit_book.proofs.CheckLemmas.{bare_posts}
use Rattle.audit_book.proofs.count.passes.Goals as goal

pub returns : goal.returns
returns c = λ wall past stands. c.passes.ensures.posts wall (bare past) stands
    ∙ ap (λ ps. star (histories wall ps) c.args.seat.now.process c.args.label.now) (bare_posts past)
