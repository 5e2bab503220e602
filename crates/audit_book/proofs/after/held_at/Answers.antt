use Rattle.std.proofs.Common.{ap, ◌∙◌, subst}
use Rattle.wall_rules.specs.Histories.{History, ArePairsOf}
use Rattle.run_model.specs.Posts.{histories}
use Rattle.audit_book.specs.Checks.{bare}
use Rattle.audit_book.proofs.CheckLemmas.{bare_posts}
use Rattle.audit_book.proofs.StepLemmas.{ok_more}
use Rattle.audit_book.proofs.after.held_at.Goals as goal

pub returns : goal.returns
returns c = ok_more c.pairs.result _ _ (λ pairs are wall past stands.
    subst (λ (h : History). ArePairsOf h pairs.items)
    (c.histories.ensures.posts wall (bare past) stands
    ∙ ap (λ ps. histories wall ps) (bare_posts past)) are)
    c.pairs.ensures
