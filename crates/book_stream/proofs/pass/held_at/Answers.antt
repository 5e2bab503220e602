use Rattle.std.proofs.Common.{ap, ◌∙◌, subst}
use Rattle.wall_rules.specs.Histories.{History, ArePairsOf}
use Rattle.run_model.specs.Posts.{histories}
use Rattle.run_model.specs.Books.{posts_in}
use Rattle.audit_book.specs.Checks.{bare}
use Rattle.audit_book.proofs.AuditBookLemmas.{bare_posts, ok_more}
use Rattle.book_stream.proofs.pass.held_at.Goals as goal

pub returns : goal.returns
returns c = ok_more c.pairs.result _ _ (λ pairs are wall entries seen.
    subst (λ (h : History). ArePairsOf h pairs.items)
    (c.histories.ensures.posts wall (bare (posts_in entries))
    (c.post_state.ensures wall entries seen)
    ∙ ap (λ ps. histories wall ps) (bare_posts (posts_in entries))) are)
    c.pairs.ensures
