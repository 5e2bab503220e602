use Rattle.std.proofs.Common.{sym, ◌∙◌}
use Rattle.std.proofs.lemmas.Bool.{false≢true}
use Rattle.book_report.proofs.grant.gives.Goals as goal

pub returns-then-not-is_of : goal.returns-then-not-is_of
returns-then-not-is_of c = (
  λ t. absurd (false≢true t),
  λ given. absurd (false≢true (sym c.if-not-is_of.true
      ∙ c.is_of.ensures.1 (c.label_of-label.ensures ∙ given.1))),
)

pub returns : goal.returns
returns c = (
  λ t. (
    sym c.routed.ensures ∙ t,
    sym c.label_of-label.ensures ∙ c.is_of.ensures.0 c.if-not-is_of.false,
  ),
  λ given. c.routed.ensures ∙ given.0,
)
