use Rattle.std.proofs.Common.{sym, ◌∙◌}
use Rattle.book_report.proofs.GrantLemmas.{names_it, its_name}
use Rattle.book_report.proofs.grant.is_of.Goals as goal

pub returns-in-Some : goal.returns-in-Some
returns-in-Some c = (
  λ t. c.in-Some.is ∙ names_it _ c.args.dataset (c.names.ensures.0 t),
  λ is. c.names.ensures.1 (its_name _ c.args.dataset (sym c.in-Some.is ∙ is)),
)
