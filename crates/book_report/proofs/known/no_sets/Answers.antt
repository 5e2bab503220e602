use Rattle.std.proofs.Common.{◌∙◌, ap}
use Rattle.wall_rules.specs.Histories.{has_in}
use Rattle.book_report.proofs.KnownLemmas.{none_in}
use Rattle.book_report.proofs.known.no_sets.Goals as goal

pub returns-clause-none : goal.returns-clause-none
returns-clause-none c = λ p d.
    ap (λ sets. has_in sets p d) c.loop.invariant ∙ none_in c.loop.counter p d
