use Rattle.std.proofs.Common.{◌≡◌, ℕ, Some, None, Option, inl, inr}
use Rattle.std.specs.FinSet.{contains}
use Rattle.std.proofs.lemmas.Bool.{cases_Bool}
use Rattle.book_report.proofs.grant.is_empty.Goals as goal

pub returns-in-None-clause-empty : goal.returns-in-None-clause-empty
returns-in-None-clause-empty c = λ _ d. elim (cases_Bool (contains c.args.set.now d)) [
  | inl t ↦ (let none : ◌≡◌ {A = Option ℕ} None (Some d) = c.in-None.ensures.none d t in absurd cc)
  | inr f ↦ f
]
