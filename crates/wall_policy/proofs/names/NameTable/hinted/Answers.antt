use Rattle.std.proofs.Common.{Some, sym, ap, ◌∙◌, List, ℕ, refl}
use Rattle.wall_policy.proofs.PlaceLemmas.{place_of-name}
use Rattle.wall_policy.proofs.names.NameTable.hinted.Goals as goal

pub returns-then-are_same-clause-place : goal.returns-then-are_same-clause-place
returns-then-are_same-clause-place c =
    place_of-name c.args.self.now c.from-hint.result c.args.name.now c.len.ensures.distinct
    (c.name_at.ensures ∙ ap (λ (n : List ℕ). Some n)
    (sym c.as_bytes.ensures.value ∙ c.if-are_same.ensures refl))
