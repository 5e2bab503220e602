use Rattle.std.proofs.Common.{◌≡◌, ◌/◌, ℕ, Some, ap, sym, ◌∙◌}
use Rattle.wall_labels.proofs.RowLemmas.{cleared_bit, other_bit}
use Rattle.wall_labels.proofs.label_set.without.Goals as goal

pub returns-then-number-place : goal.returns-then-number-place
returns-then-number-place c k e =
    let n : ℕ = c.number-number.result in
    let named : c.args.other.now ≡ Some n = c.in-Some.is ∙
    (λ i. Some (sym c.number-number.ensures.value i)) in
    rw named (cleared_bit c.args.word n k (e ∙ sym c.if-number-place.true))

pub returns-else-number-place : goal.returns-else-number-place
returns-else-number-place c k e =
    let n : ℕ = c.number-number.result in
    let named : c.args.other.now ≡ Some n = c.in-Some.is ∙
    (λ i. Some (sym c.number-number.ensures.value i)) in
    rw named (other_bit c.args.word n k
    (λ same. c.if-number-place.false (ap (λ x. x / 64) (sym same) ∙ e)))
