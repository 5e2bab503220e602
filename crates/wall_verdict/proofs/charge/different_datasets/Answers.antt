use Rattle.std.proofs.Common.{ℕ, ◌+◌, refl, sym, ap, subst, ◌∙◌, arith}
use Rattle.std.specs.Ordering.{nat_cmp}
use Rattle.std.specs.FinSet.{contains, contains-empty}
use Rattle.wall_verdict.specs.Charges.{contribution}
use Rattle.wall_verdict.proofs.ChargeLemmas.{AreBrought, brought_more, brought_same, different_more}
use Rattle.wall_verdict.proofs.ChargeLemmas.{different_same, different_within, one_at_most}
use Rattle.wall_verdict.proofs.charge.different_datasets.Goals.{in-Some, in-None}
use Rattle.wall_verdict.proofs.charge.different_datasets.Goals as goal

pub loop-from-init : goal.loop-from-init
loop-from-init c = record {
  brought =
      λ q. ap (λ s. contains s q) c.empty-seen.ensures ∙ contains-empty nat_cmp q;
  number = refl;
}

pub overflow_add-number : goal.overflow_add-number
overflow_add-number c = omega (
  arith,
  c.loop-from.invariant.number,
  different_within (λ i. contribution c.args.roll.now i c.args.to) c.loop-from.from,
  c.add_another-number.ensures.more,
  one_at_most (contains c.loop-from.seen c.in-Some.dataset),
)

pub loop-from-preserved : goal.loop-from-preserved
loop-from-preserved c =
    let brings = λ (i : ℕ). contribution c.args.roll.now i c.args.to in
    elim c.match-contribution.branch [
      | in-Some w ↦ record {
        brought = subst (λ s. AreBrought brings (c.loop-from.from + 1) s)
            (sym (w.seen-is ∙ w.add_another-number.ensures.added)) (brought_more brings
            c.loop-from.from w.in-Some.dataset c.loop-from.seen (sym w.in-Some.ensures)
            c.loop-from.invariant.brought);
        number = w.number-is
            ∙ ap (λ (k : ℕ). c.loop-from.number + k) w.add_another-number.ensures.more
            ∙ different_more brings c.loop-from.from w.in-Some.dataset c.loop-from.number
            c.loop-from.seen (sym w.in-Some.ensures) c.loop-from.invariant.brought
            c.loop-from.invariant.number;
      }
      | in-None w ↦ record {
        brought = subst (λ s. AreBrought brings (c.loop-from.from + 1) s) (sym w.seen-is)
            (brought_same brings c.loop-from.from c.loop-from.seen (sym w.in-None.ensures)
            c.loop-from.invariant.brought);
        number = w.number-is
            ∙ different_same brings c.loop-from.from c.loop-from.number (sym w.in-None.ensures)
            c.loop-from.invariant.number;
      }
    ]
