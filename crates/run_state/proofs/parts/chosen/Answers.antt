use Rattle.std.proofs.Common.{◌+◌, ◌<◌, length, get_or, arith, sym, ap, ◌∙◌, subst}
use Rattle.mpi_cart.proofs.MpiCartLemmas.{Kept, kept_more, kept_less}
use Rattle.run_state.proofs.PartLemmas.{read_again}
use Rattle.run_state.proofs.parts.chosen.Goals.{then-is_gone+in_ok-push, else-is_gone}
use Rattle.run_state.proofs.parts.chosen.Goals as goal

pub loop-k-preserved : goal.loop-k-preserved
loop-k-preserved c =
    let keep = c.args.gone.now in
    let items = c.args.numbers.now in
    let k = c.loop-k.k in
    let x = get_or items k 0 in
    let within : k < length items = let low = c.loop-k-test.true in let same = c.requires in omega
    (arith, low, same) in
    elim c.if-is_gone.branch [
      | then-is_gone+in_ok-push w
          ↦ subst (Kept keep items (k + 1))
          (sym (ap (λ v. v.items) w.list-is ∙ w.in_ok-push.ensures.items))
          (kept_more keep items k c.loop-k.list.items x c.loop-k-test.true c.requires
          w.if-is_gone.true (read_again items k x within) c.loop-k.invariant)
      | else-is_gone w ↦ subst (Kept keep items (k + 1)) (sym (ap (λ v. v.items) w.list-is))
          (kept_less keep items k c.loop-k.list.items x c.loop-k-test.true c.requires
          w.if-is_gone.false c.loop-k.invariant)
    ]
