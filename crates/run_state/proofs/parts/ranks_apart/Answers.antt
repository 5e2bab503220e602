use Rattle.std.proofs.Common.{◌<◌, [], length, sym, ap, ◌∙◌, arith}
use Rattle.std.specs.Prelude.{unwrap_or}
use Rattle.mpi_cart.specs.Grids.{same_list}
use Rattle.run_state.proofs.PartLemmas.{filter_next, filter_past, read_map}
use Rattle.run_state.proofs.parts.ranks_apart.Goals.{then-is_same+in_ok-push, else-is_same}
use Rattle.run_state.proofs.parts.ranks_apart.Goals as goal

pub loop-rank-preserved : goal.loop-rank-preserved
loop-rank-preserved c =
    let rank = c.loop-rank.rank in
    let within : rank < length c.args.each.now = let low = c.loop-rank-test.true in let n =
    c.requires in omega arith in
    let at = read_map (λ v. v.items) c.args.each.now rank c.index-each-rank.result within
    c.index-each-rank.is in
    let test = ap (λ o. same_list (unwrap_or o []) c.args.value.now) at ∙
    (ap (λ xs. same_list xs c.args.value.now) (sym c.deref.ensures.value)
    ∙ sym c.is_same.ensures) in
    elim c.if-is_same.branch [
      | then-is_same+in_ok-push w
          ↦ filter_next _ rank c.loop-rank.list.items _ (test ∙ w.if-is_same.true)
          c.loop-rank.invariant (ap (λ v. v.items) w.list-is ∙ w.in_ok-push.ensures.items)
      | else-is_same w
          ↦ filter_past _ rank c.loop-rank.list.items _ (test ∙ w.if-is_same.false)
          c.loop-rank.invariant (ap (λ v. v.items) w.list-is)
    ]
