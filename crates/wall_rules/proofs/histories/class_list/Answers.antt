use Rattle.std.proofs.Common.{◌≡◌, ◌<◌, length, get_or, refl, ap, sym, ◌∙◌, arith}
use Rattle.std.proofs.lemmas.List.{take_more}
use Rattle.std.proofs.lemmas.Option.{get_or_from_slice_get}
use Rattle.wall_rules.proofs.histories.class_list.Goals as goal

pub loop-number-preserved : goal.loop-number-preserved
loop-number-preserved c =
    let at : get_or c.args.policy.now.classes c.loop-number.number 0 ≡ c.class_of.result =
    ap (λ n. get_or c.args.policy.now.classes n 0) (sym c.in-Some.ensures.value)
    ∙ get_or_from_slice_get c.args.policy.now.classes c.in-Some.dataset c.class_of.result 0
    c.class_of.ensures.class in
    let within : c.loop-number.number < length c.args.policy.now.classes = omega (
      arith,
      c.datasets-datasets.ensures.policy.class_for_each,
      c.datasets-datasets.ensures.number,
    ) in
    rw (
      take_more c.args.policy.now.classes c.loop-number.number 0 within,
      at,
      c.in_ok-push.ensures.items,
      c.loop-number.invariant,
    ) refl
