use Rattle.std.proofs.Common.{◌≡◌, ℕ, ◌+◌, ◌*◌, take, drop, arith, subst, sym}
use Rattle.coll_text.specs.Numbers.{value_after}
use Rattle.coll_text.specs.Eights.{IsFrontValue}
use Rattle.coll_text.proofs.StepLemmas.{prefix_more, table_fits, tens_is}
use Rattle.coll_text.proofs.eights.with_more.Goals as goal

pub overflow_mul-result : goal.overflow_mul-result
overflow_mul-result c =
    let h = table_fits c.args.value c.args.len c.args.count c.value_of_few.result
    c.requires.prefix.small c.value_of_few.ensures.small c.requires.few.0 c.requires.few.1 in
    record { fits = omega (arith, h) }

pub overflow_add-result : goal.overflow_add-result
overflow_add-result c = record {
  fits = table_fits c.args.value c.args.len c.args.count c.value_of_few.result
      c.requires.prefix.small c.value_of_few.ensures.small c.requires.few.0 c.requires.few.1;
}

pub returns : goal.returns
returns c =
    let text = c.args.text.now in
    let value : c.value_of_few.result ≡ value_after 0 (take c.args.count (drop c.args.len text)) =
    rw (← c.split_at.ensures.back) c.value_of_few.ensures.value in
    let prefix = prefix_more text c.args.len c.args.count c.args.value c.value_of_few.result
    (omega arith) c.requires.prefix c.requires.digits value c.value_of_few.ensures.small in
    subst (λ (k : ℕ). IsFrontValue text (c.value_of_few.result + c.args.value * k)
    (c.args.len + c.args.count)) (sym (tens_is c.args.count c.requires.few.0)) prefix
