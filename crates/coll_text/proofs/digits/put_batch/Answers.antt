use Rattle.std.proofs.Common.{◌-◌, ◌++◌, ◌∷◌, List, ℕ, drop, FitsSigned, ap, ◌∙◌, arith, rules}
use Rattle.std.specs.Int.{w128}
use Rattle.std.specs.Fmt.{signed_decimal}
use Rattle.std.proofs.lemmas.Int.{to_z-of_z}
use Rattle.coll_text.proofs.BatchLemmas.{number_small, one_before}
use Rattle.coll_text.proofs.digits.put_batch.Goals as goal

pub put_behind_space-start-requires-clause-small : goal.put_behind_space-start-requires-clause-small
put_behind_space-start-requires-clause-small c =
    let fits : FitsSigned w128 c.number_at.result = search rules in
    rw (to_z-of_z w128 c.number_at.result fits)
    (number_small c.args.numbers.now.elem_type c.number_at.result c.number_at.ensures.within)

pub loop-i-preserved : goal.loop-i-preserved
loop-i-preserved c =
    let fits : FitsSigned w128 c.number_at.result = search rules in
    let e = c.put_behind_space-start.ensures in
    let inv = c.loop-i.invariant in
    record {
      low = omega arith;
      high = omega arith;
      room = omega arith;
      within = omega arith;
      size = omega arith;
      so_far = e.written
          ∙ ap (λ z. 32 ∷ (signed_decimal z ++ drop c.loop-i.start c.loop-i.bytes))
          (to_z-of_z w128 c.number_at.result fits)
          ∙ ap (λ (t : List ℕ). 32 ∷ (signed_decimal c.number_at.result ++ t)) inv.so_far
          ∙ one_before c.args.numbers.now.numbers c.args.to c.loop-i.i (c.loop-i.i - 1)
          c.number_at.result (omega arith) inv.high c.requires.within c.number_at.ensures.same;
    }
