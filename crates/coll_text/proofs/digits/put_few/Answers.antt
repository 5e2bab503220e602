use Rattle.std.proofs.Common.{Result, Ok, Err, OnOk, if◌then◌else◌, length-set, ◌≡◌, ◌<◌, length}
use Rattle.std.proofs.Common.{set, ◌-◌, ◌++◌, ◌∷◌, [], List, ℕ, drop, take, FitsSigned, ap, sym}
use Rattle.std.proofs.Common.{◌∙◌, append_assoc, arith, rules}
use Rattle.std.specs.Int.{w128}
use Rattle.std.specs.Fmt.{signed_decimal}
use Rattle.std.proofs.lemmas.Int.{to_z-of_z}
use Rattle.std.specs.Result.{is_ok}
use Rattle.std.proofs.lemmas.List.{length-take-le, length-drop, take_all}
use Rattle.coll_text.specs.Writing.{spaced_numbers, enclosed_numbers}
use Rattle.coll_text.proofs.BatchLemmas.{number_small, one_before, enclosed_from}
use Rattle.coll_text.proofs.digits.put_few.Goals as goal

pub put_behind_space-start-requires-clause-small : goal.put_behind_space-start-requires-clause-small
put_behind_space-start-requires-clause-small c =
    let fits : FitsSigned w128 c.number_at.result = search rules in
    rw (to_z-of_z w128 c.number_at.result fits)
    (number_small c.args.numbers.now.elem_type c.number_at.result c.number_at.ensures.within)

pub loop-i-preserved : goal.loop-i-preserved
loop-i-preserved c =
    let fits : FitsSigned w128 c.number_at.result = search rules in
    let e = c.put_behind_space-start.ensures in
    let inv = c.loop-i.invariant in
    let ns = take c.args.to c.args.numbers.now.numbers in
    record {
      low = omega arith;
      high = omega arith;
      room = omega arith;
      within = omega arith;
      size = omega arith;
      so_far = e.written
          ∙ ap (λ z. 32 ∷ (signed_decimal z ++ drop c.loop-i.start c.loop-i.bytes))
          (to_z-of_z w128 c.number_at.result fits)
          ∙ ap (λ (t : List ℕ). 32 ∷ (signed_decimal c.number_at.result ++ t)) inv.so_far
          ∙ ap (λ (t : List ℕ). 32 ∷ t) (sym (append_assoc (signed_decimal c.number_at.result)
          (spaced_numbers (drop c.loop-i.i ns)) (c.args.behind ∷ [])))
          ∙ ap (λ (t : List ℕ). t ++ c.args.behind ∷ []) (one_before c.args.numbers.now.numbers
          c.args.to c.loop-i.i (c.loop-i.i - 1)
          c.number_at.result (omega arith) inv.high c.requires.within c.number_at.ensures.same);
    }

ok_put : {A E : Type 0} (r : Result A E) (old new part text : List ℕ) →
    new ≡ (if is_ok r then old ++ part else old) → part ≡ text → OnOk r (new ≡ old ++ text)
ok_put (Ok x) old new part text e h = e ∙ ap (λ t. old ++ t) h
ok_put (Err x) old new part text e h = tt

pub returns-clause-ok : goal.returns-clause-ok
returns-clause-ok c =
    let inv = c.loop-i.invariant in
    let ns = take c.args.to c.args.numbers.now.numbers in
    let same : c.loop-i.i ≡ c.args.from = omega arith in
    let size = length-take-le c.args.to c.args.numbers.now.numbers c.requires.within in
    let some : 0 < length (drop c.args.from ns) = omega (arith, length-drop c.args.from ns, size) in
    let so_far = inv.so_far ∙ ap (λ k. spaced_numbers (drop k ns) ++ c.args.behind ∷ []) same in
    let is = enclosed_from c.loop-i.bytes c.loop-i.start c.args.before c.args.behind
    (drop c.args.from ns) some inv.within so_far in
    let now = set c.loop-i.bytes c.loop-i.start c.args.before in
    let whole = take_all (177 - c.loop-i.start) (drop c.loop-i.start now)
    (omega (
      arith,
      length-drop c.loop-i.start now,
      length-set c.loop-i.bytes c.loop-i.start
          c.args.before,
      inv.size,
    )) in
    ok_put c.extend_from_slice.result c.args.text.now.items c.extend_from_slice.new.self.items
    (take (177 - c.loop-i.start) (drop c.loop-i.start now))
    (enclosed_numbers c.args.before (drop c.args.from ns) c.args.behind)
    c.extend_from_slice.ensures.items (whole ∙ is)
