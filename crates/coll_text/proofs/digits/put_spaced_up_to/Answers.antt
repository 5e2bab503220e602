use Rattle.std.proofs.Common.{◌≡◌, take, ◌≤◌, ◌+◌, ◌++◌, ◌∙◌, ap, sym, length, drop, take-take}
use Rattle.std.proofs.Common.{arith}
use Rattle.std.proofs.lemmas.List.{length-take-le}
use Rattle.coll_text.specs.Writing.{spaced_numbers}
use Rattle.coll_text.proofs.BatchLemmas.{batch_more}
use Rattle.coll_text.proofs.SpacedLemmas.{prefix_put, prefix_then}
use Rattle.coll_text.proofs.digits.put_spaced_up_to.Goals as goal

pub loop-i-preserved : goal.loop-i-preserved
loop-i-preserved c =
    let ns = c.args.numbers.now.numbers in
    let prefix = take c.args.to ns in
    let i = c.loop-i.i in
    let next = i + c.min.result in
    let old = c.args.text.now.items in
    let now = c.loop-i.text.items in
    let new = c.put_batch.new.text.items in
    let within : next ≤ c.args.to = omega (arith, c.min.ensures, c.loop-i.invariant.within) in
    let size : length prefix ≡ c.args.to = length-take-le c.args.to ns c.requires.within in
    let shorter : take next prefix ≡ take next ns = take-take next c.args.to ns within in
    let put : new ≡ now ++ spaced_numbers (drop i (take next prefix)) = c.in_ok-put_batch.ensures.ok
    ∙ ap (λ xs. now ++ spaced_numbers (drop i xs)) (sym shorter) in
    record {
      low = omega arith;
      within = within;
      so_far = batch_more prefix i next (old ++ spaced_numbers (drop c.args.from prefix)) now new
          (omega arith) (omega arith) put c.loop-i.invariant.so_far;
      prefix = prefix_then old now new c.loop-i.invariant.prefix (prefix_put now new
          (spaced_numbers (drop i (take next ns))) c.in_ok-put_batch.ensures.ok);
    }
