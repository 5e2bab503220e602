use Rattle.std.proofs.Common.{◌≤◌, length, arith}
use Rattle.coll_text.proofs.FrontLemmas.{whole_below, whole_above}
use Rattle.coll_text.proofs.numbers.whole_number.Goals as goal

pub returns-then-n-most-clause-value : goal.returns-then-n-most-clause-value
returns-then-n-most-clause-value c =
    let whole : length c.args.word.now ≤ c.in-Some.len = omega (arith, c.if-len-word.false) in
    let prefix = rw c.in-Some.is at c.requires in
    whole_above c.in-Some.n c.in-Some.len 18446744073709551615 c.args.most c.args.word.now whole
    prefix.read c.if-n-most.true

pub returns-else-n-most-clause-value : goal.returns-else-n-most-clause-value
returns-else-n-most-clause-value c =
    let whole : length c.args.word.now ≤ c.in-Some.len = omega (arith, c.if-len-word.false) in
    let prefix = rw c.in-Some.is at c.requires in
    whole_below c.in-Some.n c.in-Some.len 18446744073709551615 c.args.most c.args.word.now whole
    prefix.read c.if-n-most.false
