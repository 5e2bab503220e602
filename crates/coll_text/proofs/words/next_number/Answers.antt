use Rattle.std.proofs.Common.{arith}
use Rattle.coll_text.proofs.FrontLemmas.{read_below, read_above}
use Rattle.coll_text.proofs.words.next_number.Goals as goal

pub returns-then-n-most-clause-number : goal.returns-then-n-most-clause-number
returns-then-n-most-clause-number c =
    read_above 18446744073709551615 c.args.most c.in-Some.n c.in-Some.field-0-0.now
    c.next_small.new.self c.args.words.now c.in-Some.ensures.part c.in-Some.ensures.number
    (omega (arith, c.if-n-most.true))

pub returns-else-n-most-clause-number : goal.returns-else-n-most-clause-number
returns-else-n-most-clause-number c =
    read_below 18446744073709551615 c.args.most c.in-Some.n c.in-Some.field-0-0.now
    c.next_small.new.self c.args.words.now c.in-Some.ensures.part c.in-Some.ensures.number
    (omega (arith, c.if-n-most.false))
