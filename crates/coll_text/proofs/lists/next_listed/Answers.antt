use Rattle.std.proofs.Common.{arith}
use Rattle.coll_text.proofs.FrontLemmas.{listed_above, listed_below}
use Rattle.coll_text.proofs.lists.next_listed.Goals as goal

pub returns-then-n-from-clause-number : goal.returns-then-n-from-clause-number
returns-then-n-from-clause-number c = listed_above 18446744073709551615 c.in-Some.n
    c.in-Some.part.now c.in-Some.ensures.number (omega (arith, c.if-n-from.true))

pub returns-else-n-from-clause-number : goal.returns-else-n-from-clause-number
returns-else-n-from-clause-number c = listed_below 18446744073709551615 c.in-Some.n
    c.in-Some.part.now c.in-Some.ensures.number (omega (arith, c.if-n-from.false))
