use Rattle.std.proofs.Common.{append_assoc, refl}
use Rattle.coll_text.proofs.BatchLemmas.{two_digits}
use Rattle.coll_text.proofs.append.put_behind.Goals as goal

pub returns-then-n-lt100-clause-ok : goal.returns-then-n-lt100-clause-ok
returns-then-n-lt100-clause-ok c = rw (
  c.push_digit-then-n-lt100-2.ensures.added,
  c.push_digit-then-n-lt100.ensures.added,
  c.push_reserved-then-n-lt100.ensures.items,
  c.reserve-then-n-lt100.ensures.items,
  append_assoc,
  append_assoc,
  two_digits c.args.n c.if-n-lt10.false c.if-n-lt100.true,
) refl
