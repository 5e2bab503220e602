use Rattle.std.proofs.Common.{arith}
use Rattle.coll_text.proofs.DigitLemmas.{overflows}
use Rattle.coll_text.proofs.numbers.long_number.Goals as goal

pub returns-then-next-from-clause-value : goal.returns-then-next-from-clause-value
returns-then-next-from-clause-value c =
    overflows c.args.most c.loop-byte.value c.loop-byte.byte-index c.args.word.now
    c.loop-byte-test.true c.loop-byte.invariant.rest (omega arith)
