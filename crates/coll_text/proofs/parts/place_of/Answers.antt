use Rattle.coll_text.proofs.CutLemmas.{place_here, place_nowhere}
use Rattle.std.proofs.Common.{arith}
use Rattle.coll_text.proofs.parts.place_of.Goals as goal

pub returns-then-text-i : goal.returns-then-text-i
returns-then-text-i c = place_here c.args.separator c.loop-i.i c.args.text.now (omega arith)
    c.if-text-i.true c.loop-i.invariant

pub returns : goal.returns
returns c =
    place_nowhere c.args.separator c.loop-i.i c.args.text.now (omega arith) c.loop-i.invariant
