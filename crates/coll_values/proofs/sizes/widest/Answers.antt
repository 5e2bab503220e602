use Rattle.std.proofs.Common.{arith}
use Rattle.coll_values.proofs.RowLemmas.{breadth_some, breadth_none}
use Rattle.coll_values.proofs.sizes.widest.Goals as goal

pub returns-then-row-gt0 : goal.returns-then-row-gt0
returns-then-row-gt0 c =
    breadth_some c.args.full.now c.args.to _ _ _ c.requires.whole c.gathered-row.ensures.senders
    c.gathered-row.ensures.within (omega arith) (omega arith)

pub returns-else-row-gt0 : goal.returns-else-row-gt0
returns-else-row-gt0 c =
    breadth_none c.args.full.now c.args.to _ _ _ c.requires.whole c.gathered-row.ensures.senders
    (omega arith)
