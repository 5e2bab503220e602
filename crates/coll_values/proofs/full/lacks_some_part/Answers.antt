use Rattle.std.proofs.Common.{arith, sym, ◌∙◌}
use Rattle.coll_routes.proofs.CollRoutesLemmas.{any_at, any_none}
use Rattle.coll_values.proofs.InstanceLemmas.{lacks}
use Rattle.coll_values.proofs.full.lacks_some_part.Goals as goal

pub returns-then-lacks_part_of : goal.returns-then-lacks_part_of
returns-then-lacks_part_of c = sym (any_at (lacks c.args.full.now) 0 c.args.full.now.roll.shape.size
    c.loop-rank.rank (omega arith) (omega arith)
    (sym c.lacks_part_of.ensures ∙ c.if-lacks_part_of.true))

pub returns : goal.returns
returns c = sym (any_none (lacks c.args.full.now) 0 c.args.full.now.roll.shape.size
    (λ k h. c.loop-rank.invariant k (omega arith)))
