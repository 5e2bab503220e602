use Rattle.std.proofs.Common.{arith, sym, ◌∙◌}
use Rattle.coll_routes.specs.Fit.{is_unfit}
use Rattle.coll_routes.proofs.AnyLemmas.{any_at, any_none}
use Rattle.coll_routes.proofs.roll.Roll.has_unfit.Goals as goal

pub returns-then-is_unfit : goal.returns-then-is_unfit
returns-then-is_unfit c = sym (any_at (is_unfit c.args.self.now) 0 c.args.self.now.shape.size
    c.loop-rank.rank (omega arith) (omega arith) (sym c.is_unfit.ensures ∙ c.if-is_unfit.true))

pub returns : goal.returns
returns c = sym (any_none (is_unfit c.args.self.now) 0 c.args.self.now.shape.size
    (λ k h. c.loop-rank.invariant k (omega arith)))
