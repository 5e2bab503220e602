use Rattle.std.proofs.Common.{◌≡◌, ℕ, ◌<◌, false}
use Rattle.coll_routes.specs.Fit.{is_unfit}
use Rattle.coll_routes.proofs.roll.Roll.has_unfit.Given as goal

abbrev pub invariant-loop-rank : goal.invariant-loop-rank
invariant-loop-rank l = (i : ℕ) → i < l.rank → is_unfit l.self i ≡ false
