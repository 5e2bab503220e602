use Rattle.std.proofs.lemmas.Result.{err_from_is_err_and}
use Rattle.wall_policy.proofs.GrowthLemmas.{not_grown}
use Rattle.wall_policy.proofs.growth.grown_from.Goals as goal

pub returns-in_err-check-clause-exact : goal.returns-in_err-check-clause-exact
returns-in_err-check-clause-exact c =
    let p = err_from_is_err_and c.from_residual.result c.from_residual.ensures.1 in
    rw (p.1, p.2) (not_grown c.args.old.now c.args.new.now c.in_err-check.field-0.0
    c.in_err-check.ensures.policy c.in_err-check.ensures.fault)
