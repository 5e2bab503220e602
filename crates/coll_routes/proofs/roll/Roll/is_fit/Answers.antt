use Rattle.std.proofs.Common.{sym, ◌∙◌}
use Rattle.coll_routes.proofs.FitLemmas.{fit_decides}
use Rattle.coll_routes.proofs.roll.Roll.is_fit.Goals as goal

pub returns-clause-fit : goal.returns-clause-fit
returns-clause-fit c =
    let decides = fit_decides c.args.self.now in
    (λ e. decides.0 (sym c.passes.ensures ∙ e), λ fit. c.passes.ensures ∙ decides.1 fit)
