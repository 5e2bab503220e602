use Rattle.hall_core.proofs.BriefLemmas.{all_gone, brief_still, none_left, same_view, stands_still}
use Rattle.hall_core.proofs.brief.BriefHall.forget.Goals as goal

pub invariant_of-self : goal.invariant_of-self
invariant_of-self c =
    let still = brief_still c.self.inside.records c.let_go.new.self c.let_go.ensures.same
    c.let_go.ensures.gone c.self.invariant in
    record { hall = still.hall; whole = still.whole }

pub returns-clause-unchanged : goal.returns-clause-unchanged
returns-clause-unchanged c = rw (← c.self.view_is) (same_view c.self.inside.records
    c.let_go.new.self c.let_go.ensures.same c.let_go.ensures.gone c.self.invariant)

pub returns-clause-runs : goal.returns-clause-runs
returns-clause-runs c = rw (← c.self.view_is) (stands_still c.self.inside.records
    c.let_go.new.self c.let_go.ensures.same c.let_go.ensures.gone c.self.invariant)

pub returns-clause-gone : goal.returns-clause-gone
returns-clause-gone c = rw (← c.self.view_is) (all_gone c.self.inside.records
    c.let_go.new.self c.let_go.ensures.same c.let_go.ensures.gone c.self.invariant)

pub returns-clause-news : goal.returns-clause-news
returns-clause-news c = none_left c.self.inside.records
    c.let_go.new.self c.let_go.ensures.same c.let_go.ensures.gone c.self.invariant
