use Rattle.hall_core.proofs.WorldsLemmas.{values_decide_nothing_in}
use Rattle.hall_core.proofs.WorldsLemmas.{who_holds_nothing_learns_nothing_in}
use Rattle.hall_core.proofs.worlds.run_two.Goals as goal

pub returns-clause-one_wall : goal.returns-clause-one_wall
returns-clause-one_wall c =
    let each = c.in_ok-two.ensures in
    values_decide_nothing_in c.args.policy c.args.first c.args.second
    c.in_ok-two.two.first c.in_ok-two.two.second
    each.first.0 each.second.0 each.first.1 each.second.1 c.values_decide_nothing.ensures

pub returns-clause-outside : goal.returns-clause-outside
returns-clause-outside c =
    let each = c.in_ok-two.ensures in
    who_holds_nothing_learns_nothing_in c.args.policy c.args.first c.args.second
    c.in_ok-two.two.first c.in_ok-two.two.second
    each.first.0 each.second.0 each.first.1 each.second.1
    c.who_holds_nothing_learns_nothing.ensures
