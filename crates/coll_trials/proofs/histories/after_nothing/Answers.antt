use Rattle.wall_rules.proofs.WallRulesLemmas.{opening_can_be_held}
use Rattle.coll_trials.proofs.histories.after_nothing.Goals as goal

pub after-requires : goal.after-requires
after-requires g c =
    opening_can_be_held c.args.policy c.opening_pairs-pairs.result.items
    c.processes-processes.ensures.policy c.opening_pairs-pairs.ensures
