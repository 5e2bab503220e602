use Rattle.std.proofs.Common.{map, ap, ◌∙◌}
use Rattle.wall_policy.specs.Meaning.{home_in, class_numbers, leasts_in, distincts_in}
use Rattle.wall_policy.specs.Checks.{has_good_leasts}
use Rattle.wall_policy.proofs.PolicyLemmas.{small_parts}
use Rattle.wall_policy.proofs.build.lists_of.Goals as goal

pub returns-clause-classes : goal.returns-clause-classes
returns-clause-classes c = c.in_ok-classes.ensures ∙ ap (class_numbers 0) c.classes.ensures

pub returns-clause-homes : goal.returns-clause-homes
returns-clause-homes c =
    c.in_ok-homes.ensures
    ∙ (λ i. map (λ p. home_in (c.requires.datasets i) p.home) (c.processes.ensures i))

pub returns-clause-leasts : goal.returns-clause-leasts
returns-clause-leasts c = c.in_ok-leasts.ensures ∙ ap leasts_in c.rules.ensures

pub returns-clause-distincts : goal.returns-clause-distincts
returns-clause-distincts c = c.in_ok-distincts.ensures ∙ ap distincts_in c.rules-2.ensures

pub class_list-requires : goal.class_list-requires
class_list-requires c = rw c.classes.ensures (small_parts c.args.text.now c.requires.small).2

pub home_list-requires : goal.home_list-requires
home_list-requires c = rw c.requires.datasets (small_parts c.args.text.now c.requires.small).1

pub least_list-requires : goal.least_list-requires
unfolding has_good_leasts
least_list-requires c = rw c.rules.ensures c.requires.good_leasts

pub distinct_list-requires : goal.distinct_list-requires
unfolding has_good_leasts
distinct_list-requires c = rw c.rules-2.ensures c.requires.good_leasts
