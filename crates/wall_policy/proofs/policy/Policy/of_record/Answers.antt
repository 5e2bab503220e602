use Rattle.std.proofs.Common.{subst, sym, ◌∙◌}
use Rattle.wall_policy.specs.Meaning.{wall_of}
use Rattle.wall_policy.specs.Policy.{IsPolicy}
use Rattle.wall_policy.proofs.PolicyLemmas.{wall_of-IsPolicy}
use Rattle.wall_policy.proofs.policy.Policy.of_record.Goals as goal

pub invariant_of-result : goal.invariant_of-result
unfolding wall_of
invariant_of-result c =
    subst IsPolicy (λ i. record {
      version = sym c.version.ensures i;
      class_names = sym c.requires.names.classes i;
      dataset_names = (sym c.requires.names.datasets ∙ sym c.with_hints.ensures) i;
      process_names = (sym c.requires.names.processes ∙ sym c.with_hints-2.ensures) i;
      classes = sym c.in_ok-lists.ensures.classes i;
      homes = sym c.in_ok-lists.ensures.homes i;
      leasts = sym c.in_ok-lists.ensures.leasts i;
      distincts = sym c.in_ok-lists.ensures.distincts i;
      held = sym c.new.ensures.items i;
    }) (wall_of-IsPolicy c.args.text.now c.requires.some_process c.requires.good_names
    c.requires.distinct c.requires.good_leasts c.requires.small c.requires.version)
