use Rattle.std.proofs.Common.{subst, sym, ap, ◌∙◌}
use Rattle.wall_policy.specs.Policy.{ChineseWall, IsPolicy, first_processes}
use Rattle.wall_policy.proofs.PrefixLemmas.{first_processes-IsPolicy}
use Rattle.wall_policy.proofs.policy.Policy.first.Goals as goal

pub invariant_of-self : goal.invariant_of-self
invariant_of-self c =
    subst IsPolicy (λ i. record {
      version = c.self.inside.version;
      class_names = c.self.inside.class_names;
      dataset_names = c.self.inside.dataset_names;
      process_names = sym c.truncate.ensures i;
      classes = c.self.inside.classes.items;
      homes = sym c.truncate-2.ensures.items i;
      leasts = c.self.inside.leasts.items;
      distincts = c.self.inside.distincts.items;
      held = sym c.keep_first.ensures i;
    }) (first_processes-IsPolicy c.args.number _ c.requires c.self.invariant)

pub returns : goal.returns
returns c =
    (λ i. record {
      version = c.self.inside.version;
      class_names = c.self.inside.class_names;
      dataset_names = c.self.inside.dataset_names;
      process_names = c.truncate.ensures i;
      classes = c.self.inside.classes.items;
      homes = c.truncate-2.ensures.items i;
      leasts = c.self.inside.leasts.items;
      distincts = c.self.inside.distincts.items;
      held = c.keep_first.ensures i;
    })
    ∙ ap (λ (w : ChineseWall). first_processes c.args.number w) c.self.view_is
