use Rattle.std.proofs.Common.{subst, sym}
use Rattle.wall_policy.specs.Policy.{ChineseWall, CanBeHeld}
use Rattle.wall_policy.proofs.PolicyLemmas.{with_held-IsPolicy}
use Rattle.wall_policy.proofs.policy.Policy.after.Goals as goal

pub invariant_of-self : goal.invariant_of-self
invariant_of-self c =
    with_held-IsPolicy _ c.args.held.items c.self.invariant
    (subst (λ (w : ChineseWall). CanBeHeld w c.args.held.items) (sym c.self.view_is) c.requires)
