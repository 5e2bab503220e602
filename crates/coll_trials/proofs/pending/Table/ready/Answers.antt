use Rattle.std.proofs.Common.{ℕ, sym, subst}
use Rattle.coll_pending.specs.Waiting.{PendingView, IsKnownAs}
use Rattle.coll_trials.proofs.pending.Table.ready.Goals as goal

pub invariant_of-self : goal.invariant_of-self
invariant_of-self g c =
    λ q. subst
    (λ (v : PendingView ℕ). IsKnownAs
    (record { members = c.self.inside.group; shape = c.self.inside.shape }) (v.known q))
    (sym c.ready.ensures.unchanged) (c.self.invariant q)
