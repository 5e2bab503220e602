use Rattle.std.proofs.Common.{subst, ap, ◌∙◌}
use Rattle.hall_core.specs.Slots.{IsAt, IsAbsent}
use Rattle.hall_core.proofs.SlotLemmas.{kept_there, none_there, rising}
use Rattle.hall_core.proofs.window.Window.get.Goals as goal

pub place_of-requires : goal.place_of-requires
place_of-requires g c =
    rw c.deref.ensures.value
    (rising 0 c.self.inside.slots.items c.self.inside.end c.self.invariant.ascending)

pub returns-in_default : goal.returns-in_default
returns-in_default g c =
    rw (← c.self.view_is) (none_there g.T.Forgettable.nothing c.self.inside.slots.items
    c.self.inside.end c.args.number c.self.invariant.ascending
    (subst (λ l. IsAbsent c.args.number l) c.deref.ensures.value c.in_default.ensures.none))

pub returns : goal.returns
returns g c =
    rw (← c.self.view_is) (ap (λ s. s.thing) c.index.ensures ∙
    kept_there g.T.Forgettable.nothing c.self.inside.slots.items
    c.self.inside.end c.args.number c.in-Some.at c.index.result.now c.self.invariant.ascending
    (subst (λ l. IsAt c.args.number l c.in-Some.at) c.deref.ensures.value c.in-Some.ensures.at))
