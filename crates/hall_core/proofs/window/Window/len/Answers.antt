use Rattle.std.proofs.Common.{sym, ap, length, ◌∙◌}
use Rattle.hall_core.proofs.SlotLemmas.{list_long}
use Rattle.hall_core.proofs.window.Window.len.Goals as goal

pub returns : goal.returns
returns g c =
    sym (ap (λ w. length w.list) (sym c.self.view_is)
    ∙ list_long g.T.Forgettable.nothing c.self.inside.slots.items c.self.inside.end)
