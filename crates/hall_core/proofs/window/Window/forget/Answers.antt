use Rattle.std.proofs.Common.{arith}
use Rattle.hall_core.proofs.SlotLemmas.{number_long}
use Rattle.hall_core.proofs.LeftLemmas.{counted}
use Rattle.hall_core.proofs.window.Window.forget.Goals as goal

pub returns-else-len-self-clause-half : goal.returns-else-len-self-clause-half
returns-else-len-self-clause-half g c =
    let f = g.T.Forgettable in
    let laws = g.met.T.Forgettable in
    let slots = c.self.inside.slots.items in
    let left = counted f.nothing f.is_left laws.none laws.only slots c.self.inside.end
    c.self.invariant.ascending in
    let long = number_long slots in
    let held = c.self.invariant.held in
    let few = c.if-len-self.false in
    let number = c.len.ensures in
    rw (← c.self.view_is) (omega (arith, left, long, held, few, number))
