use Rattle.std.proofs.Common.{◌<◌, ◌≡◌, get_or, set, length, refl, subst, sym, ap, ◌∙◌}
use Rattle.std.proofs.lemmas.List.{get_or_default}
use Rattle.hall_core.specs.Settling.{Places, nothing, no_places, one_fewer, open_at, place_at, places_of}
use Rattle.hall_core.proofs.SettlingLemmas.{placed_in, row_there}
use Rattle.hall_core.proofs.settled.Settlements.leave.Goals as goal

pub returns-clause-placed : goal.returns-clause-placed
returns-clause-placed c =
    let rows = c.self.inside.rows.items in
    let comm = c.args.comm in
    let k = c.args.k in
    let mid = c.index_mut-row.result.now in
    let low = row_there rows comm k
    (subst (λ s. 0 < open_at s comm k) (sym c.self.view_is) c.requires) in
    let same : mid ≡ places_of rows comm =
    c.index_mut-row.ensures.value ∙ get_or_default rows comm mid no_places low in
    let fewer : c.leave.new.self ≡ one_fewer (place_at rows comm k) =
    c.leave.ensures ∙ ap one_fewer (c.in-Some.ensures.value
    ∙ ap (λ (w : Places). get_or w.list k nothing) same) in
    rw (← c.self.view_is) (placed_in rows comm k c.forget.new.self (one_fewer (place_at rows comm k))
    low (subst (λ (w : Places). k < length w.list) same (c.in-Some.ensures.within refl))
    (c.forget.ensures.list ∙ (λ i. set (same i).list k (fewer i))))
