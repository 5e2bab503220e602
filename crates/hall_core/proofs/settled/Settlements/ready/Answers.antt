use Rattle.std.proofs.Common.{◌<◌, ◌≡◌, length, subst, sym, ap, ◌∙◌, arith}
use Rattle.std.proofs.lemmas.List.{get_or_default, length-set}
use Rattle.std.proofs.lemmas.Result.{on_ok_weaker}
use Rattle.hall_core.specs.Settling.{Places, no_places, places_of}
use Rattle.hall_core.specs.Windows.{HasReached, IsInWindow}
use Rattle.hall_core.proofs.LeftLemmas.{reached_from}
use Rattle.hall_core.proofs.SettlingLemmas.{row_set}
use Rattle.hall_core.proofs.settled.Settlements.ready.Goals as goal

pub returns-clause-room : goal.returns-clause-room
returns-clause-room c =
    let rows = c.add_rows.new.rows.items in
    let comm = c.args.comm in
    let row = c.reach.new.self in
    let number = c.in_ok-add_rows.ensures.number in
    let low : comm < length rows = omega (arith, number) in
    let long = length-set rows comm row in
    on_ok_weaker c.reach.result
    (λ kept. record {
      there = omega (arith, low, long);
      kept = subst (λ (w : Places). IsInWindow w c.args.k) (sym (row_set rows comm row low)) kept;
    })
    c.reach.ensures.kept

pub returns-clause-reached : goal.returns-clause-reached
returns-clause-reached c =
    let rows = c.add_rows.new.rows.items in
    let comm = c.args.comm in
    let row = c.reach.new.self in
    let mid = c.index_mut.result.now in
    let number = c.in_ok-add_rows.ensures.number in
    let low : comm < length rows = omega (arith, number) in
    let same : mid ≡ places_of rows comm =
    c.index_mut.ensures.value ∙ get_or_default rows comm mid no_places low in
    let kept = c.add_rows.ensures.kept comm in
    on_ok_weaker c.reach.result
    (λ reached. rw (← c.self.view_is)
    (subst (λ (w : Places). HasReached (places_of c.self.inside.rows.items comm) w c.args.k)
    (sym (row_set rows comm row low))
    (reached_from (places_of c.self.inside.rows.items comm) mid row c.args.k
    (ap (λ (w : Places). w.numbers) same ∙ kept.numbers)
    (ap (λ (w : Places). w.list) same ∙ kept.list) reached)))
    c.reach.ensures.reached
