use Rattle.std.proofs.Common.{◌≡◌, ◌++◌, ◌∷◌, [], ◌∙◌, ap, sym, arith, map, ℕ}
use Rattle.mpi_elems.specs.Contents.{Contents, contents}
use Rattle.mpi_cart.specs.Grids.{below}
use Rattle.coll_routes.specs.Rolls.{places}
use Rattle.coll_values.specs.Rooms.{size_of}
use Rattle.coll_values.proofs.FoldLemmas.{map_more}
use Rattle.coll_values.proofs.RoomLemmas.{at_place, count_items, lines_for_sizes}
use Rattle.coll_values.proofs.filling.lines_for.Goals as goal

pub push_reserved-requires : goal.push_reserved-requires
push_reserved-requires c =
    let o = c.loop-place.lines.ok in
    let count = count_items
    (λ t. contents c.args.elem_type [] (size_of (at_place c.args.full.now c.args.to t)))
    c.loop-place.place c.loop-place.lines.items c.loop-place.invariant.lines in
    let enough = c.loop-place.invariant.room in
    let less = c.loop-place-test.true in
    omega arith

pub loop-place-preserved : goal.loop-place-preserved
loop-place-preserved c =
    let line : ℕ → Contents = λ t. contents c.args.elem_type []
    (size_of (at_place c.args.full.now c.args.to t)) in
    record {
      lines = c.push_reserved.ensures.items
          ∙ ((λ i. c.loop-place.invariant.lines i
          ++ (c.in_ok-with_room.ensures.made
          ∙ ap (λ n. contents c.args.elem_type [] n) c.size_at.ensures) i ∷ [])
          ∙ sym (map_more line c.loop-place.place));
      room = (let kept = c.push_reserved.ensures.capacity in
          let enough = c.loop-place.invariant.room in omega arith);
    }

pub returns-clause-made : goal.returns-clause-made
returns-clause-made c =
    let line : ℕ → Contents = λ t. contents c.args.elem_type []
    (size_of (at_place c.args.full.now c.args.to t)) in
    let number = c.places-number.ensures in
    let at : c.loop-place.place ≡ places c.args.full.now.roll c.args.to = omega arith in
    c.loop-place.invariant.lines
    ∙ (ap (λ n. map line (below n)) at
    ∙ lines_for_sizes c.args.full.now c.args.to c.args.elem_type)
