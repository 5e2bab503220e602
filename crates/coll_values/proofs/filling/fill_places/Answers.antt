use Rattle.std.proofs.Common.{◌≡◌, ◌++◌, ◌∷◌, [], ◌∙◌, ap, sym, arith, length, map, ℕ}
use Rattle.std.proofs.Common.{length-append, append_assoc, Some}
use Rattle.mpi_elems.specs.declared.elem_type.ElemType.{ElemType}
use Rattle.mpi_cart.specs.Grids.{below}
use Rattle.coll_routes.specs.Rolls.{places}
use Rattle.coll_routes.specs.Faults.{stated_type}
use Rattle.coll_values.specs.declared.delivery.Block.{Block}
use Rattle.coll_values.specs.Values.{block_of}
use Rattle.coll_values.proofs.FoldLemmas.{map_more}
use Rattle.coll_values.proofs.RoomLemmas.{at_place, line_is, line_has, lines_fill, count_items}
use Rattle.coll_values.proofs.RoomLemmas.{value_is}
use Rattle.coll_values.proofs.SourceLemmas.{typed_place}
use Rattle.coll_values.proofs.filling.fill_places.Goals as goal

pub prove-unreachable-requires : goal.prove-unreachable-requires
prove-unreachable-requires c =
    let prefix = ap (λ ls. c.loop-line.yielded ++ ls) (sym c.in-Some.ensures.steps.0) ∙
    c.loop-line.invariant.rest in
    let has = line_has c.args.full.now c.args.to c.loop-line.yielded _ c.args.lines.items
    c.in-Some.line c.loop-line.place c.requires.sizes prefix c.loop-line.invariant.place in
    let number = c.places-number.ensures in
    let past = c.if-prove.true in
    omega (arith, has.0)

pub fill_place-requires-clause-one_type : goal.fill_place-requires-clause-one_type
fill_place-requires-clause-one_type c =
    let prefix = ap (λ ls. c.loop-line.yielded ++ ls) (sym c.in-Some.ensures.steps.0) ∙
    c.loop-line.invariant.rest in
    let has = line_has c.args.full.now c.args.to c.loop-line.yielded _ c.args.lines.items
    c.in-Some.line c.loop-line.place c.requires.sizes prefix c.loop-line.invariant.place in
    let is = line_is (stated_type c.args.full.now.roll.sig) c.loop-line.yielded _ c.args.lines.items
    c.in-Some.line c.requires.lines prefix in
    typed_place c.args.full.now.roll c.args.to c.loop-line.place has.0
    ∙ ap (λ (t : ElemType). Some t) (sym is.0)

pub fill_place-requires-clause-empty : goal.fill_place-requires-clause-empty
fill_place-requires-clause-empty c =
    let prefix = ap (λ ls. c.loop-line.yielded ++ ls) (sym c.in-Some.ensures.steps.0) ∙
    c.loop-line.invariant.rest in
    let is = line_is (stated_type c.args.full.now.roll.sig) c.loop-line.yielded _ c.args.lines.items
    c.in-Some.line c.requires.lines prefix in
    is.1

pub fill_place-requires-clause-room : goal.fill_place-requires-clause-room
fill_place-requires-clause-room c =
    let prefix = ap (λ ls. c.loop-line.yielded ++ ls) (sym c.in-Some.ensures.steps.0) ∙
    c.loop-line.invariant.rest in
    let has = line_has c.args.full.now c.args.to c.loop-line.yielded _ c.args.lines.items
    c.in-Some.line c.loop-line.place c.requires.sizes prefix c.loop-line.invariant.place in
    omega (arith, has.1)

pub push_reserved-requires : goal.push_reserved-requires
push_reserved-requires c =
    let mine = c.loop-line.blocks.ok in
    let all = c.args.lines.ok in
    let count = count_items (λ t. block_of (at_place c.args.full.now c.args.to t)) c.loop-line.place
    c.loop-line.blocks.items c.loop-line.invariant.blocks in
    let lines = lines_fill c.args.full.now c.args.to c.args.lines.items c.requires.sizes in
    let number = c.places-number.ensures in
    let less = c.if-prove.false in
    let space = c.requires.space in
    let kept = c.loop-line.invariant.space in
    omega arith

pub loop-line-preserved : goal.loop-line-preserved
loop-line-preserved c =
    let prefix = ap (λ ls. c.loop-line.yielded ++ ls) (sym c.in-Some.ensures.steps.0) ∙
    c.loop-line.invariant.rest in
    let block : ℕ → Block = λ t. block_of (at_place c.args.full.now c.args.to t) in
    record {
      place = (let before = c.loop-line.invariant.place in
          omega (arith, length-append c.loop-line.yielded (c.in-Some.line ∷ [])));
      rest =
          append_assoc c.loop-line.yielded (c.in-Some.line ∷ []) c.next.new.self.rest.items
          ∙ prefix;
      blocks = c.push_reserved.ensures.items
          ∙ ((λ i. c.loop-line.invariant.blocks i ++ c.fill_place.ensures i ∷ [])
          ∙ sym (map_more block c.loop-line.place));
      space = c.push_reserved.ensures.capacity ∙ c.loop-line.invariant.space;
    }

pub returns : goal.returns
returns c =
    let block : ℕ → Block = λ t. block_of (at_place c.args.full.now c.args.to t) in
    let total = ap length c.loop-line.invariant.rest in
    let split = length-append c.loop-line.yielded c.loop-line.line-iterator.rest.items in
    let left = c.loop-line.line-iterator.rest.ok in
    let none = c.in-None.ensures.steps.0 in
    let lines = lines_fill c.args.full.now c.args.to c.args.lines.items c.requires.sizes in
    let before = c.loop-line.invariant.place in
    let at : c.loop-line.place ≡ places c.args.full.now.roll c.args.to = omega arith in
    c.loop-line.invariant.blocks
    ∙ (ap (λ n. map block (below n)) at ∙ sym (value_is c.args.full.now c.args.to))
