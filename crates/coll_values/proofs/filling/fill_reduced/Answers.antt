use Rattle.std.proofs.Common.{◌≡◌, ◌<◌, ◌∙◌, ap, sym, refl, arith, Some}
use Rattle.mpi_elems.specs.declared.elem_type.ElemType.{ElemType}
use Rattle.mpi_elems.specs.Elements.{combine}
use Rattle.mpi_elems.specs.Lists.{merged}
use Rattle.mpi_elems.specs.Contents.{elements}
use Rattle.coll_values.specs.Values.{sent}
use Rattle.coll_values.proofs.FoldLemmas.{fold_none, fold_more, broadest_bounds, reduced_is}
use Rattle.coll_values.proofs.NumberLemmas.{no_elements, no_numbers, numbers_are}
use Rattle.coll_values.proofs.RowLemmas.{row_covers, fold_over_all}
use Rattle.coll_values.proofs.SentLemmas.{type_of, piece_within, piece_length, sent_some}
use Rattle.coll_values.proofs.SourceLemmas.{allowed}
use Rattle.coll_values.proofs.filling.fill_reduced.Goals as goal

pub loop-from-init : goal.loop-from-init
loop-from-init c = record {
  kind = refl;
  folds = fold_none (combine c.args.op c.args.line.now.elem_type)
      (λ i. sent c.args.full.now i c.args.to 0) (elements c.args.line.now)
      (no_elements c.args.line.now c.requires.empty);
  room = omega arith;
  fit = no_numbers c.args.line.now c.requires.empty;
}

pub merge_range-requires-clause-one_type : goal.merge_range-requires-clause-one_type
merge_range-requires-clause-one_type c =
    type_of c.args.full.now c.loop-from.from c.get-part.result.now c.loop-from.line.elem_type
    c.requires.whole c.get-part.ensures (c.requires.one_type
    ∙ ap (λ (t : ElemType). Some t) (sym c.loop-from.invariant.kind))

pub merge_range-requires-clause-within : goal.merge_range-requires-clause-within
merge_range-requires-clause-within c =
    let ranks = c.gathered-row.ensures.ranks in
    let low = c.loop-from-test.true in
    piece_within c.args.full.now c.loop-from.from c.args.to 0 c.get-part.result.now c.requires.whole
    c.get-part.ensures _ _ (c.gathered-row.ensures.within c.loop-from.from (omega arith))

pub merge_range-requires-clause-room : goal.merge_range-requires-clause-room
merge_range-requires-clause-room c =
    let ranks = c.gathered-row.ensures.ranks in
    let low = c.loop-from-test.true in
    let inside : c.loop-from.from < c.args.full.now.roll.shape.size = omega arith in
    let bound =
    broadest_bounds c.args.full.now.roll.shape.size (λ i. sent c.args.full.now i c.args.to 0)
    c.loop-from.from inside in
    let long =
    piece_length c.args.full.now c.loop-from.from c.args.to 0 c.get-part.result.now
    c.requires.whole c.get-part.ensures _ _
    (c.gathered-row.ensures.within c.loop-from.from inside)
    (row_covers c.args.full.now c.args.to _ _ _ c.requires.whole c.gathered-row.ensures.senders
    c.loop-from.from inside low) in
    let kept = c.loop-from.invariant.room in
    let enough = c.requires.room in
    omega arith

pub merge_range-requires-clause-allowed : goal.merge_range-requires-clause-allowed
merge_range-requires-clause-allowed c =
    allowed c.args.full.now.roll c.args.to c.args.op c.loop-from.line.elem_type
    c.requires.whole.roll c.requires.rank c.requires.reduces (c.requires.one_type
    ∙ ap (λ (t : ElemType). Some t) (sym c.loop-from.invariant.kind))

pub loop-from-preserved : goal.loop-from-preserved
loop-from-preserved c =
    let kind = c.loop-from.invariant.kind in
    let ranks = c.gathered-row.ensures.ranks in
    let low = c.loop-from-test.true in
    let inside : c.loop-from.from < c.args.full.now.roll.shape.size = omega arith in
    let sends =
    sent_some c.args.full.now c.loop-from.from c.args.to 0 c.get-part.result.now
    c.requires.whole c.get-part.ensures _ _
    (row_covers c.args.full.now c.args.to _ _ _ c.requires.whole c.gathered-row.ensures.senders
    c.loop-from.from inside low) in
    record {
      kind = c.merge_range.ensures.kind ∙ kind;
      folds = fold_more (combine c.args.op c.args.line.now.elem_type) c.loop-from.from
          (λ i. sent c.args.full.now i c.args.to 0) (elements c.loop-from.line) _
          c.loop-from.invariant.folds
          (c.merge_range.ensures.elements
          ∙ (λ k. merged (combine c.args.op (kind k)) (elements c.loop-from.line) (sends k)));
      room = (let before = c.loop-from.invariant.room in let after =
          c.merge_range.ensures.room in omega arith);
      fit = c.merge_range.ensures.fit;
    }

pub returns : goal.returns
returns c =
    let ranks = c.gathered-row.ensures.ranks in
    let at : c.loop-from.from ≡ c.gathered-row.result.until = omega arith in
    numbers_are c.loop-from.line _ c.loop-from.invariant.fit
    (reduced_is c.args.op c.args.full.now.roll (λ i t. sent c.args.full.now i c.args.to t)
    c.args.line.now.elem_type (elements c.loop-from.line) c.requires.one_type
    (fold_over_all c.args.full.now c.args.to _ _ _ c.requires.whole
    c.gathered-row.ensures.senders (combine c.args.op c.args.line.now.elem_type)
    (elements c.loop-from.line) ranks (rw at at c.loop-from.invariant.folds)))
