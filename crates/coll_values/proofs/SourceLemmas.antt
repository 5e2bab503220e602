-- Where a block comes from, and what type it has.
use Rattle.std.proofs.Common.{◌≡◌, ℕ, zero, suc, ◌+◌, ◌<◌, ◌≤◌, List, [], ◌∷◌, ◌∙◌, ap, sym, refl}
use Rattle.std.proofs.Common.{arith, Bool, true, false, ◌&&◌, Option, Some, None, nat_eq}
use Rattle.std.proofs.Common.{nat_le, nat_lt, length, slice_range, flat_map, ⊎_elim, inl, inr}
use Rattle.std.specs.Prelude.{unwrap_or}
use Rattle.std.specs.List.{range_with_len}
use Rattle.std.proofs.lemmas.List.{append-nil}
use Rattle.std.specs.Prelude.{if◌then◌else◌}
use Rattle.std.proofs.lemmas.Bool.{eqb-true, eq-eqb, cases_Bool, cases_lt, not-false}
use Rattle.wall_labels.specs.declared.op.Op.{Op}
use Rattle.mpi_elems.specs.declared.elem_type.ElemType.{ElemType}
use Rattle.mpi_elems.specs.declared.elem_type.ElemType.TheVariants.{Int8}
use Rattle.mpi_elems.specs.Elements.{Element}
use Rattle.mpi_elems.specs.Contents.{Contents, elements}
use Rattle.mpi_elems.specs.Operations.{is_allowed}
use Rattle.coll_routes.specs.declared.signature.Signature.{Signature}
use Rattle.coll_routes.specs.declared.signature.Signature.TheVariants.{Barrier, Bcast, Gather}
use Rattle.coll_routes.specs.declared.signature.Signature.TheVariants.{Gatherv, Scatter, Scatterv}
use Rattle.coll_routes.specs.declared.signature.Signature.TheVariants.{Allgather, Allgatherv}
use Rattle.coll_routes.specs.declared.signature.Signature.TheVariants.{Alltoall, Alltoallv, Reduce}
use Rattle.coll_routes.specs.declared.signature.Signature.TheVariants.{Allreduce, ReduceScatter}
use Rattle.coll_routes.specs.declared.signature.Signature.TheVariants.{ReduceScatterBlock, Scan}
use Rattle.coll_routes.specs.declared.signature.Signature.TheVariants.{Exscan, NeighborAllgather}
use Rattle.coll_routes.specs.declared.signature.Signature.TheVariants.{NeighborAllgatherv}
use Rattle.coll_routes.specs.declared.signature.Signature.TheVariants.{NeighborAlltoall}
use Rattle.coll_routes.specs.declared.signature.Signature.TheVariants.{NeighborAlltoallv, Dup}
use Rattle.coll_routes.specs.declared.signature.Signature.TheVariants.{Split, Create, CartCreate}
use Rattle.coll_routes.specs.declared.signature.Signature.TheVariants.{CartSub}
use Rattle.coll_routes.specs.declared.roll.Shape.{Shape}
use Rattle.coll_routes.specs.declared.roll.Roll.{Roll}
use Rattle.coll_routes.specs.declared.statement.Own.{Own}
use Rattle.coll_routes.specs.declared.fault.ShapeFault.{ShapeFault}
use Rattle.coll_routes.specs.declared.fault.ShapeFault.TheVariants.{NoTopology, BadRoot, BadOp}
use Rattle.coll_routes.specs.declared.fault.ShapeFault.TheVariants.{BadCount, BadColour}
use Rattle.coll_routes.specs.declared.fault.ShapeFault.TheVariants.{NotSubgroup, BadDims}
use Rattle.coll_routes.specs.Signatures.{reduction, elem_type}
use Rattle.coll_routes.specs.Faults.{shape_fault, first_that, bad_count, bad_root, bad_op}
use Rattle.coll_routes.specs.Faults.{bad_colour, not_subgroup, bad_dims, no_topology, is_refused}
use Rattle.coll_routes.specs.Faults.{stated_type}
use Rattle.coll_routes.specs.Fit.{IsFit}
use Rattle.coll_routes.proofs.CollRoutesLemmas.{no_fault, stated_there}
use Rattle.coll_routes.specs.Rolls.{places_by, stated_by, given, goes, places, is_missing}
use Rattle.coll_routes.specs.declared.lane.Source.{Source}
use Rattle.coll_routes.specs.Senders.{comes}
use Rattle.coll_values.specs.declared.full.Full.{Full}
use Rattle.coll_values.specs.Instances.{elements_in, IsWhole}
use Rattle.coll_values.specs.Rooms.{size_of}
use Rattle.coll_values.specs.Stretches.{elements_from}
use Rattle.coll_values.specs.Values.{sent, copied, block_by}
use Rattle.coll_values.proofs.RoomLemmas.{at_place}
use Rattle.coll_values.proofs.SentLemmas.{all_sent, none_sent, its_part, part_has, length_range}

-- a kind without a type gives no block
pub no_place : (sig : Signature) (shape : Shape) (j : ℕ) → elem_type sig ≡ None →
    places_by sig shape j ≡ 0
unfolding elem_type places_by
no_place (Bcast r ty n) shape j e = absurd (cc)
no_place (Gather r ty n) shape j e = absurd (cc)
no_place (Gatherv r ty) shape j e = absurd (cc)
no_place (Scatter r ty n) shape j e = absurd (cc)
no_place (Scatterv r ty) shape j e = absurd (cc)
no_place (Allgather ty n) shape j e = absurd (cc)
no_place (Allgatherv ty) shape j e = absurd (cc)
no_place (Alltoall ty n) shape j e = absurd (cc)
no_place (Alltoallv ty) shape j e = absurd (cc)
no_place (Reduce r op ty n) shape j e = absurd (cc)
no_place (Allreduce op ty n) shape j e = absurd (cc)
no_place (ReduceScatter op ty sizes) shape j e = absurd (cc)
no_place (ReduceScatterBlock op ty n) shape j e = absurd (cc)
no_place (Scan op ty n) shape j e = absurd (cc)
no_place (Exscan op ty n) shape j e = absurd (cc)
no_place (NeighborAllgather ty n) shape j e = absurd (cc)
no_place (NeighborAllgatherv ty) shape j e = absurd (cc)
no_place (NeighborAlltoall ty n) shape j e = absurd (cc)
no_place (NeighborAlltoallv ty) shape j e = absurd (cc)
no_place other shape j e = refl

-- a kind that reduces has a type
typed_op : (sig : Signature) (op : Op) → reduction sig ≡ Some op →
    (ty : ElemType) × (elem_type sig ≡ Some ty)
unfolding reduction elem_type
typed_op Barrier o e = absurd (cc)
typed_op (Bcast r ty n) o e = absurd (cc)
typed_op (Gather r ty n) o e = absurd (cc)
typed_op (Gatherv r ty) o e = absurd (cc)
typed_op (Scatter r ty n) o e = absurd (cc)
typed_op (Scatterv r ty) o e = absurd (cc)
typed_op (Allgather ty n) o e = absurd (cc)
typed_op (Allgatherv ty) o e = absurd (cc)
typed_op (Alltoall ty n) o e = absurd (cc)
typed_op (Alltoallv ty) o e = absurd (cc)
typed_op (Reduce r op ty n) o e = (ty, refl)
typed_op (Allreduce op ty n) o e = (ty, refl)
typed_op (ReduceScatter op ty sizes) o e = (ty, refl)
typed_op (ReduceScatterBlock op ty n) o e = (ty, refl)
typed_op (Scan op ty n) o e = (ty, refl)
typed_op (Exscan op ty n) o e = (ty, refl)
typed_op (NeighborAllgather ty n) o e = absurd (cc)
typed_op (NeighborAllgatherv ty) o e = absurd (cc)
typed_op (NeighborAlltoall ty n) o e = absurd (cc)
typed_op (NeighborAlltoallv ty) o e = absurd (cc)
typed_op Dup o e = absurd (cc)
typed_op Split o e = absurd (cc)
typed_op (Create ranks) o e = absurd (cc)
typed_op (CartCreate dims periods) o e = absurd (cc)
typed_op (CartSub keep) o e = absurd (cc)

-- a kind that has a place has a type
typed_by : (o : Option ElemType) (n t : ℕ) → (o ≡ None → n ≡ 0) → t < n →
    o ≡ Some (unwrap_or o Int8)
typed_by (Some ty) n t h l = refl
typed_by None n t h l = let none = h refl in absurd (omega arith)

pub typed_place : (roll : Roll) (j t : ℕ) → t < places roll j →
    elem_type roll.sig ≡ Some (stated_type roll.sig)
typed_place roll j t h =
    typed_by (elem_type roll.sig) (places roll j) t (no_place roll.sig roll.shape j) h

-- an operation that reduces is allowed on the type
third_of : (z a b c d e f : Bool) (y p q r s t u : ShapeFault) →
    first_that ((z, y) ∷ (a, p) ∷ (b, q) ∷ (c, r) ∷ (d, s) ∷ (e, t) ∷ (f, u) ∷ []) ≡ None →
    b ≡ false
third_of true a b c d e f y p q r s t u h = absurd (cc)
third_of false true b c d e f y p q r s t u h = absurd (cc)
third_of false false true c d e f y p q r s t u h = absurd (cc)
third_of false false false c d e f y p q r s t u h = refl

good_op : (shape : Shape) (i : ℕ) (sig : Signature) (own : Own) (ty : ElemType) (given : ℕ) →
    shape_fault shape i sig own ty given ≡ None → bad_op sig ≡ false
unfolding shape_fault
good_op shape i sig own ty given h = third_of (no_topology shape sig) (bad_root shape sig)
    (bad_op sig) (bad_count shape i sig own ty given) (bad_colour own) (not_subgroup shape sig)
    (bad_dims shape sig) NoTopology BadRoot BadOp BadCount BadColour NotSubgroup BadDims h

not_refused : (op : Op) (ty : ElemType) (a : Option Op) (b : Option ElemType) → a ≡ Some op →
    b ≡ Some ty → is_refused a b ≡ false → is_allowed op ty ≡ true
not_refused op ty a b e f h = not-false (is_allowed op ty) (sym (λ k. is_refused (e k) (f k)) ∙ h)

pub allowed : (roll : Roll) (j : ℕ) (op : Op) (ty : ElemType) → IsFit roll → j < roll.shape.size →
    reduction roll.sig ≡ Some op → elem_type roll.sig ≡ Some ty → is_allowed op ty ≡ true
allowed roll j op ty fit h reduces typed =
    let s = stated_there (stated_by roll j) (fit.full j h) in
    not_refused op ty (reduction roll.sig) (elem_type roll.sig) reduces typed
    (good_op roll.shape j roll.sig s.0.own (stated_type roll.sig) s.0.given
    (no_fault roll j s.0 fit s.1))

-- ## copies

-- only one row has elements
flat_past : (rows : ℕ → List Element) (a n : ℕ) →
    ((i : ℕ) → a ≤ i → i < a + n → rows i ≡ []) → flat_map rows (range_with_len a n) ≡ []
flat_past rows a zero h = refl
flat_past rows a (suc n) h = rw (h a (omega arith) (omega arith))
    (flat_past rows (a + 1) n (λ i low high. h i (omega arith) (omega arith)))

flat_only : (rows : ℕ → List Element) (a n s : ℕ) →
    ((i : ℕ) → i < a + n → (i ≡ s → ⊥) → rows i ≡ []) → a ≤ s → s < a + n →
    flat_map rows (range_with_len a n) ≡ rows s
flat_only rows a zero s h low high = absurd (omega arith)
flat_only rows a (suc n) s h low high =
    elim (cases_lt a s) as (λ _. flat_map rows (range_with_len a (suc n)) ≡ rows s) [
      | inl before
          ↦ rw (h a (omega arith) (λ same. omega arith))
          (flat_only rows (a + 1) n s (λ i inside. h i (omega arith)) (omega arith) (omega arith))
      | inr here
          ↦ (let same : a ≡ s = omega arith in
          rw (flat_past rows (a + 1) n
          (λ i past inside. h i (omega arith) (λ is. omega arith)))
          (append-nil (rows a) ∙ ap rows same))
    ]

-- the block at a place comes from its source
module _ (F : Full Contents) (j t : ℕ) (copies : reduction F.roll.sig ≡ None) where
  abbrev its_block : Bool → Option (List Element)
  its_block missing =
      if missing then None else Some (copied F.roll (λ i t. sent F i j t) t)

  block_is : at_place F j t ≡ its_block (is_missing F.roll j t)
  block_is = ap (λ o. block_by o F.roll (λ i t. sent F i j t) j t) copies

  pub none_there : true ≡ is_missing F.roll j t → at_place F j t ≡ None
  none_there e = block_is ∙ ap its_block (sym e)

  module _ (s : Source) (whole : IsWhole F) (low : s.from < F.roll.shape.size)
      (from : (i x : ℕ) → i < F.roll.shape.size → x < given F.roll i →
      comes (Some s) i x ≡ goes F.roll i x j t)
      (within : s.piece.start + s.piece.len ≤ given F.roll s.from) where
    elsewhere : (i : ℕ) → i < F.roll.shape.size → (i ≡ s.from → ⊥) → sent F i j t ≡ []
    elsewhere i inside differs = none_sent F i j t whole inside (λ x h. ⊎_elim
        (λ same. absurd (differs (sym (eqb-true s.from i same))))
        (λ no. ap (λ b. b && (nat_le s.piece.start x && nat_lt x (s.piece.start + s.piece.len)))
        (sym no) ∙ from i x inside h)
        (cases_Bool (nat_eq s.from i)))

    copied_is : elements_from F s ≡ copied F.roll (λ i t. sent F i j t) t
    copied_is =
        all_sent F s.from j t whole low s.piece.start s.piece.len
        (λ x h. ap (λ b. b && (nat_le s.piece.start x && nat_lt x (s.piece.start + s.piece.len)))
        (sym (eq-eqb s.from s.from refl)) ∙ from s.from x low h)
        ∙ sym (flat_only (λ i. sent F i j t) 0 F.roll.shape.size s.from
        (λ i inside differs. elsewhere i (omega arith) differs) (omega arith) (omega arith))

    pub some_there : false ≡ is_missing F.roll j t → at_place F j t ≡ Some (elements_from F s)
    some_there e = block_is ∙ (ap its_block (sym e)
        ∙ ap (λ (es : List Element). Some es) (sym copied_is))

    pub size_there : false ≡ is_missing F.roll j t → s.piece.len ≡ size_of (at_place F j t)
    size_there e =
        let p = its_part F s.from j t whole low in
        let long = part_has F s.from p.0 whole p.1 in
        sym (length_range (elements p.0) s.piece.start s.piece.len (omega arith))
        ∙ (ap (λ o. length (slice_range (elements_in o) s.piece.start
        (s.piece.start + s.piece.len))) (sym p.1)
        ∙ ap size_of (sym (some_there e)))
