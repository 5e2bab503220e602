-- The lists of a signature that has no fault are short.
use Rattle.std.proofs.Common.{◌≡◌, ℕ, ◌+◌, ◌≤◌, List, [], ◌∷◌, length, refl, arith, Bool, true}
use Rattle.std.proofs.Common.{false, not, ◌||◌, Option, Some, None, is_some, is_none, nat_le}
use Rattle.std.proofs.Common.{nat_lt, nat_eq, ⊎_elim}
use Rattle.std.proofs.lemmas.Bool.{eqb-true, le-leb, ltb-false, and_from, cases_Bool}
use Rattle.coll_pending.proofs.RowLemmas.{none_of}
use Rattle.mpi_elems.specs.declared.elem_type.ElemType.{ElemType}
use Rattle.mpi_group.specs.Groups.{ranks_fault}
use Rattle.mpi_group.proofs.MpiGroupLemmas.{no_fault, ranks_within, length_distinct}
use Rattle.mpi_cart.specs.declared.grid.TheConstants.{DIMENSION_LIMIT}
use Rattle.mpi_cart.specs.Faults.{first_fault, are_bad_dims}
use Rattle.mpi_cart.specs.Grids.{Topology}
use Rattle.coll_routes.specs.declared.signature.Signature.{Signature}
use Rattle.coll_routes.specs.declared.signature.Signature.TheVariants.{Barrier, Bcast, Gather}
use Rattle.coll_routes.specs.declared.signature.Signature.TheVariants.{Gatherv, Scatter, Scatterv}
use Rattle.coll_routes.specs.declared.signature.Signature.TheVariants.{Allgather, Allgatherv}
use Rattle.coll_routes.specs.declared.signature.Signature.TheVariants.{Alltoall, Alltoallv, Reduce}
use Rattle.coll_routes.specs.declared.signature.Signature.TheVariants.{Allreduce, ReduceScatter}
use Rattle.coll_routes.specs.declared.signature.Signature.TheVariants.{ReduceScatterBlock, Scan}
use Rattle.coll_routes.specs.declared.signature.Signature.TheVariants.{Exscan, NeighborAllgather}
use Rattle.coll_routes.specs.declared.signature.Signature.TheVariants.{NeighborAllgatherv}
use Rattle.coll_routes.specs.declared.signature.Signature.TheVariants.{NeighborAlltoall}
use Rattle.coll_routes.specs.declared.signature.Signature.TheVariants.{NeighborAlltoallv, Dup}
use Rattle.coll_routes.specs.declared.signature.Signature.TheVariants.{Split, Create, CartCreate}
use Rattle.coll_routes.specs.declared.signature.Signature.TheVariants.{CartSub}
use Rattle.coll_routes.specs.declared.statement.Own.{Own}
use Rattle.coll_routes.specs.declared.roll.Shape.{Shape}
use Rattle.coll_routes.specs.declared.fault.ShapeFault.{ShapeFault}
use Rattle.coll_routes.specs.declared.fault.ShapeFault.TheVariants.{NoTopology, BadRoot, BadOp}
use Rattle.coll_routes.specs.declared.fault.ShapeFault.TheVariants.{BadCount, BadColour}
use Rattle.coll_routes.specs.declared.fault.ShapeFault.TheVariants.{NotSubgroup, BadDims}
use Rattle.coll_routes.specs.Signatures.{numbers, flags, elem_type, count}
use Rattle.coll_routes.specs.Rolls.{slots, slots_in}
use Rattle.coll_routes.specs.Faults.{shape_fault, first_that, no_topology, bad_root, bad_op}
use Rattle.coll_routes.specs.Faults.{bad_count, bad_colour, not_subgroup, bad_dims, is_listed}
use Rattle.coll_routes.specs.Faults.{is_met, asked, gives, is_of_type, is_above_limit}
use Rattle.coll_routes.specs.Faults.{is_asked_above_limit, is_ill_kept}
use Rattle.coll_routes.proofs.CollRoutesLemmas.{count_is_good}
use Rattle.coll_pending.specs.Laws.{FaultlessSignaturesFit}
use Rattle.coll_pending.specs.Lists.{ListRoom, fits, room_by}
use Rattle.std.specs.Prelude.{unwrap_or}
use Rattle.std.specs.List.{list_all}

-- ## the tests of a post with no fault fail

others_of : (a b c d e f g : Bool) (p q r s t u v : ShapeFault) →
    first_that ((a, p) ∷ (b, q) ∷ (c, r) ∷ (d, s) ∷ (e, t) ∷ (f, u) ∷ (g, v) ∷ []) ≡ None →
    (a ≡ false) × (f ≡ false) × (g ≡ false)
others_of true b c d e f g p q r s t u v h = absurd (cc)
others_of false true c d e f g p q r s t u v h = absurd (cc)
others_of false false true d e f g p q r s t u v h = absurd (cc)
others_of false false false true e f g p q r s t u v h = absurd (cc)
others_of false false false false true f g p q r s t u v h = absurd (cc)
others_of false false false false false true g p q r s t u v h = absurd (cc)
others_of false false false false false false true p q r s t u v h = absurd (cc)
others_of false false false false false false false p q r s t u v h = (refl, refl, refl)

others_fail : (shape : Shape) (i : ℕ) (sig : Signature) (own : Own) (ty : ElemType) (given : ℕ) →
    shape_fault shape i sig own ty given ≡ None → (no_topology shape sig ≡ false)
    × (not_subgroup shape sig ≡ false) × (bad_dims shape sig ≡ false)
unfolding shape_fault
others_fail shape i sig own ty given h = others_of (no_topology shape sig) (bad_root shape sig)
    (bad_op sig) (bad_count shape i sig own ty given) (bad_colour own) (not_subgroup shape sig)
    (bad_dims shape sig) NoTopology BadRoot BadOp BadCount BadColour NotSubgroup BadDims h

fifth_of : (a b c d e f : Bool) → (not a || b || c || d || not e || not f) ≡ false → e ≡ true
fifth_of false b c d e f h = absurd (cc)
fifth_of true true c d e f h = absurd (cc)
fifth_of true false true d e f h = absurd (cc)
fifth_of true false false true e f h = absurd (cc)
fifth_of true false false false false f h = absurd (cc)
fifth_of true false false false true f h = refl

listed : (shape : Shape) (i : ℕ) (sig : Signature) (own : Own) (ty : ElemType) (given : ℕ) →
    bad_count shape i sig own ty given ≡ false → is_listed shape sig ≡ true
unfolding bad_count
listed shape i sig own ty given h = fifth_of (is_of_type (elem_type sig) ty) (is_above_limit given)
    (is_above_limit (unwrap_or (count sig) 0)) (is_asked_above_limit (asked shape sig))
    (is_listed shape sig) (is_met (asked shape sig) (gives sig i) own given) h

-- ## what they say of the lists

few_ranks : (size : ℕ) (ranks : List ℕ) → is_some (ranks_fault size ranks) ≡ false →
    length ranks ≤ size
few_ranks size ranks h =
    let good = no_fault size ranks (none_of (ranks_fault size ranks) h) in
    length_distinct ranks size good.1 (ranks_within size ranks good.0)

good_lengths : (a b c : Bool) → (not a || b || not c) ≡ false → (a ≡ true) × (b ≡ false)
good_lengths false b c h = absurd (cc)
good_lengths true true c h = absurd (cc)
good_lengths true false false h = absurd (cc)
good_lengths true false true h = (refl, refl)

good_dims : (dims : List ℕ) (periods : List Bool) (size : ℕ) →
    is_some (first_fault dims periods size) ≡ false → are_bad_dims dims periods ≡ false
good_dims dims periods size h = ⊎_elim
    (λ (t : are_bad_dims dims periods ≡ true). let no : true ≡ false = (rw t at h) in absurd (cc))
    (λ (f : are_bad_dims dims periods ≡ false). f)
    (cases_Bool (are_bad_dims dims periods))

few_dims : (dims : List ℕ) (periods : List Bool) (size : ℕ) →
    is_some (first_fault dims periods size) ≡ false →
    (length dims ≤ DIMENSION_LIMIT) × (length periods ≤ DIMENSION_LIMIT)
few_dims dims periods size h =
    let both = good_lengths (nat_eq (length dims) (length periods))
    (nat_lt DIMENSION_LIMIT (length dims)) (list_all (nat_lt 0) dims)
    (good_dims dims periods size h) in
    let same : length dims ≡ length periods = eqb-true (length dims) (length periods) both.0 in
    let few : length dims ≤ DIMENSION_LIMIT = ltb-false DIMENSION_LIMIT (length dims) both.1 in
    (few, omega (arith, same, few))

few_kept : (keep : List Bool) (grid : Option Topology) → is_none grid ≡ false →
    is_ill_kept keep grid ≡ false → length keep ≤ slots_in grid
few_kept keep None there h = absurd (cc)
few_kept keep (Some g) there h = ⊎_elim
    (λ (t : nat_eq (length keep) (length g.dims) ≡ true). let same : length keep ≡ length g.dims =
    eqb-true (length keep) (length g.dims) t in omega (arith, same))
    (λ (f : nat_eq (length keep) (length g.dims) ≡ false).
    let no : true ≡ false = (rw f at h) in absurd (cc))
    (cases_Bool (nat_eq (length keep) (length g.dims)))

enough : (room : ListRoom) (sig : Signature) → length (numbers sig) ≤ room.numbers →
    length (flags sig) ≤ room.flags → fits room sig ≡ true
enough room sig n f = and_from (nat_le (length (numbers sig)) room.numbers)
    (nat_le (length (flags sig)) room.flags) (le-leb (length (numbers sig)) room.numbers n)
    (le-leb (length (flags sig)) room.flags f)

few_numbers : (shape : Shape) (sig : Signature) → is_listed shape sig ≡ true →
    not_subgroup shape sig ≡ false → bad_dims shape sig ≡ false →
    length (numbers sig) ≤ shape.size + DIMENSION_LIMIT
unfolding is_listed not_subgroup bad_dims numbers
few_numbers shape (ReduceScatter op ty counts) l s d = let same : length counts ≡ shape.size =
    eqb-true (length counts) shape.size l in omega (arith, same)
few_numbers shape (Create ranks) l s d =
    let few = few_ranks shape.size ranks s in omega (arith, few)
few_numbers shape (CartCreate dims periods) l s d =
    let few = few_dims dims periods shape.size d in omega (arith, few.0)
few_numbers shape Barrier l s d = omega arith
few_numbers shape (Bcast r ty n) l s d = omega arith
few_numbers shape (Gather r ty n) l s d = omega arith
few_numbers shape (Gatherv r ty) l s d = omega arith
few_numbers shape (Scatter r ty n) l s d = omega arith
few_numbers shape (Scatterv r ty) l s d = omega arith
few_numbers shape (Allgather ty n) l s d = omega arith
few_numbers shape (Allgatherv ty) l s d = omega arith
few_numbers shape (Alltoall ty n) l s d = omega arith
few_numbers shape (Alltoallv ty) l s d = omega arith
few_numbers shape (Reduce r op ty n) l s d = omega arith
few_numbers shape (Allreduce op ty n) l s d = omega arith
few_numbers shape (ReduceScatterBlock op ty n) l s d = omega arith
few_numbers shape (Scan op ty n) l s d = omega arith
few_numbers shape (Exscan op ty n) l s d = omega arith
few_numbers shape (NeighborAllgather ty n) l s d = omega arith
few_numbers shape (NeighborAllgatherv ty) l s d = omega arith
few_numbers shape (NeighborAlltoall ty n) l s d = omega arith
few_numbers shape (NeighborAlltoallv ty) l s d = omega arith
few_numbers shape Dup l s d = omega arith
few_numbers shape Split l s d = omega arith
few_numbers shape (CartSub keep) l s d = omega arith

few_flags : (shape : Shape) (sig : Signature) → no_topology shape sig ≡ false →
    bad_dims shape sig ≡ false → length (flags sig) ≤ slots shape + DIMENSION_LIMIT
unfolding no_topology bad_dims flags
few_flags shape (CartCreate dims periods) t d =
    let few = few_dims dims periods shape.size d in omega (arith, few.1)
few_flags shape (CartSub keep) t d = let few = few_kept keep shape.grid t d in omega (arith, few)
few_flags shape Barrier t d = omega arith
few_flags shape (Bcast r ty n) t d = omega arith
few_flags shape (Gather r ty n) t d = omega arith
few_flags shape (Gatherv r ty) t d = omega arith
few_flags shape (Scatter r ty n) t d = omega arith
few_flags shape (Scatterv r ty) t d = omega arith
few_flags shape (Allgather ty n) t d = omega arith
few_flags shape (Allgatherv ty) t d = omega arith
few_flags shape (Alltoall ty n) t d = omega arith
few_flags shape (Alltoallv ty) t d = omega arith
few_flags shape (Reduce r op ty n) t d = omega arith
few_flags shape (Allreduce op ty n) t d = omega arith
few_flags shape (ReduceScatter op ty counts) t d = omega arith
few_flags shape (ReduceScatterBlock op ty n) t d = omega arith
few_flags shape (Scan op ty n) t d = omega arith
few_flags shape (Exscan op ty n) t d = omega arith
few_flags shape (NeighborAllgather ty n) t d = omega arith
few_flags shape (NeighborAllgatherv ty) t d = omega arith
few_flags shape (NeighborAlltoall ty n) t d = omega arith
few_flags shape (NeighborAlltoallv ty) t d = omega arith
few_flags shape Dup t d = omega arith
few_flags shape Split t d = omega arith
few_flags shape (Create ranks) t d = omega arith

pub faultless_signatures_fit : FaultlessSignaturesFit
faultless_signatures_fit shape rank sig own ty given none =
    let others = others_fail shape rank sig own ty given none in
    enough (room_by shape) sig
    (few_numbers shape sig
    (listed shape rank sig own ty given (count_is_good shape rank sig own ty given none))
    others.1 others.2)
    (few_flags shape sig others.0 others.2)
