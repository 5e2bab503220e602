-- What a post must look like by itself: the refusals that look at no other post.
use Rattle.std.specs.Prelude.{ℕ, List, [], ◌∷◌, Bool, true, false, not, ◌&&◌, ◌||◌, ◌==◌, ◌*◌}
use Rattle.std.specs.Prelude.{length, Option, Some, None, nat_lt, nat_le, if◌then◌else◌, sum, pos}
use Rattle.std.specs.Prelude.{int_lt, is_some, is_none, unwrap_or}
use Rattle.wall_labels.specs.declared.op.Op.{Op}
use Rattle.mpi_elems.specs.declared.elem_type.ElemType.{ElemType}
use Rattle.mpi_elems.specs.declared.elem_type.ElemType.TheVariants.{Int8}
use Rattle.mpi_elems.specs.Operations.{is_allowed}
use Rattle.mpi_elems.specs.Types.{type_number}
use Rattle.mpi_group.specs.Groups.{ranks_fault}
use Rattle.mpi_cart.specs.Faults.{first_fault, keep_fault}
use Rattle.mpi_cart.specs.Grids.{Topology}
use Rattle.coll_routes.specs.declared.signature.Signature.{Signature}
use Rattle.coll_routes.specs.declared.signature.Signature.TheVariants.{Bcast, Gather, Gatherv}
use Rattle.coll_routes.specs.declared.signature.Signature.TheVariants.{Scatter, Scatterv, Allgather}
use Rattle.coll_routes.specs.declared.signature.Signature.TheVariants.{Allgatherv, Alltoall}
use Rattle.coll_routes.specs.declared.signature.Signature.TheVariants.{Alltoallv, Reduce, Allreduce}
use Rattle.coll_routes.specs.declared.signature.Signature.TheVariants.{ReduceScatter}
use Rattle.coll_routes.specs.declared.signature.Signature.TheVariants.{ReduceScatterBlock, Scan}
use Rattle.coll_routes.specs.declared.signature.Signature.TheVariants.{Exscan, NeighborAllgather}
use Rattle.coll_routes.specs.declared.signature.Signature.TheVariants.{NeighborAllgatherv}
use Rattle.coll_routes.specs.declared.signature.Signature.TheVariants.{NeighborAlltoall}
use Rattle.coll_routes.specs.declared.signature.Signature.TheVariants.{NeighborAlltoallv, Split}
use Rattle.coll_routes.specs.declared.signature.Signature.TheVariants.{Create, CartCreate, CartSub}
use Rattle.coll_routes.specs.declared.statement.Own.{Own}
use Rattle.coll_routes.specs.declared.statement.Own.TheVariants.{Plain, Counts, Split as SplitBy}
use Rattle.coll_routes.specs.declared.statement.Stated.{Stated}
use Rattle.coll_routes.specs.declared.roll.Shape.{Shape}
use Rattle.coll_routes.specs.declared.fault.ShapeFault.{ShapeFault}
use Rattle.coll_routes.specs.declared.fault.ShapeFault.TheVariants.{NoTopology, BadRoot, BadOp}
use Rattle.coll_routes.specs.declared.fault.ShapeFault.TheVariants.{BadCount, BadColour}
use Rattle.coll_routes.specs.declared.fault.ShapeFault.TheVariants.{NotSubgroup, BadDims}
use Rattle.coll_routes.specs.declared.fault.Asked.{Asked}
use Rattle.coll_routes.specs.declared.fault.Asked.TheVariants.{Exactly, AnyNumber, SumOfCounts}
use Rattle.coll_routes.specs.declared.fault.Asked.TheVariants.{ColourAndKey}
use Rattle.coll_routes.specs.Signatures.{root, reduction, elem_type, count, is_neighbourly}
use Rattle.coll_routes.specs.Rolls.{slots}

-- ## what a kind asks of those that give elements

-- how many elements, and what each states for itself alone (MPI 4.1, chapter 6 and section 8.6)
unfoldable pub asked : Shape → Signature → Asked
asked shape (Bcast r ty n) = Exactly n
asked shape (Gather r ty n) = Exactly n
asked shape (Gatherv r ty) = AnyNumber
asked shape (Scatter r ty n) = Exactly (shape.size * n)
asked shape (Scatterv r ty) = SumOfCounts shape.size
asked shape (Allgather ty n) = Exactly n
asked shape (Allgatherv ty) = AnyNumber
asked shape (Alltoall ty n) = Exactly (shape.size * n)
asked shape (Alltoallv ty) = SumOfCounts shape.size
asked shape (Reduce r op ty n) = Exactly n
asked shape (Allreduce op ty n) = Exactly n
asked shape (ReduceScatter op ty counts) = Exactly (sum counts)
asked shape (ReduceScatterBlock op ty n) = Exactly (shape.size * n)
asked shape (Scan op ty n) = Exactly n
asked shape (Exscan op ty n) = Exactly n
asked shape (NeighborAllgather ty n) = Exactly n
asked shape (NeighborAllgatherv ty) = AnyNumber
asked shape (NeighborAlltoall ty n) = Exactly (slots shape * n)
asked shape (NeighborAlltoallv ty) = SumOfCounts (slots shape)
asked shape Split = ColourAndKey
asked shape _ = Exactly 0

-- the rank gives elements: of a broadcast and of the scatters the root alone does
unfoldable pub gives : Signature → ℕ → Bool
gives (Bcast r ty n) rank = rank == r
gives (Scatter r ty n) rank = rank == r
gives (Scatterv r ty) rank = rank == r
gives _ rank = true

-- what a rank states for itself, and how many elements it gives, are as asked; who gives none
-- states no counts
abbrev pub is_met : Asked → Bool → Own → ℕ → Bool
is_met (Exactly n) giving Plain given = given == (if giving then n else 0)
is_met AnyNumber giving Plain given = true
is_met (SumOfCounts n) giving (Counts counts) given =
    length counts == (if giving then n else 0) && given == sum counts
is_met ColourAndKey giving (SplitBy colour key) given = given == 0
is_met _ giving _ given = false

-- ## the refusals, in their order

-- a kind between neighbours, or a part of a grid, where there is no grid
unfoldable pub no_topology : Shape → Signature → Bool
no_topology shape (CartSub keep) = is_none shape.grid
no_topology shape sig = is_neighbourly sig && is_none shape.grid

abbrev pub is_past : ℕ → Option ℕ → Bool
is_past size (Some r) = nat_le size r
is_past size None = false

-- the root is no rank
abbrev pub bad_root : Shape → Signature → Bool
bad_root shape sig = is_past shape.size (root sig)

abbrev pub is_refused : Option Op → Option ElemType → Bool
is_refused (Some op) (Some ty) = not (is_allowed op ty)
is_refused _ _ = false

-- the operation isn't allowed on the type (6.9.2, 6.9.4)
abbrev pub bad_op : Signature → Bool
bad_op sig = is_refused (reduction sig) (elem_type sig)

-- the elements are of the type asked; where none is asked, any type will do
abbrev pub is_of_type : Option ElemType → ElemType → Bool
is_of_type (Some t) ty = type_number t == type_number ty
is_of_type None ty = true

-- the most elements that a post may give (own rule)
abbrev pub elements_limit : ℕ
elements_limit = 65536

abbrev pub is_above_limit : ℕ → Bool
is_above_limit n = nat_lt elements_limit n

-- the signature makes some rank give so many
abbrev pub is_asked_above_limit : Asked → Bool
is_asked_above_limit (Exactly n) = is_above_limit n
is_asked_above_limit _ = false

-- a reduce_scatter has one count for each rank (6.10.2)
unfoldable pub is_listed : Shape → Signature → Bool
is_listed shape (ReduceScatter op ty counts) = length counts == shape.size
is_listed shape _ = true

-- the elements are of another type; they, a block, or what some rank must give are above the limit;
-- or the counts or the elements aren't what the kind asks
unfoldable pub bad_count : Shape → (rank : ℕ) → Signature → Own → ElemType → (given : ℕ) → Bool
bad_count shape rank sig own ty given =
    not (is_of_type (elem_type sig) ty)
    || is_above_limit given
    || is_above_limit (unwrap_or (count sig) 0)
    || is_asked_above_limit (asked shape sig)
    || not (is_listed shape sig)
    || not (is_met (asked shape sig) (gives sig rank) own given)

-- a negative colour (7.4.2)
abbrev pub bad_colour : Own → Bool
bad_colour (SplitBy (Some colour) key) = int_lt colour (pos 0)
bad_colour _ = false

-- a rank of the new group is no rank, or stands there twice (7.3.2)
unfoldable pub not_subgroup : Shape → Signature → Bool
not_subgroup shape (Create ranks) = is_some (ranks_fault shape.size ranks)
not_subgroup shape _ = false

abbrev pub is_ill_kept : List Bool → Option Topology → Bool
is_ill_kept keep (Some g) = is_some (keep_fault keep g.dims)
is_ill_kept keep None = false

-- no grid of the group has these dimensions (8.5.1), or the list doesn't say of each dimension
-- whether to keep it (8.5.7)
unfoldable pub bad_dims : Shape → Signature → Bool
bad_dims shape (CartCreate dims periods) = is_some (first_fault dims periods shape.size)
bad_dims shape (CartSub keep) = is_ill_kept keep shape.grid
bad_dims shape _ = false

-- the first fault whose test holds
abbrev pub first_that : List (Bool × ShapeFault) → Option ShapeFault
first_that [] = None
first_that ((test, fault) ∷ rest) = if test then Some fault else first_that rest

-- the first refusal that holds of a post of a rank, which gives so many elements of this type
unfoldable pub shape_fault : Shape → (rank : ℕ) → Signature → Own → ElemType → (given : ℕ) →
    Option ShapeFault
shape_fault shape rank sig own ty given = first_that (
    (no_topology shape sig, NoTopology)
    ∷ (bad_root shape sig, BadRoot)
    ∷ (bad_op sig, BadOp)
    ∷ (bad_count shape rank sig own ty given, BadCount)
    ∷ (bad_colour own, BadColour)
    ∷ (not_subgroup shape sig, NotSubgroup)
    ∷ (bad_dims shape sig, BadDims)
    ∷ [])

-- the type of the elements of a statement: the signature's, or int8 for a kind that has none (own
-- rule)
abbrev pub stated_type : Signature → ElemType
stated_type sig = unwrap_or (elem_type sig) Int8

-- the first refusal that holds of a statement of a rank
abbrev pub stated_fault : Shape → (rank : ℕ) → Stated → Option ShapeFault
stated_fault shape rank s = shape_fault shape rank s.sig s.own (stated_type s.sig) s.given
