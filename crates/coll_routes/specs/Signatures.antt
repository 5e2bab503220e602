-- What all members of an instance state alike: a kind with its fields. (The arguments that MPI 4.1
-- wants to match, chapters 6 to 8.)
use Rattle.std.specs.Prelude.{ℕ, List, [], ◌∷◌, Bool, true, false, ◌&&◌, ◌==◌, Option, Some, None}
use Rattle.std.specs.Prelude.{unwrap_or}
use Rattle.std.specs.Str.{bytes_eq}
use Rattle.wall_labels.specs.declared.op.Op.{Op}
use Rattle.wall_labels.specs.declared.op.Op.TheVariants.{Max}
use Rattle.wall_labels.specs.Ops.{op_number}
use Rattle.mpi_elems.specs.declared.elem_type.ElemType.{ElemType}
use Rattle.mpi_elems.specs.declared.elem_type.ElemType.TheVariants.{Int8}
use Rattle.mpi_elems.specs.Types.{type_number}
use Rattle.coll_routes.specs.declared.kind.Kind.{Kind}
use Rattle.coll_routes.specs.declared.kind.Kind.TheVariants as kinds
use Rattle.coll_routes.specs.declared.signature.Signature.{Signature}
use Rattle.coll_routes.specs.declared.signature.Signature.TheVariants.{Barrier, Bcast, Gather}
use Rattle.coll_routes.specs.declared.signature.Signature.TheVariants.{Gatherv, Scatter, Scatterv}
use Rattle.coll_routes.specs.declared.signature.Signature.TheVariants.{Allgather, Allgatherv}
use Rattle.coll_routes.specs.declared.signature.Signature.TheVariants.{Alltoall, Alltoallv, Reduce}
use Rattle.coll_routes.specs.declared.signature.Signature.TheVariants.{Allreduce, ReduceScatter}
use Rattle.coll_routes.specs.declared.signature.Signature.TheVariants.{ReduceScatterBlock, Scan}
use Rattle.coll_routes.specs.declared.signature.Signature.TheVariants.{Exscan, NeighborAllgather}
use Rattle.coll_routes.specs.declared.signature.Signature.TheVariants.{NeighborAllgatherv}
use Rattle.coll_routes.specs.declared.signature.Signature.TheVariants.{NeighborAlltoall}
use Rattle.coll_routes.specs.declared.signature.Signature.TheVariants.{NeighborAlltoallv, Dup}
use Rattle.coll_routes.specs.declared.signature.Signature.TheVariants.{Split, Create, CartCreate}
use Rattle.coll_routes.specs.declared.signature.Signature.TheVariants.{CartSub}
use Rattle.coll_routes.specs.declared.fields.Fields.{Fields}
use Rattle.coll_routes.specs.Kinds.{kind_number}

unfoldable pub kind : Signature → Kind
kind Barrier = kinds.Barrier
kind (Bcast r ty n) = kinds.Bcast
kind (Gather r ty n) = kinds.Gather
kind (Gatherv r ty) = kinds.Gatherv
kind (Scatter r ty n) = kinds.Scatter
kind (Scatterv r ty) = kinds.Scatterv
kind (Allgather ty n) = kinds.Allgather
kind (Allgatherv ty) = kinds.Allgatherv
kind (Alltoall ty n) = kinds.Alltoall
kind (Alltoallv ty) = kinds.Alltoallv
kind (Reduce r op ty n) = kinds.Reduce
kind (Allreduce op ty n) = kinds.Allreduce
kind (ReduceScatter op ty counts) = kinds.ReduceScatter
kind (ReduceScatterBlock op ty n) = kinds.ReduceScatterBlock
kind (Scan op ty n) = kinds.Scan
kind (Exscan op ty n) = kinds.Exscan
kind (NeighborAllgather ty n) = kinds.NeighborAllgather
kind (NeighborAllgatherv ty) = kinds.NeighborAllgatherv
kind (NeighborAlltoall ty n) = kinds.NeighborAlltoall
kind (NeighborAlltoallv ty) = kinds.NeighborAlltoallv
kind Dup = kinds.Dup
kind Split = kinds.Split
kind (Create ranks) = kinds.Create
kind (CartCreate dims periods) = kinds.CartCreate
kind (CartSub keep) = kinds.CartSub

-- the rank that gives to all others, or gets from all
unfoldable pub root : Signature → Option ℕ
root (Bcast r ty n) = Some r
root (Gather r ty n) = Some r
root (Gatherv r ty) = Some r
root (Scatter r ty n) = Some r
root (Scatterv r ty) = Some r
root (Reduce r op ty n) = Some r
root _ = None

-- the operation of a kind that reduces (6.9 to 6.11)
unfoldable pub reduction : Signature → Option Op
reduction (Reduce r op ty n) = Some op
reduction (Allreduce op ty n) = Some op
reduction (ReduceScatter op ty counts) = Some op
reduction (ReduceScatterBlock op ty n) = Some op
reduction (Scan op ty n) = Some op
reduction (Exscan op ty n) = Some op
reduction _ = None

-- the type of the elements; a barrier and the constructors have none
unfoldable pub elem_type : Signature → Option ElemType
elem_type (Bcast r ty n) = Some ty
elem_type (Gather r ty n) = Some ty
elem_type (Gatherv r ty) = Some ty
elem_type (Scatter r ty n) = Some ty
elem_type (Scatterv r ty) = Some ty
elem_type (Allgather ty n) = Some ty
elem_type (Allgatherv ty) = Some ty
elem_type (Alltoall ty n) = Some ty
elem_type (Alltoallv ty) = Some ty
elem_type (Reduce r op ty n) = Some ty
elem_type (Allreduce op ty n) = Some ty
elem_type (ReduceScatter op ty counts) = Some ty
elem_type (ReduceScatterBlock op ty n) = Some ty
elem_type (Scan op ty n) = Some ty
elem_type (Exscan op ty n) = Some ty
elem_type (NeighborAllgather ty n) = Some ty
elem_type (NeighborAllgatherv ty) = Some ty
elem_type (NeighborAlltoall ty n) = Some ty
elem_type (NeighborAlltoallv ty) = Some ty
elem_type _ = None

-- COUNT: the size of each block, in elements
unfoldable pub count : Signature → Option ℕ
count (Bcast r ty n) = Some n
count (Gather r ty n) = Some n
count (Scatter r ty n) = Some n
count (Allgather ty n) = Some n
count (Alltoall ty n) = Some n
count (Reduce r op ty n) = Some n
count (Allreduce op ty n) = Some n
count (ReduceScatterBlock op ty n) = Some n
count (Scan op ty n) = Some n
count (Exscan op ty n) = Some n
count (NeighborAllgather ty n) = Some n
count (NeighborAlltoall ty n) = Some n
count _ = None

-- COUNTS, RANKS or DIMS
unfoldable pub numbers : Signature → List ℕ
numbers (ReduceScatter op ty counts) = counts
numbers (Create ranks) = ranks
numbers (CartCreate dims periods) = dims
numbers _ = []

-- PERIODS or KEEP
unfoldable pub flags : Signature → List Bool
flags (CartCreate dims periods) = periods
flags (CartSub keep) = keep
flags _ = []

-- the kind makes communicators and moves no element (7.4.2, 8.5.1, 8.5.7)
unfoldable pub is_constructor : Signature → Bool
is_constructor Dup = true
is_constructor Split = true
is_constructor (Create ranks) = true
is_constructor (CartCreate dims periods) = true
is_constructor (CartSub keep) = true
is_constructor _ = false

-- the kind goes between the neighbours of a grid (8.6)
unfoldable pub is_neighbourly : Signature → Bool
is_neighbourly (NeighborAllgather ty n) = true
is_neighbourly (NeighborAllgatherv ty) = true
is_neighbourly (NeighborAlltoall ty n) = true
is_neighbourly (NeighborAlltoallv ty) = true
is_neighbourly _ = false

-- the signature of that kind with these fields, of which it takes those that the kind has
unfoldable pub signature_by : Kind → (root : ℕ) → Op → ElemType → (count : ℕ) → List ℕ → List Bool →
    Signature
signature_by kinds.Barrier r op ty n ns fs = Barrier
signature_by kinds.Bcast r op ty n ns fs = Bcast r ty n
signature_by kinds.Gather r op ty n ns fs = Gather r ty n
signature_by kinds.Gatherv r op ty n ns fs = Gatherv r ty
signature_by kinds.Scatter r op ty n ns fs = Scatter r ty n
signature_by kinds.Scatterv r op ty n ns fs = Scatterv r ty
signature_by kinds.Allgather r op ty n ns fs = Allgather ty n
signature_by kinds.Allgatherv r op ty n ns fs = Allgatherv ty
signature_by kinds.Alltoall r op ty n ns fs = Alltoall ty n
signature_by kinds.Alltoallv r op ty n ns fs = Alltoallv ty
signature_by kinds.Reduce r op ty n ns fs = Reduce r op ty n
signature_by kinds.Allreduce r op ty n ns fs = Allreduce op ty n
signature_by kinds.ReduceScatter r op ty n ns fs = ReduceScatter op ty ns
signature_by kinds.ReduceScatterBlock r op ty n ns fs = ReduceScatterBlock op ty n
signature_by kinds.Scan r op ty n ns fs = Scan op ty n
signature_by kinds.Exscan r op ty n ns fs = Exscan op ty n
signature_by kinds.NeighborAllgather r op ty n ns fs = NeighborAllgather ty n
signature_by kinds.NeighborAllgatherv r op ty n ns fs = NeighborAllgatherv ty
signature_by kinds.NeighborAlltoall r op ty n ns fs = NeighborAlltoall ty n
signature_by kinds.NeighborAlltoallv r op ty n ns fs = NeighborAlltoallv ty
signature_by kinds.Dup r op ty n ns fs = Dup
signature_by kinds.Split r op ty n ns fs = Split
signature_by kinds.Create r op ty n ns fs = Create ns
signature_by kinds.CartCreate r op ty n ns fs = CartCreate ns fs
signature_by kinds.CartSub r op ty n ns fs = CartSub fs

-- ## the same signature, as a test

-- both are absent, or both are there and have one number
abbrev pub same_by : {X : Type 0} → (X → ℕ) → Option X → Option X → Bool
same_by number (Some x) (Some y) = number x == number y
same_by number None None = true
same_by number _ _ = false

abbrev pub same_flags : List Bool → List Bool → Bool
same_flags [] [] = true
same_flags (true ∷ xs) (true ∷ ys) = same_flags xs ys
same_flags (false ∷ xs) (false ∷ ys) = same_flags xs ys
same_flags _ _ = false

-- the same kind with the same fields (own rule: the members of an instance state one signature)
unfoldable pub same_signature : Signature → Signature → Bool
same_signature a b =
    kind_number (kind a) == kind_number (kind b)
    && same_by (λ r. r) (root a) (root b)
    && same_by op_number (reduction a) (reduction b)
    && same_by type_number (elem_type a) (elem_type b)
    && same_by (λ n. n) (count a) (count b)
    && bytes_eq (numbers a) (numbers b)
    && same_flags (flags a) (flags b)

-- ---- words of private contracts

-- a kind without such fields
abbrev pub bare : Kind → Fields
bare k = record { kind = k; root = None; op = None; elem_type = None; count = None }

-- the kind, and the fields that are no lists
abbrev pub fields_of : Signature → Fields
fields_of s = record {
  kind = kind s;
  root = root s;
  op = reduction s;
  elem_type = elem_type s;
  count = count s;
}

-- the signature with these fields and lists, where a field that is missing is 0, max or int8
abbrev pub signature_from : Fields → List ℕ → List Bool → Signature
signature_from f ns fs =
    signature_by f.kind (unwrap_or f.root 0) (unwrap_or f.op Max) (unwrap_or f.elem_type Int8)
    (unwrap_or f.count 0) ns fs
