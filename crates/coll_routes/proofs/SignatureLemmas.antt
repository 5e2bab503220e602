-- Signatures with equal kinds and fields are equal.
use Rattle.std.proofs.Common.{◌≡◌, ℕ, List, [], ◌∷◌, Bool, true, false, ◌&&◌, Option, Some, None}
use Rattle.std.proofs.Common.{nat_eq, refl, sym, ap, ◌∙◌}
use Rattle.std.specs.Prelude.{slice_get, unwrap_or, ◌↔◌}
use Rattle.std.specs.Str.{bytes_eq}
use Rattle.std.specs.Cmp.Lexicographic.{pointwise, bytes_decides}
use Rattle.std.proofs.Math.Bool.{beq}
use Rattle.std.proofs.lemmas.Bool.{eqb-true, eq-eqb, and_parts, and_from}
use Rattle.wall_labels.specs.declared.op.Op.{Op}
use Rattle.wall_labels.specs.declared.op.Op.TheVariants.{Max, Min, Sum, Prod, Land, Lor, Lxor, Band}
use Rattle.wall_labels.specs.declared.op.Op.TheVariants.{Bor, Bxor, Maxloc, Minloc}
use Rattle.wall_labels.specs.Ops.{op_number, all_ops}
use Rattle.mpi_elems.specs.declared.elem_type.ElemType.{ElemType}
use Rattle.mpi_elems.specs.declared.elem_type.ElemType.TheVariants.{Int8, Int16, Int32, Int64}
use Rattle.mpi_elems.specs.declared.elem_type.ElemType.TheVariants.{Uint8, Uint16, Uint32, Uint64}
use Rattle.mpi_elems.specs.declared.elem_type.ElemType.TheVariants.{TwoInt}
use Rattle.mpi_elems.specs.Types.{type_number}
use Rattle.coll_routes.specs.declared.kind.Kind.{Kind}
use Rattle.coll_routes.specs.declared.kind.Kind.TheVariants as kinds
use Rattle.coll_routes.specs.declared.signature.Signature.{Signature}
use Rattle.coll_routes.specs.declared.signature.Signature.TheVariants.{Barrier, Bcast, Gather}
use Rattle.coll_routes.specs.declared.signature.Signature.TheVariants.{Gatherv, Scatter, Scatterv}
use Rattle.coll_routes.specs.declared.signature.Signature.TheVariants.{Allgather, Allgatherv}
use Rattle.coll_routes.specs.declared.signature.Signature.TheVariants.{Alltoall, Alltoallv, Reduce}
use Rattle.coll_routes.specs.declared.signature.Signature.TheVariants.{Allreduce, ReduceScatter}
use Rattle.coll_routes.specs.declared.signature.Signature.TheVariants.{ReduceScatterBlock, Scan}
use Rattle.coll_routes.specs.declared.signature.Signature.TheVariants.{Exscan, NeighborAllgather}
use Rattle.coll_routes.specs.declared.signature.Signature.TheVariants.{NeighborAllgatherv}
use Rattle.coll_routes.specs.declared.signature.Signature.TheVariants.{NeighborAlltoall}
use Rattle.coll_routes.specs.declared.signature.Signature.TheVariants.{NeighborAlltoallv, Dup}
use Rattle.coll_routes.specs.declared.signature.Signature.TheVariants.{Split, Create, CartCreate}
use Rattle.coll_routes.specs.declared.signature.Signature.TheVariants.{CartSub}
use Rattle.coll_routes.specs.Kinds.{kind_number, all_kinds}
use Rattle.coll_routes.specs.Signatures.{kind, root, reduction, elem_type, count, numbers, flags}
use Rattle.coll_routes.specs.Signatures.{same_by, same_flags, same_signature, fields_of}
use Rattle.coll_routes.specs.Signatures.{signature_from, signature_by}
use Rattle.coll_routes.specs.Laws.{SameSignaturesAreEqual}

-- a signature is the one of its fields
pub signature_is : (s : Signature) → signature_from (fields_of s) (numbers s) (flags s) ≡ s
unfolding signature_by kind root reduction elem_type count numbers flags
signature_is Barrier = refl
signature_is (Bcast r ty n) = refl
signature_is (Gather r ty n) = refl
signature_is (Gatherv r ty) = refl
signature_is (Scatter r ty n) = refl
signature_is (Scatterv r ty) = refl
signature_is (Allgather ty n) = refl
signature_is (Allgatherv ty) = refl
signature_is (Alltoall ty n) = refl
signature_is (Alltoallv ty) = refl
signature_is (Reduce r op ty n) = refl
signature_is (Allreduce op ty n) = refl
signature_is (ReduceScatter op ty sizes) = refl
signature_is (ReduceScatterBlock op ty n) = refl
signature_is (Scan op ty n) = refl
signature_is (Exscan op ty n) = refl
signature_is (NeighborAllgather ty n) = refl
signature_is (NeighborAllgatherv ty) = refl
signature_is (NeighborAlltoall ty n) = refl
signature_is (NeighborAlltoallv ty) = refl
signature_is Dup = refl
signature_is Split = refl
signature_is (Create ranks) = refl
signature_is (CartCreate dims periods) = refl
signature_is (CartSub keep) = refl

pub from_fields : (a b : Signature) → kind a ≡ kind b → root a ≡ root b →
    reduction a ≡ reduction b → elem_type a ≡ elem_type b → count a ≡ count b →
    numbers a ≡ numbers b → flags a ≡ flags b → a ≡ b
from_fields a b k r o t n ns fs =
    sym (signature_is a)
    ∙ ((λ i. signature_by (k i) (unwrap_or (r i) 0) (unwrap_or (o i) Max) (unwrap_or (t i) Int8)
    (unwrap_or (n i) 0) (ns i) (fs i))
    ∙ signature_is b)

-- numbers tell kinds, operations and types
kind_back : (k : Kind) → slice_get all_kinds (kind_number k) ≡ Some k
kind_back kinds.Barrier = refl
kind_back kinds.Bcast = refl
kind_back kinds.Gather = refl
kind_back kinds.Gatherv = refl
kind_back kinds.Scatter = refl
kind_back kinds.Scatterv = refl
kind_back kinds.Allgather = refl
kind_back kinds.Allgatherv = refl
kind_back kinds.Alltoall = refl
kind_back kinds.Alltoallv = refl
kind_back kinds.Reduce = refl
kind_back kinds.Allreduce = refl
kind_back kinds.ReduceScatter = refl
kind_back kinds.ReduceScatterBlock = refl
kind_back kinds.Scan = refl
kind_back kinds.Exscan = refl
kind_back kinds.NeighborAllgather = refl
kind_back kinds.NeighborAllgatherv = refl
kind_back kinds.NeighborAlltoall = refl
kind_back kinds.NeighborAlltoallv = refl
kind_back kinds.Dup = refl
kind_back kinds.Split = refl
kind_back kinds.Create = refl
kind_back kinds.CartCreate = refl
kind_back kinds.CartSub = refl

kind_is : (k l : Kind) → kind_number k ≡ kind_number l → k ≡ l
kind_is k l e =
    let one = kind_back k in let two = kind_back l in let same = ap (slice_get all_kinds) e in cc

op_back : (x : Op) → slice_get all_ops (op_number x) ≡ Some x
op_back Max = refl
op_back Min = refl
op_back Sum = refl
op_back Prod = refl
op_back Land = refl
op_back Lor = refl
op_back Lxor = refl
op_back Band = refl
op_back Bor = refl
op_back Bxor = refl
op_back Maxloc = refl
op_back Minloc = refl

op_is : (x y : Op) → op_number x ≡ op_number y → x ≡ y
op_is x y e =
    let one = op_back x in let two = op_back y in let same = ap (slice_get all_ops) e in cc

abbrev all_types : List ElemType
all_types = Int8 ∷ Int16 ∷ Int32 ∷ Int64 ∷ Uint8 ∷ Uint16 ∷ Uint32 ∷ Uint64 ∷ TwoInt ∷ []

type_back : (x : ElemType) → slice_get all_types (type_number x) ≡ Some x
type_back Int8 = refl
type_back Int16 = refl
type_back Int32 = refl
type_back Int64 = refl
type_back Uint8 = refl
type_back Uint16 = refl
type_back Uint32 = refl
type_back Uint64 = refl
type_back TwoInt = refl

pub type_is : (x y : ElemType) → type_number x ≡ type_number y → x ≡ y
type_is x y e =
    let one = type_back x in let two = type_back y in let same = ap (slice_get all_types) e in cc

-- the tests of fields tell equal ones
module _ {X : Type 0} (number : X → ℕ) where
  by_number : ((x y : X) → number x ≡ number y → x ≡ y) → (a b : Option X) →
      same_by number a b ≡ true → a ≡ b
  by_number tells (Some x) (Some y) e =
      ap (λ (z : X). Some z) (tells x y (eqb-true (number x) (number y) e))
  by_number tells None None e = refl
  by_number tells (Some x) None e = absurd (cc)
  by_number tells None (Some y) e = absurd (cc)

  itself : (a : Option X) → same_by number a a ≡ true
  itself (Some x) = eq-eqb (number x) (number x) refl
  itself None = refl

flags_are : (xs ys : List Bool) → same_flags xs ys ≡ true → xs ≡ ys
flags_are [] [] e = refl
flags_are (true ∷ xs) (true ∷ ys) e = ap (λ (l : List Bool). true ∷ l) (flags_are xs ys e)
flags_are (false ∷ xs) (false ∷ ys) e = ap (λ (l : List Bool). false ∷ l) (flags_are xs ys e)
flags_are [] (y ∷ ys) e = absurd (cc)
flags_are (true ∷ xs) [] e = absurd (cc)
flags_are (false ∷ xs) [] e = absurd (cc)
flags_are (true ∷ xs) (false ∷ ys) e = absurd (cc)
flags_are (false ∷ xs) (true ∷ ys) e = absurd (cc)

flags_itself : (xs : List Bool) → same_flags xs xs ≡ true
flags_itself [] = refl
flags_itself (true ∷ xs) = flags_itself xs
flags_itself (false ∷ xs) = flags_itself xs

-- std's word
pub pointwise_flags : (xs ys : List Bool) → pointwise beq xs ys ≡ same_flags xs ys
pointwise_flags [] [] = refl
pointwise_flags [] (y ∷ ys) = refl
pointwise_flags (true ∷ xs) [] = refl
pointwise_flags (false ∷ xs) [] = refl
pointwise_flags (true ∷ xs) (true ∷ ys) = pointwise_flags xs ys
pointwise_flags (true ∷ xs) (false ∷ ys) = refl
pointwise_flags (false ∷ xs) (true ∷ ys) = refl
pointwise_flags (false ∷ xs) (false ∷ ys) = pointwise_flags xs ys

pub flags_decide : (xs ys : List Bool) → (pointwise beq xs ys ≡ true) ↔ (xs ≡ ys)
flags_decide xs ys = (
  λ e. flags_are xs ys (sym (pointwise_flags xs ys) ∙ e),
  λ e. pointwise_flags xs ys ∙ (ap (same_flags xs) (sym e) ∙ flags_itself xs),
)

same_is : (a b : Signature) → same_signature a b ≡ true → a ≡ b
unfolding same_signature
same_is a b e =
    let roots = same_by (λ (r : ℕ). r) (root a) (root b) in
    let ops = same_by op_number (reduction a) (reduction b) in
    let types = same_by type_number (elem_type a) (elem_type b) in
    let counts = same_by (λ (n : ℕ). n) (count a) (count b) in
    let lists = bytes_eq (numbers a) (numbers b) in
    let bits = same_flags (flags a) (flags b) in
    let same_kind = nat_eq (kind_number (kind a)) (kind_number (kind b)) in
    let six = and_parts (same_kind && roots && ops && types && counts && lists) bits e in
    let five = and_parts (same_kind && roots && ops && types && counts) lists six.0 in
    let four = and_parts (same_kind && roots && ops && types) counts five.0 in
    let three = and_parts (same_kind && roots && ops) types four.0 in
    let two = and_parts (same_kind && roots) ops three.0 in
    let one = and_parts same_kind roots two.0 in
    from_fields a b
    (kind_is (kind a) (kind b) (eqb-true (kind_number (kind a)) (kind_number (kind b)) one.0))
    (by_number (λ (r : ℕ). r) (λ x y h. h) (root a) (root b) one.1)
    (by_number op_number op_is (reduction a) (reduction b) two.1)
    (by_number type_number type_is (elem_type a) (elem_type b) three.1)
    (by_number (λ (n : ℕ). n) (λ x y h. h) (count a) (count b) four.1)
    ((bytes_decides (numbers a) (numbers b)).0 five.1)
    (flags_are (flags a) (flags b) six.1)

same_itself : (a : Signature) → same_signature a a ≡ true
unfolding same_signature
same_itself a =
    let roots = same_by (λ (r : ℕ). r) (root a) (root a) in
    let ops = same_by op_number (reduction a) (reduction a) in
    let types = same_by type_number (elem_type a) (elem_type a) in
    let counts = same_by (λ (n : ℕ). n) (count a) (count a) in
    let lists = bytes_eq (numbers a) (numbers a) in
    let bits = same_flags (flags a) (flags a) in
    let same_kind = nat_eq (kind_number (kind a)) (kind_number (kind a)) in
    and_from (same_kind && roots && ops && types && counts && lists) bits
    (and_from (same_kind && roots && ops && types && counts) lists
    (and_from (same_kind && roots && ops && types) counts
    (and_from (same_kind && roots && ops) types
    (and_from (same_kind && roots) ops
    (and_from same_kind roots (eq-eqb (kind_number (kind a)) (kind_number (kind a)) refl)
    (itself (λ (r : ℕ). r) (root a)))
    (itself op_number (reduction a))) (itself type_number (elem_type a)))
    (itself (λ (n : ℕ). n) (count a)))
    ((bytes_decides (numbers a) (numbers a)).1 refl)) (flags_itself (flags a))

pub same_signatures_are_equal : SameSignaturesAreEqual
same_signatures_are_equal a b = (same_is a b, λ e. ap (same_signature a) (sym e) ∙ same_itself a)
