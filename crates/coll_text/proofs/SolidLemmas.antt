-- The words of statements have no space and no line end in them.
use Rattle.std.proofs.Common.{◌≡◌, ℕ, suc, ◌^◌, ◌<◌, ◌≤◌, Bool, true, false, leb, ltb, List}
use Rattle.std.proofs.Common.{[], ◌∷◌, ◌++◌, map, Option, Some, None, ℤ, pos, negsuc, refl}
use Rattle.std.proofs.Common.{arith}
use Rattle.std.specs.List.{AllByRecursion, list_all, join_with_byte}
use Rattle.std.specs.Prelude.{IfSome}
use Rattle.std.specs.Fmt.{decimal, signed_decimal}
use Rattle.std.proofs.lemmas.Bool.{and_parts, and_from, leb-true, lt-ltb}
use Rattle.std.proofs.lemmas.Fmt.{digits_decimal}
use Rattle.wall_labels.specs.declared.op.Op.{Op}
use Rattle.wall_labels.specs.declared.op.Op.TheVariants as ops
use Rattle.wall_labels.specs.Ops.{op_name}
use Rattle.mpi_elems.specs.declared.elem_type.ElemType.{ElemType}
use Rattle.mpi_elems.specs.declared.elem_type.ElemType.TheVariants as types
use Rattle.mpi_elems.specs.Types.{type_name}
use Rattle.coll_routes.specs.declared.kind.Kind.{Kind}
use Rattle.coll_routes.specs.declared.kind.Kind.TheVariants as kinds
use Rattle.coll_routes.specs.declared.signature.Signature.{Signature}
use Rattle.coll_routes.specs.declared.statement.Own.{Own}
use Rattle.coll_routes.specs.Kinds.{kind_name}
use Rattle.coll_routes.specs.Signatures.{kind}
use Rattle.coll_text.specs.declared.table.Form.{Form}
use Rattle.coll_text.specs.declared.table.Form.TheVariants.{Root, Operation, Typed, Count, Counts}
use Rattle.coll_text.specs.declared.table.Form.TheVariants.{Listed, Flagged, Colour, Key}
use Rattle.coll_text.specs.Table.{Fields}
use Rattle.coll_text.specs.Numbers.{Word, is_digit}
use Rattle.coll_text.specs.Table.{forms_of, fields_of}
use Rattle.coll_text.specs.Spellings.{list_word, flag_word, colour_word, word_of, words_of}
use Rattle.coll_text.specs.Spellings.{statement_words, IsSigned32, Fits, IsSpellable, is_solid}
use Rattle.coll_text.proofs.NumberLemmas.{own}

digit_solid : (b : ℕ) → is_digit b ≡ true → ltb 32 b ≡ true
digit_solid b h = let far : 48 ≤ b = leb-true 48 b (and_parts (leb 48 b) (leb b 57) h).0 in
    lt-ltb 32 b (omega arith)

digits_solid : (w : Word) → list_all is_digit w ≡ true → is_solid w ≡ true
digits_solid [] h = refl
digits_solid (b ∷ bs) h =
    let p = and_parts (is_digit b) (list_all is_digit bs) h in
    and_from (ltb 32 b) (is_solid bs) (digit_solid b p.0) (digits_solid bs p.1)

pub decimal_solid : (n : ℕ) → n < 2 ^ 64 → is_solid (decimal n) ≡ true
decimal_solid n h = digits_solid (decimal n) (digits_decimal own n h)

signed_solid : (z : ℤ) → IsSigned32 z → is_solid (signed_decimal z) ≡ true
signed_solid (pos n) h = decimal_solid n (omega arith)
signed_solid (negsuc n) h = decimal_solid (suc n) (omega arith)

joint_solid : (v w : Word) → is_solid v ≡ true → is_solid w ≡ true → is_solid (v ++ w) ≡ true
joint_solid [] w h k = k
joint_solid (b ∷ bs) w h k = let p = and_parts (ltb 32 b) (is_solid bs) h in
    and_from (ltb 32 b) (is_solid (bs ++ w)) p.0 (joint_solid bs w p.1 k)

join_solid : (w : Word) (ws : List Word) → is_solid w ≡ true → list_all is_solid ws ≡ true →
    is_solid (join_with_byte 44 (w ∷ ws)) ≡ true
join_solid w [] h k = h
join_solid w (v ∷ ws) h k = let p = and_parts (is_solid v) (list_all is_solid ws) k in
    joint_solid w (44 ∷ join_with_byte 44 (v ∷ ws)) h (join_solid v ws p.0 p.1)

decimals_solid : (ns : List ℕ) → AllByRecursion (λ n. n ≤ 4294967295) ns →
    list_all is_solid (map decimal ns) ≡ true
decimals_solid [] h = refl
decimals_solid (n ∷ ns) h = and_from (is_solid (decimal n)) (list_all is_solid (map decimal ns))
    (decimal_solid n (omega (arith, h.0))) (decimals_solid ns h.1)

numbers_solid : (ns : List ℕ) → AllByRecursion (λ n. n ≤ 4294967295) ns →
    is_solid (list_word decimal ns) ≡ true
numbers_solid [] h = refl
numbers_solid (n ∷ ns) h = join_solid (decimal n) (map decimal ns)
    (decimal_solid n (omega (arith, h.0))) (decimals_solid ns h.1)

flag_solid : (b : Bool) → is_solid (flag_word b) ≡ true
flag_solid true = refl
flag_solid false = refl

all_flags_solid : (bs : List Bool) → list_all is_solid (map flag_word bs) ≡ true
all_flags_solid [] = refl
all_flags_solid (b ∷ bs) = and_from (is_solid (flag_word b)) (list_all is_solid (map flag_word bs))
    (flag_solid b) (all_flags_solid bs)

flags_solid : (bs : List Bool) → is_solid (list_word flag_word bs) ≡ true
flags_solid [] = refl
flags_solid (b ∷ bs) =
    join_solid (flag_word b) (map flag_word bs) (flag_solid b) (all_flags_solid bs)

colour_solid : (c : Option ℤ) → IfSome c IsSigned32 → is_solid (colour_word c) ≡ true
colour_solid None h = refl
colour_solid (Some z) h = signed_solid z h

op_solid : (op : Op) → is_solid (op_name op) ≡ true
op_solid ops.Max = refl
op_solid ops.Min = refl
op_solid ops.Sum = refl
op_solid ops.Prod = refl
op_solid ops.Land = refl
op_solid ops.Lor = refl
op_solid ops.Lxor = refl
op_solid ops.Band = refl
op_solid ops.Bor = refl
op_solid ops.Bxor = refl
op_solid ops.Maxloc = refl
op_solid ops.Minloc = refl

type_solid : (ty : ElemType) → is_solid (type_name ty) ≡ true
type_solid types.Int8 = refl
type_solid types.Int16 = refl
type_solid types.Int32 = refl
type_solid types.Int64 = refl
type_solid types.Uint8 = refl
type_solid types.Uint16 = refl
type_solid types.Uint32 = refl
type_solid types.Uint64 = refl
type_solid types.TwoInt = refl

kind_solid : (k : Kind) → is_solid (kind_name k) ≡ true
kind_solid kinds.Barrier = refl
kind_solid kinds.Bcast = refl
kind_solid kinds.Gather = refl
kind_solid kinds.Gatherv = refl
kind_solid kinds.Scatter = refl
kind_solid kinds.Scatterv = refl
kind_solid kinds.Allgather = refl
kind_solid kinds.Allgatherv = refl
kind_solid kinds.Alltoall = refl
kind_solid kinds.Alltoallv = refl
kind_solid kinds.Reduce = refl
kind_solid kinds.Allreduce = refl
kind_solid kinds.ReduceScatter = refl
kind_solid kinds.ReduceScatterBlock = refl
kind_solid kinds.Scan = refl
kind_solid kinds.Exscan = refl
kind_solid kinds.NeighborAllgather = refl
kind_solid kinds.NeighborAllgatherv = refl
kind_solid kinds.NeighborAlltoall = refl
kind_solid kinds.NeighborAlltoallv = refl
kind_solid kinds.Dup = refl
kind_solid kinds.Split = refl
kind_solid kinds.Create = refl
kind_solid kinds.CartCreate = refl
kind_solid kinds.CartSub = refl

word_solid : (form : Form) (f : Fields) → Fits f → is_solid (word_of form f) ≡ true
unfolding word_of
word_solid Root f h = decimal_solid f.root (omega (arith, h.root))
word_solid Operation f h = op_solid f.op
word_solid Typed f h = type_solid f.elem_type
word_solid Count f h = decimal_solid f.count (omega (arith, h.count))
word_solid Counts f h = numbers_solid f.counts h.counts
word_solid Listed f h = numbers_solid f.list h.list
word_solid Flagged f h = flags_solid f.flags
word_solid Colour f h = colour_solid f.colour h.colour
word_solid Key f h = signed_solid f.key h.key

words_solid : (forms : List Form) (f : Fields) → Fits f →
    list_all is_solid (words_of forms f) ≡ true
words_solid [] f h = refl
words_solid (form ∷ forms) f h = and_from (is_solid (word_of form f))
    (list_all is_solid (words_of forms f)) (word_solid form f h) (words_solid forms f h)

pub statement_solid : (sig : Signature) (own : Own) → IsSpellable sig own →
    list_all is_solid (statement_words sig own) ≡ true
unfolding statement_words
statement_solid sig own h =
    and_from (is_solid (kind_name (kind sig)))
    (list_all is_solid (words_of (forms_of (kind sig)) (fields_of sig own)))
    (kind_solid (kind sig)) (words_solid (forms_of (kind sig)) (fields_of sig own) h.numbers)

pub all_joint : (vs ws : List Word) → list_all is_solid vs ≡ true → list_all is_solid ws ≡ true →
    list_all is_solid (vs ++ ws) ≡ true
all_joint [] ws h k = k
all_joint (v ∷ vs) ws h k = let p = and_parts (is_solid v) (list_all is_solid vs) h in
    and_from (is_solid v) (list_all is_solid (vs ++ ws)) p.0 (all_joint vs ws p.1 k)
