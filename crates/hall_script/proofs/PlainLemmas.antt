-- The words of calls have printable bytes alone, and no spaces.
use Rattle.std.proofs.Common.{◌≡◌, ℕ, suc, ◌^◌, ◌<◌, ◌≤◌, Bool, true, false, ◌&&◌, leb, List, []}
use Rattle.std.proofs.Common.{◌∷◌, ◌++◌, map, Option, Some, None, unwrap_or, ℤ, pos, negsuc, refl}
use Rattle.std.proofs.Common.{arith}
use Rattle.std.specs.List.{AllByRecursion, list_all, join_with_byte}
use Rattle.std.specs.Prelude.{IfSome}
use Rattle.std.specs.Fmt.{decimal, signed_decimal}
use Rattle.std.proofs.lemmas.Bool.{and_parts, and_from, leb-true, le-leb}
use Rattle.std.proofs.lemmas.Fmt.{digits_decimal}
use Rattle.wall_labels.specs.declared.op.Op.{Op}
use Rattle.wall_labels.specs.declared.op.Op.TheVariants as ops
use Rattle.wall_labels.specs.Ops.{op_name}
use Rattle.mpi_elems.specs.declared.elem_type.ElemType.{ElemType}
use Rattle.mpi_elems.specs.declared.elem_type.ElemType.TheVariants as types
use Rattle.mpi_elems.specs.Types.{type_name}
use Rattle.coll_routes.specs.declared.kind.Kind.{Kind}
use Rattle.coll_routes.specs.declared.kind.Kind.TheVariants as kinds
use Rattle.coll_routes.specs.declared.signature.Signature.{Signature}
use Rattle.coll_routes.specs.declared.statement.Own.{Own}
use Rattle.coll_routes.specs.Kinds.{kind_name}
use Rattle.coll_routes.specs.Signatures.{kind, root, reduction, elem_type, count, numbers, flags}
use Rattle.coll_routes.specs.Rolls.{counts_in}
use Rattle.coll_text.specs.Numbers.{Word, is_digit, IsBetween}
use Rattle.coll_text.specs.Table.{forms_of, fields_of, colour_in, key_in}
use Rattle.coll_text.specs.Spellings.{list_word, flag_word, colour_word, word_of, words_of}
use Rattle.coll_text.specs.Spellings.{statement_words, IsSigned32, Fits, IsSpellable}
use Rattle.coll_text.proofs.CollTextLemmas.{own}

-- printable, and no space
abbrev pub is_visible : ℕ → Bool
is_visible b = leb 33 b && leb b 126

abbrev pub is_plain : Word → Bool
is_plain word = list_all is_visible word

pub digit_plain : (b : ℕ) → is_digit b ≡ true → is_visible b ≡ true
digit_plain b h =
    let p = and_parts (leb 48 b) (leb b 57) h in
    let low : 48 ≤ b = leb-true 48 b p.0 in
    let high : b ≤ 57 = leb-true b 57 p.1 in
    and_from (leb 33 b) (leb b 126) (le-leb 33 b (omega arith)) (le-leb b 126 (omega arith))

digits_plain : (w : Word) → list_all is_digit w ≡ true → is_plain w ≡ true
digits_plain [] h = refl
digits_plain (b ∷ bs) h =
    let p = and_parts (is_digit b) (list_all is_digit bs) h in
    and_from (is_visible b) (is_plain bs) (digit_plain b p.0) (digits_plain bs p.1)

pub decimal_plain : (n : ℕ) → n < 2 ^ 64 → is_plain (decimal n) ≡ true
decimal_plain n h = digits_plain (decimal n) (digits_decimal own n h)

pub signed_plain : (most least : ℕ) (z : ℤ) → most < 2 ^ 64 → least < 2 ^ 64 →
    IsBetween most least z → is_plain (signed_decimal z) ≡ true
signed_plain most least (pos n) m l h = decimal_plain n (omega (arith, h, m))
signed_plain most least (negsuc n) m l h = decimal_plain (suc n) (omega (arith, h, l))

joint_plain : (v w : Word) → is_plain v ≡ true → is_plain w ≡ true → is_plain (v ++ w) ≡ true
joint_plain [] w h k = k
joint_plain (b ∷ bs) w h k = let p = and_parts (is_visible b) (is_plain bs) h in
    and_from (is_visible b) (is_plain (bs ++ w)) p.0 (joint_plain bs w p.1 k)

join_plain : (w : Word) (ws : List Word) → is_plain w ≡ true → list_all is_plain ws ≡ true →
    is_plain (join_with_byte 44 (w ∷ ws)) ≡ true
join_plain w [] h k = h
join_plain w (v ∷ ws) h k = let p = and_parts (is_plain v) (list_all is_plain ws) k in
    joint_plain w (44 ∷ join_with_byte 44 (v ∷ ws)) h (join_plain v ws p.0 p.1)

decimals_plain : (ns : List ℕ) → AllByRecursion (λ n. n ≤ 4294967295) ns →
    list_all is_plain (map decimal ns) ≡ true
decimals_plain [] h = refl
decimals_plain (n ∷ ns) h = and_from (is_plain (decimal n)) (list_all is_plain (map decimal ns))
    (decimal_plain n (omega (arith, h.0))) (decimals_plain ns h.1)

numbers_plain : (ns : List ℕ) → AllByRecursion (λ n. n ≤ 4294967295) ns →
    is_plain (list_word decimal ns) ≡ true
numbers_plain [] h = refl
numbers_plain (n ∷ ns) h = join_plain (decimal n) (map decimal ns)
    (decimal_plain n (omega (arith, h.0))) (decimals_plain ns h.1)

flag_plain : (b : Bool) → is_plain (flag_word b) ≡ true
flag_plain true = refl
flag_plain false = refl

all_flags_plain : (bs : List Bool) → list_all is_plain (map flag_word bs) ≡ true
all_flags_plain [] = refl
all_flags_plain (b ∷ bs) = and_from (is_plain (flag_word b)) (list_all is_plain (map flag_word bs))
    (flag_plain b) (all_flags_plain bs)

flags_plain : (bs : List Bool) → is_plain (list_word flag_word bs) ≡ true
flags_plain [] = refl
flags_plain (b ∷ bs) =
    join_plain (flag_word b) (map flag_word bs) (flag_plain b) (all_flags_plain bs)

colour_plain : (c : Option ℤ) → IfSome c IsSigned32 → is_plain (colour_word c) ≡ true
colour_plain None h = refl
colour_plain (Some z) h = signed_plain 2147483647 2147483648 z (omega arith) (omega arith) h

op_plain : (op : Op) → is_plain (op_name op) ≡ true
op_plain ops.Max = refl
op_plain ops.Min = refl
op_plain ops.Sum = refl
op_plain ops.Prod = refl
op_plain ops.Land = refl
op_plain ops.Lor = refl
op_plain ops.Lxor = refl
op_plain ops.Band = refl
op_plain ops.Bor = refl
op_plain ops.Bxor = refl
op_plain ops.Maxloc = refl
op_plain ops.Minloc = refl

type_plain : (ty : ElemType) → is_plain (type_name ty) ≡ true
type_plain types.Int8 = refl
type_plain types.Int16 = refl
type_plain types.Int32 = refl
type_plain types.Int64 = refl
type_plain types.Uint8 = refl
type_plain types.Uint16 = refl
type_plain types.Uint32 = refl
type_plain types.Uint64 = refl
type_plain types.TwoInt = refl

kind_plain : (k : Kind) → is_plain (kind_name k) ≡ true
kind_plain kinds.Barrier = refl
kind_plain kinds.Bcast = refl
kind_plain kinds.Gather = refl
kind_plain kinds.Gatherv = refl
kind_plain kinds.Scatter = refl
kind_plain kinds.Scatterv = refl
kind_plain kinds.Allgather = refl
kind_plain kinds.Allgatherv = refl
kind_plain kinds.Alltoall = refl
kind_plain kinds.Alltoallv = refl
kind_plain kinds.Reduce = refl
kind_plain kinds.Allreduce = refl
kind_plain kinds.ReduceScatter = refl
kind_plain kinds.ReduceScatterBlock = refl
kind_plain kinds.Scan = refl
kind_plain kinds.Exscan = refl
kind_plain kinds.NeighborAllgather = refl
kind_plain kinds.NeighborAllgatherv = refl
kind_plain kinds.NeighborAlltoall = refl
kind_plain kinds.NeighborAlltoallv = refl
kind_plain kinds.Dup = refl
kind_plain kinds.Split = refl
kind_plain kinds.Create = refl
kind_plain kinds.CartCreate = refl
kind_plain kinds.CartSub = refl

-- the fields of a kind, as a statement has them
fields_plain : (k : Kind) (sig : Signature) (own : Own) → Fits (fields_of sig own) →
    list_all is_plain (words_of (forms_of k) (fields_of sig own)) ≡ true
unfolding forms_of word_of
fields_plain kinds.Barrier sig own h = refl
fields_plain kinds.Bcast sig own h = and_from (is_plain (decimal (unwrap_or (root sig) 0)))
    (list_all is_plain
    (type_name (unwrap_or (elem_type sig) types.Int8) ∷ decimal (unwrap_or (count sig) 0) ∷ []))
    (decimal_plain (unwrap_or (root sig) 0) (omega (arith, h.root))) (and_from
    (is_plain (type_name (unwrap_or (elem_type sig) types.Int8)))
    (list_all is_plain (decimal (unwrap_or (count sig) 0) ∷ []))
    (type_plain (unwrap_or (elem_type sig) types.Int8)) (and_from
    (is_plain (decimal (unwrap_or (count sig) 0))) (list_all is_plain ([]))
    (decimal_plain (unwrap_or (count sig) 0) (omega (arith, h.count))) (refl)))
fields_plain kinds.Gather sig own h = and_from (is_plain (decimal (unwrap_or (root sig) 0)))
    (list_all is_plain
    (type_name (unwrap_or (elem_type sig) types.Int8) ∷ decimal (unwrap_or (count sig) 0) ∷ []))
    (decimal_plain (unwrap_or (root sig) 0) (omega (arith, h.root))) (and_from
    (is_plain (type_name (unwrap_or (elem_type sig) types.Int8)))
    (list_all is_plain (decimal (unwrap_or (count sig) 0) ∷ []))
    (type_plain (unwrap_or (elem_type sig) types.Int8)) (and_from
    (is_plain (decimal (unwrap_or (count sig) 0))) (list_all is_plain ([]))
    (decimal_plain (unwrap_or (count sig) 0) (omega (arith, h.count))) (refl)))
fields_plain kinds.Gatherv sig own h = and_from (is_plain (decimal (unwrap_or (root sig) 0)))
    (list_all is_plain (type_name (unwrap_or (elem_type sig) types.Int8) ∷ []))
    (decimal_plain (unwrap_or (root sig) 0) (omega (arith, h.root))) (and_from
    (is_plain (type_name (unwrap_or (elem_type sig) types.Int8))) (list_all is_plain ([]))
    (type_plain (unwrap_or (elem_type sig) types.Int8)) (refl))
fields_plain kinds.Scatter sig own h = and_from (is_plain (decimal (unwrap_or (root sig) 0)))
    (list_all is_plain
    (type_name (unwrap_or (elem_type sig) types.Int8) ∷ decimal (unwrap_or (count sig) 0) ∷ []))
    (decimal_plain (unwrap_or (root sig) 0) (omega (arith, h.root))) (and_from
    (is_plain (type_name (unwrap_or (elem_type sig) types.Int8)))
    (list_all is_plain (decimal (unwrap_or (count sig) 0) ∷ []))
    (type_plain (unwrap_or (elem_type sig) types.Int8)) (and_from
    (is_plain (decimal (unwrap_or (count sig) 0))) (list_all is_plain ([]))
    (decimal_plain (unwrap_or (count sig) 0) (omega (arith, h.count))) (refl)))
fields_plain kinds.Scatterv sig own h = and_from (is_plain (decimal (unwrap_or (root sig) 0)))
    (list_all is_plain
    (type_name (unwrap_or (elem_type sig) types.Int8) ∷ list_word decimal (counts_in own) ∷ []))
    (decimal_plain (unwrap_or (root sig) 0) (omega (arith, h.root))) (and_from
    (is_plain (type_name (unwrap_or (elem_type sig) types.Int8)))
    (list_all is_plain (list_word decimal (counts_in own) ∷ []))
    (type_plain (unwrap_or (elem_type sig) types.Int8)) (and_from
    (is_plain (list_word decimal (counts_in own))) (list_all is_plain ([]))
    (numbers_plain (counts_in own) h.counts) (refl)))
fields_plain kinds.Allgather sig own h = and_from
    (is_plain (type_name (unwrap_or (elem_type sig) types.Int8)))
    (list_all is_plain (decimal (unwrap_or (count sig) 0) ∷ []))
    (type_plain (unwrap_or (elem_type sig) types.Int8)) (and_from
    (is_plain (decimal (unwrap_or (count sig) 0))) (list_all is_plain ([]))
    (decimal_plain (unwrap_or (count sig) 0) (omega (arith, h.count))) (refl))
fields_plain kinds.Allgatherv sig own h = and_from
    (is_plain (type_name (unwrap_or (elem_type sig) types.Int8))) (list_all is_plain ([]))
    (type_plain (unwrap_or (elem_type sig) types.Int8)) (refl)
fields_plain kinds.Alltoall sig own h = and_from
    (is_plain (type_name (unwrap_or (elem_type sig) types.Int8)))
    (list_all is_plain (decimal (unwrap_or (count sig) 0) ∷ []))
    (type_plain (unwrap_or (elem_type sig) types.Int8)) (and_from
    (is_plain (decimal (unwrap_or (count sig) 0))) (list_all is_plain ([]))
    (decimal_plain (unwrap_or (count sig) 0) (omega (arith, h.count))) (refl))
fields_plain kinds.Alltoallv sig own h = and_from
    (is_plain (type_name (unwrap_or (elem_type sig) types.Int8)))
    (list_all is_plain (list_word decimal (counts_in own) ∷ []))
    (type_plain (unwrap_or (elem_type sig) types.Int8)) (and_from
    (is_plain (list_word decimal (counts_in own))) (list_all is_plain ([]))
    (numbers_plain (counts_in own) h.counts) (refl))
fields_plain kinds.Reduce sig own h = and_from (is_plain (decimal (unwrap_or (root sig) 0)))
    (list_all is_plain (op_name (unwrap_or (reduction sig) ops.Max)
    ∷ type_name (unwrap_or (elem_type sig) types.Int8) ∷ decimal (unwrap_or (count sig) 0)
    ∷ [])) (decimal_plain (unwrap_or (root sig) 0) (omega (arith, h.root)))
    (and_from (is_plain (op_name (unwrap_or (reduction sig) ops.Max)))
    (list_all is_plain (type_name (unwrap_or (elem_type sig) types.Int8)
    ∷ decimal (unwrap_or (count sig) 0) ∷ []))
    (op_plain (unwrap_or (reduction sig) ops.Max)) (and_from
    (is_plain (type_name (unwrap_or (elem_type sig) types.Int8)))
    (list_all is_plain (decimal (unwrap_or (count sig) 0) ∷ []))
    (type_plain (unwrap_or (elem_type sig) types.Int8)) (and_from
    (is_plain (decimal (unwrap_or (count sig) 0))) (list_all is_plain ([]))
    (decimal_plain (unwrap_or (count sig) 0) (omega (arith, h.count))) (refl))))
fields_plain kinds.Allreduce sig own h = and_from
    (is_plain (op_name (unwrap_or (reduction sig) ops.Max))) (list_all is_plain
    (type_name (unwrap_or (elem_type sig) types.Int8) ∷ decimal (unwrap_or (count sig) 0) ∷ []))
    (op_plain (unwrap_or (reduction sig) ops.Max)) (and_from
    (is_plain (type_name (unwrap_or (elem_type sig) types.Int8)))
    (list_all is_plain (decimal (unwrap_or (count sig) 0) ∷ []))
    (type_plain (unwrap_or (elem_type sig) types.Int8)) (and_from
    (is_plain (decimal (unwrap_or (count sig) 0))) (list_all is_plain ([]))
    (decimal_plain (unwrap_or (count sig) 0) (omega (arith, h.count))) (refl)))
fields_plain kinds.ReduceScatter sig own h = and_from
    (is_plain (op_name (unwrap_or (reduction sig) ops.Max))) (list_all is_plain
    (type_name (unwrap_or (elem_type sig) types.Int8) ∷ list_word decimal (numbers sig) ∷ []))
    (op_plain (unwrap_or (reduction sig) ops.Max)) (and_from
    (is_plain (type_name (unwrap_or (elem_type sig) types.Int8)))
    (list_all is_plain (list_word decimal (numbers sig) ∷ []))
    (type_plain (unwrap_or (elem_type sig) types.Int8)) (and_from
    (is_plain (list_word decimal (numbers sig))) (list_all is_plain ([]))
    (numbers_plain (numbers sig) h.list) (refl)))
fields_plain kinds.ReduceScatterBlock sig own h = and_from
    (is_plain (op_name (unwrap_or (reduction sig) ops.Max))) (list_all is_plain
    (type_name (unwrap_or (elem_type sig) types.Int8) ∷ decimal (unwrap_or (count sig) 0) ∷ []))
    (op_plain (unwrap_or (reduction sig) ops.Max)) (and_from
    (is_plain (type_name (unwrap_or (elem_type sig) types.Int8)))
    (list_all is_plain (decimal (unwrap_or (count sig) 0) ∷ []))
    (type_plain (unwrap_or (elem_type sig) types.Int8)) (and_from
    (is_plain (decimal (unwrap_or (count sig) 0))) (list_all is_plain ([]))
    (decimal_plain (unwrap_or (count sig) 0) (omega (arith, h.count))) (refl)))
fields_plain kinds.Scan sig own h = and_from
    (is_plain (op_name (unwrap_or (reduction sig) ops.Max))) (list_all is_plain
    (type_name (unwrap_or (elem_type sig) types.Int8) ∷ decimal (unwrap_or (count sig) 0) ∷ []))
    (op_plain (unwrap_or (reduction sig) ops.Max)) (and_from
    (is_plain (type_name (unwrap_or (elem_type sig) types.Int8)))
    (list_all is_plain (decimal (unwrap_or (count sig) 0) ∷ []))
    (type_plain (unwrap_or (elem_type sig) types.Int8)) (and_from
    (is_plain (decimal (unwrap_or (count sig) 0))) (list_all is_plain ([]))
    (decimal_plain (unwrap_or (count sig) 0) (omega (arith, h.count))) (refl)))
fields_plain kinds.Exscan sig own h = and_from
    (is_plain (op_name (unwrap_or (reduction sig) ops.Max))) (list_all is_plain
    (type_name (unwrap_or (elem_type sig) types.Int8) ∷ decimal (unwrap_or (count sig) 0) ∷ []))
    (op_plain (unwrap_or (reduction sig) ops.Max)) (and_from
    (is_plain (type_name (unwrap_or (elem_type sig) types.Int8)))
    (list_all is_plain (decimal (unwrap_or (count sig) 0) ∷ []))
    (type_plain (unwrap_or (elem_type sig) types.Int8)) (and_from
    (is_plain (decimal (unwrap_or (count sig) 0))) (list_all is_plain ([]))
    (decimal_plain (unwrap_or (count sig) 0) (omega (arith, h.count))) (refl)))
fields_plain kinds.NeighborAllgather sig own h = and_from
    (is_plain (type_name (unwrap_or (elem_type sig) types.Int8)))
    (list_all is_plain (decimal (unwrap_or (count sig) 0) ∷ []))
    (type_plain (unwrap_or (elem_type sig) types.Int8)) (and_from
    (is_plain (decimal (unwrap_or (count sig) 0))) (list_all is_plain ([]))
    (decimal_plain (unwrap_or (count sig) 0) (omega (arith, h.count))) (refl))
fields_plain kinds.NeighborAllgatherv sig own h = and_from
    (is_plain (type_name (unwrap_or (elem_type sig) types.Int8))) (list_all is_plain ([]))
    (type_plain (unwrap_or (elem_type sig) types.Int8)) (refl)
fields_plain kinds.NeighborAlltoall sig own h = and_from
    (is_plain (type_name (unwrap_or (elem_type sig) types.Int8)))
    (list_all is_plain (decimal (unwrap_or (count sig) 0) ∷ []))
    (type_plain (unwrap_or (elem_type sig) types.Int8)) (and_from
    (is_plain (decimal (unwrap_or (count sig) 0))) (list_all is_plain ([]))
    (decimal_plain (unwrap_or (count sig) 0) (omega (arith, h.count))) (refl))
fields_plain kinds.NeighborAlltoallv sig own h = and_from
    (is_plain (type_name (unwrap_or (elem_type sig) types.Int8)))
    (list_all is_plain (list_word decimal (counts_in own) ∷ []))
    (type_plain (unwrap_or (elem_type sig) types.Int8)) (and_from
    (is_plain (list_word decimal (counts_in own))) (list_all is_plain ([]))
    (numbers_plain (counts_in own) h.counts) (refl))
fields_plain kinds.Dup sig own h = refl
fields_plain kinds.Split sig own h = and_from (is_plain (colour_word (colour_in own)))
    (list_all is_plain (signed_decimal (key_in own) ∷ [])) (colour_plain (colour_in own) h.colour)
    (and_from (is_plain (signed_decimal (key_in own))) (list_all is_plain ([]))
    (signed_plain 2147483647 2147483648 (key_in own) (omega arith) (omega arith) h.key) (refl))
fields_plain kinds.Create sig own h = and_from (is_plain (list_word decimal (numbers sig)))
    (list_all is_plain ([])) (numbers_plain (numbers sig) h.list) (refl)
fields_plain kinds.CartCreate sig own h = and_from (is_plain (list_word decimal (numbers sig)))
    (list_all is_plain (list_word flag_word (flags sig) ∷ [])) (numbers_plain (numbers sig) h.list)
    (and_from (is_plain (list_word flag_word (flags sig))) (list_all is_plain ([]))
    (flags_plain (flags sig)) (refl))
fields_plain kinds.CartSub sig own h = and_from (is_plain (list_word flag_word (flags sig)))
    (list_all is_plain ([])) (flags_plain (flags sig)) (refl)

pub statement_plain : (sig : Signature) (own : Own) → IsSpellable sig own →
    list_all is_plain (statement_words sig own) ≡ true
unfolding statement_words
statement_plain sig own h =
    and_from (is_plain (kind_name (kind sig)))
    (list_all is_plain (words_of (forms_of (kind sig)) (fields_of sig own)))
    (kind_plain (kind sig)) (fields_plain (kind sig) sig own h.numbers)

pub all_joint : (vs ws : List Word) → list_all is_plain vs ≡ true → list_all is_plain ws ≡ true →
    list_all is_plain (vs ++ ws) ≡ true
all_joint [] ws h k = k
all_joint (v ∷ vs) ws h k = let p = and_parts (is_plain v) (list_all is_plain vs) h in
    and_from (is_plain v) (list_all is_plain (vs ++ ws)) p.0 (all_joint vs ws p.1 k)
