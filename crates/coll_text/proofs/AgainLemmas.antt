-- Fields that are spelled are read again, and make the same statement.
use Rattle.std.proofs.Common.{◌≡◌, ℕ, ◌^◌, ◌<◌, ◌≤◌, Bool, true, false, eqb, length, List, []}
use Rattle.std.proofs.Common.{◌∷◌, ◌++◌, Option, Some, None, Ok, Err, ℤ, pos, negsuc}
use Rattle.std.proofs.Common.{codes, map, refl, sym, ap, ◌∙◌, arith}
use Rattle.std.specs.List.{AllByRecursion, list_all, join_with_byte}
use Rattle.std.specs.Str.{bytes_eq}
use Rattle.std.specs.Prelude.{IfSome}
use Rattle.std.specs.Fmt.{decimal, signed_decimal}
use Rattle.std.proofs.lemmas.Bool.{ne_eqb}
use Rattle.std.proofs.lemmas.Fmt.{digits_decimal, decimal_nonempty}
use Rattle.std.proofs.lemmas.List.{length-append}
use Rattle.std.proofs.lemmas.Slice.Eq.{bytes_eq-Decides}
use Rattle.std.proofs.lemmas.List.Elements.{All-nil, All-cons}
use Rattle.wall_labels.specs.declared.op.Op.{Op}
use Rattle.wall_labels.specs.declared.op.Op.TheVariants as ops
use Rattle.wall_labels.specs.Ops.{op_name, op_of}
use Rattle.mpi_elems.specs.declared.elem_type.ElemType.{ElemType}
use Rattle.mpi_elems.specs.declared.elem_type.ElemType.TheVariants as types
use Rattle.mpi_elems.specs.Types.{type_name, type_of}
use Rattle.coll_routes.specs.declared.kind.Kind.{Kind}
use Rattle.coll_routes.specs.declared.kind.Kind.TheVariants as kinds
use Rattle.coll_routes.specs.declared.signature.Signature.{Signature}
use Rattle.coll_routes.specs.declared.statement.Own.{Own}
use Rattle.coll_routes.specs.declared.statement.Own.TheVariants as owns
use Rattle.coll_routes.specs.Kinds.{kind_name, kind_of}
use Rattle.coll_routes.specs.Signatures.{kind}
use Rattle.coll_routes.specs.Signatures.{signature_by}
use Rattle.coll_routes.proofs.CollRoutesLemmas.{signature_is}
use Rattle.coll_text.specs.declared.fault.LineFault.TheVariants.{BadField}
use Rattle.coll_text.specs.declared.table.Form.{Form}
use Rattle.coll_text.specs.declared.table.Form.TheVariants.{Root, Operation, Typed, Count, Counts}
use Rattle.coll_text.specs.declared.table.Form.TheVariants.{Listed, Flagged, Colour, Key}
use Rattle.coll_text.specs.Table.{Fields}
use Rattle.coll_text.specs.Numbers.{Word, is_digit, number_within}
use Rattle.coll_text.specs.Reading.{some_or, flag_of}
use Rattle.coll_text.specs.Table.{forms_of, signature_of, own_of, no_fields, fields_of}
use Rattle.coll_routes.specs.Owns.{is_own_of}
use Rattle.coll_text.specs.Fields.{number_of, key_of, colour_of, with_field, fields_at}
use Rattle.coll_text.specs.Fields.{statement_at}
use Rattle.coll_text.specs.Spellings.{list_word, flag_word, colour_word, word_of, words_of}
use Rattle.coll_text.specs.Spellings.{statement_words, IsSigned32, Fits, IsSpellable, put, put_all}
use Rattle.coll_text.proofs.NumberLemmas.{own, no_comma, decimal_is_number, signed_is_read}
use Rattle.coll_text.proofs.NumberLemmas.{Readable, list_again, not_true}

type_again : (t : ElemType) → type_of (type_name t) ≡ Some t
unfolding type_of
type_again types.Int8 = refl
type_again types.Int16 = refl
type_again types.Int32 = refl
type_again types.Int64 = refl
type_again types.Uint8 = refl
type_again types.Uint16 = refl
type_again types.Uint32 = refl
type_again types.Uint64 = refl
type_again types.TwoInt = refl

op_again : (op : Op) → op_of (op_name op) ≡ Some op
unfolding op_of
op_again ops.Max = refl
op_again ops.Min = refl
op_again ops.Sum = refl
op_again ops.Prod = refl
op_again ops.Land = refl
op_again ops.Lor = refl
op_again ops.Lxor = refl
op_again ops.Band = refl
op_again ops.Bor = refl
op_again ops.Bxor = refl
op_again ops.Maxloc = refl
op_again ops.Minloc = refl

pub kind_again : (k : Kind) → kind_of (kind_name k) ≡ Some k
unfolding kind_of
kind_again kinds.Barrier = refl
kind_again kinds.Bcast = refl
kind_again kinds.Gather = refl
kind_again kinds.Gatherv = refl
kind_again kinds.Scatter = refl
kind_again kinds.Scatterv = refl
kind_again kinds.Allgather = refl
kind_again kinds.Allgatherv = refl
kind_again kinds.Alltoall = refl
kind_again kinds.Alltoallv = refl
kind_again kinds.Reduce = refl
kind_again kinds.Allreduce = refl
kind_again kinds.ReduceScatter = refl
kind_again kinds.ReduceScatterBlock = refl
kind_again kinds.Scan = refl
kind_again kinds.Exscan = refl
kind_again kinds.NeighborAllgather = refl
kind_again kinds.NeighborAllgatherv = refl
kind_again kinds.NeighborAlltoall = refl
kind_again kinds.NeighborAlltoallv = refl
kind_again kinds.Dup = refl
kind_again kinds.Split = refl
kind_again kinds.Create = refl
kind_again kinds.CartCreate = refl
kind_again kinds.CartSub = refl

number_again : (n : ℕ) → n ≤ 4294967295 → number_of (decimal n) ≡ Ok n
number_again n h = ap (some_or BadField) (decimal_is_number 4294967295 n h (omega arith))

key_again : (z : ℤ) → IsSigned32 z → key_of (signed_decimal z) ≡ Some z
key_again z h = signed_is_read 2147483647 2147483648 z (omega arith) (omega arith) h

digits_only : (n : ℕ) → n < 2 ^ 64 → bytes_eq (decimal n) (codes "undefined") ≡ false
digits_only n lt = not_true (bytes_eq (decimal n) (codes "undefined")) (λ t.
    let same : decimal n ≡ codes "undefined" = (bytes_eq-Decides (decimal n) (codes "undefined")).0
    t in
    let d : false ≡ true = ap (list_all is_digit) (sym same) ∙ digits_decimal own n lt in cc)

not_undefined : (z : ℤ) → IsSigned32 z → bytes_eq (signed_decimal z) (codes "undefined") ≡ false
not_undefined (pos n) h = digits_only n (omega arith)
not_undefined (negsuc n) h = refl

plus_colour : (z : ℤ) → IsSigned32 z → colour_of (signed_decimal z) ≡ Some (Some z)
unfolding colour_of
plus_colour z h = rw (not_undefined z h, key_again z h) refl

colour_again : (c : Option ℤ) → IfSome c IsSigned32 → colour_of (colour_word c) ≡ Some c
unfolding colour_of
colour_again None h = refl
colour_again (Some z) h = plus_colour z h

numbers_readable : (ns : List ℕ) → AllByRecursion (λ n. n ≤ 4294967295) ns →
    AllByRecursion (Readable number_of decimal) ns
numbers_readable [] h = tt
numbers_readable (n ∷ ns) h = (
  record {
    back = number_again n h.0;
    whole = no_comma (decimal n) (digits_decimal own n (omega (arith, h.0)));
  },
  numbers_readable ns h.1,
)

flag_readable : (b : Bool) → Readable flag_of flag_word b
flag_readable true = record {
  back = refl;
  whole = All-cons (λ b. eqb b 44 ≡ false) 49 [] refl (All-nil (λ b. eqb b 44 ≡ false));
}
flag_readable false = record {
  back = refl;
  whole = All-cons (λ b. eqb b 44 ≡ false) 48 [] refl (All-nil (λ b. eqb b 44 ≡ false));
}

flags_readable : (bs : List Bool) → AllByRecursion (Readable flag_of flag_word) bs
flags_readable [] = tt
flags_readable (b ∷ bs) = (flag_readable b, flags_readable bs)

no_number : number_of (codes "-") ≡ Err BadField
unfolding number_within
no_number = refl

-- a word that is read as the field
field_again : (s : Form) (f g : Fields) → Fits f → with_field s (word_of s f) g ≡ Ok (put s f g)
unfolding with_field word_of
field_again Root f g h = rw (number_again f.root h.root) refl
field_again Operation f g h = rw (op_again f.op) refl
field_again Typed f g h = rw (type_again f.elem_type) refl
field_again Count f g h = rw (number_again f.count h.count) refl
field_again Counts f g h = rw
    (list_again number_of decimal f.counts BadField no_number (numbers_readable f.counts h.counts))
    refl
field_again Listed f g h = rw
    (list_again number_of decimal f.list BadField no_number (numbers_readable f.list h.list)) refl
field_again Flagged f g h =
    rw (list_again flag_of flag_word f.flags BadField refl (flags_readable f.flags)) refl
field_again Colour f g h = rw (colour_again f.colour h.colour) refl
field_again Key f g h = rw (key_again f.key h.key) refl

-- the words of fields are not empty
pub positive : (w : Word) → 0 < length w → eqb (length w) 0 ≡ false
positive w h = let other : length w ≡ 0 → ⊥ = λ e. absurd (omega arith) in ne_eqb (length w) 0 other

signed_nonempty : (z : ℤ) → IsSigned32 z → 0 < length (signed_decimal z)
signed_nonempty (pos n) h = decimal_nonempty n (omega arith)
signed_nonempty (negsuc n) h = omega arith

joined_nonempty : (w : Word) (ws : List Word) → 0 < length w →
    0 < length (join_with_byte 44 (w ∷ ws))
joined_nonempty w [] h = h
joined_nonempty w (v ∷ ws) h = omega (arith, length-append w (44 ∷ join_with_byte 44 (v ∷ ws)))

numbers_nonempty : (ns : List ℕ) → AllByRecursion (λ n. n ≤ 4294967295) ns →
    0 < length (list_word decimal ns)
numbers_nonempty [] h = omega arith
numbers_nonempty (n ∷ ns) h =
    joined_nonempty (decimal n) (map decimal ns) (decimal_nonempty n (omega (arith, h.0)))

flag_nonempty : (b : Bool) → 0 < length (flag_word b)
flag_nonempty true = omega arith
flag_nonempty false = omega arith

flags_nonempty : (bs : List Bool) → 0 < length (list_word flag_word bs)
flags_nonempty [] = omega arith
flags_nonempty (b ∷ bs) = joined_nonempty (flag_word b) (map flag_word bs) (flag_nonempty b)

colour_nonempty : (c : Option ℤ) → IfSome c IsSigned32 → 0 < length (colour_word c)
colour_nonempty None h = omega arith
colour_nonempty (Some z) h = signed_nonempty z h

op_nonempty : (op : Op) → eqb (length (op_name op)) 0 ≡ false
op_nonempty ops.Max = refl
op_nonempty ops.Min = refl
op_nonempty ops.Sum = refl
op_nonempty ops.Prod = refl
op_nonempty ops.Land = refl
op_nonempty ops.Lor = refl
op_nonempty ops.Lxor = refl
op_nonempty ops.Band = refl
op_nonempty ops.Bor = refl
op_nonempty ops.Bxor = refl
op_nonempty ops.Maxloc = refl
op_nonempty ops.Minloc = refl

type_nonempty : (t : ElemType) → eqb (length (type_name t)) 0 ≡ false
type_nonempty types.Int8 = refl
type_nonempty types.Int16 = refl
type_nonempty types.Int32 = refl
type_nonempty types.Int64 = refl
type_nonempty types.Uint8 = refl
type_nonempty types.Uint16 = refl
type_nonempty types.Uint32 = refl
type_nonempty types.Uint64 = refl
type_nonempty types.TwoInt = refl

some_word : (s : Form) (f : Fields) → Fits f → eqb (length (word_of s f)) 0 ≡ false
unfolding word_of
some_word Root f h = positive (decimal f.root) (decimal_nonempty f.root (omega (arith, h.root)))
some_word Operation f h = op_nonempty f.op
some_word Typed f h = type_nonempty f.elem_type
some_word Count f h = positive (decimal f.count) (decimal_nonempty f.count (omega (arith, h.count)))
some_word Counts f h = positive (list_word decimal f.counts) (numbers_nonempty f.counts h.counts)
some_word Listed f h = positive (list_word decimal f.list) (numbers_nonempty f.list h.list)
some_word Flagged f h = positive (list_word flag_word f.flags) (flags_nonempty f.flags)
some_word Colour f h = positive (colour_word f.colour) (colour_nonempty f.colour h.colour)
some_word Key f h = positive (signed_decimal f.key) (signed_nonempty f.key h.key)

pub fields_again : (ss : List Form) (f g : Fields) (rest : List Word) → Fits f →
    fields_at ss g (words_of ss f ++ rest) ≡ Ok (put_all ss f g, rest)
unfolding fields_at
fields_again [] f g rest h = refl
fields_again (s ∷ ss) f g rest h =
    rw (some_word s f h, field_again s f g h) (fields_again ss f (put s f g) rest h)

-- the fields of a kind make its signature
pub signature_again : (k : Kind) (f : Fields) →
    signature_of k (put_all (forms_of k) f no_fields) ≡ signature_of k f
unfolding forms_of signature_by
signature_again kinds.Barrier f = refl
signature_again kinds.Bcast f = refl
signature_again kinds.Gather f = refl
signature_again kinds.Gatherv f = refl
signature_again kinds.Scatter f = refl
signature_again kinds.Scatterv f = refl
signature_again kinds.Allgather f = refl
signature_again kinds.Allgatherv f = refl
signature_again kinds.Alltoall f = refl
signature_again kinds.Alltoallv f = refl
signature_again kinds.Reduce f = refl
signature_again kinds.Allreduce f = refl
signature_again kinds.ReduceScatter f = refl
signature_again kinds.ReduceScatterBlock f = refl
signature_again kinds.Scan f = refl
signature_again kinds.Exscan f = refl
signature_again kinds.NeighborAllgather f = refl
signature_again kinds.NeighborAllgatherv f = refl
signature_again kinds.NeighborAlltoall f = refl
signature_again kinds.NeighborAlltoallv f = refl
signature_again kinds.Dup f = refl
signature_again kinds.Split f = refl
signature_again kinds.Create f = refl
signature_again kinds.CartCreate f = refl
signature_again kinds.CartSub f = refl

pub own_again : (k : Kind) (f : Fields) → own_of k (put_all (forms_of k) f no_fields) ≡ own_of k f
unfolding forms_of own_of
own_again kinds.Barrier f = refl
own_again kinds.Bcast f = refl
own_again kinds.Gather f = refl
own_again kinds.Gatherv f = refl
own_again kinds.Scatter f = refl
own_again kinds.Scatterv f = refl
own_again kinds.Allgather f = refl
own_again kinds.Allgatherv f = refl
own_again kinds.Alltoall f = refl
own_again kinds.Alltoallv f = refl
own_again kinds.Reduce f = refl
own_again kinds.Allreduce f = refl
own_again kinds.ReduceScatter f = refl
own_again kinds.ReduceScatterBlock f = refl
own_again kinds.Scan f = refl
own_again kinds.Exscan f = refl
own_again kinds.NeighborAllgather f = refl
own_again kinds.NeighborAllgatherv f = refl
own_again kinds.NeighborAlltoall f = refl
own_again kinds.NeighborAlltoallv f = refl
own_again kinds.Dup f = refl
own_again kinds.Split f = refl
own_again kinds.Create f = refl
own_again kinds.CartCreate f = refl
own_again kinds.CartSub f = refl

-- ---- statements

signature_back : (sig : Signature) (own : Own) → signature_of (kind sig) (fields_of sig own) ≡ sig
signature_back sig own = signature_is sig

own_back : (k : Kind) (sig : Signature) (own : Own) → is_own_of k own ≡ true →
    own_of k (fields_of sig own) ≡ own
unfolding own_of
own_back kinds.Barrier sig owns.Plain h = refl
own_back kinds.Barrier sig (owns.Counts ns) h = absurd cc
own_back kinds.Barrier sig (owns.Split colour key) h = absurd cc
own_back kinds.Bcast sig owns.Plain h = refl
own_back kinds.Bcast sig (owns.Counts ns) h = absurd cc
own_back kinds.Bcast sig (owns.Split colour key) h = absurd cc
own_back kinds.Gather sig owns.Plain h = refl
own_back kinds.Gather sig (owns.Counts ns) h = absurd cc
own_back kinds.Gather sig (owns.Split colour key) h = absurd cc
own_back kinds.Gatherv sig owns.Plain h = refl
own_back kinds.Gatherv sig (owns.Counts ns) h = absurd cc
own_back kinds.Gatherv sig (owns.Split colour key) h = absurd cc
own_back kinds.Scatter sig owns.Plain h = refl
own_back kinds.Scatter sig (owns.Counts ns) h = absurd cc
own_back kinds.Scatter sig (owns.Split colour key) h = absurd cc
own_back kinds.Scatterv sig owns.Plain h = absurd cc
own_back kinds.Scatterv sig (owns.Counts ns) h = refl
own_back kinds.Scatterv sig (owns.Split colour key) h = absurd cc
own_back kinds.Allgather sig owns.Plain h = refl
own_back kinds.Allgather sig (owns.Counts ns) h = absurd cc
own_back kinds.Allgather sig (owns.Split colour key) h = absurd cc
own_back kinds.Allgatherv sig owns.Plain h = refl
own_back kinds.Allgatherv sig (owns.Counts ns) h = absurd cc
own_back kinds.Allgatherv sig (owns.Split colour key) h = absurd cc
own_back kinds.Alltoall sig owns.Plain h = refl
own_back kinds.Alltoall sig (owns.Counts ns) h = absurd cc
own_back kinds.Alltoall sig (owns.Split colour key) h = absurd cc
own_back kinds.Alltoallv sig owns.Plain h = absurd cc
own_back kinds.Alltoallv sig (owns.Counts ns) h = refl
own_back kinds.Alltoallv sig (owns.Split colour key) h = absurd cc
own_back kinds.Reduce sig owns.Plain h = refl
own_back kinds.Reduce sig (owns.Counts ns) h = absurd cc
own_back kinds.Reduce sig (owns.Split colour key) h = absurd cc
own_back kinds.Allreduce sig owns.Plain h = refl
own_back kinds.Allreduce sig (owns.Counts ns) h = absurd cc
own_back kinds.Allreduce sig (owns.Split colour key) h = absurd cc
own_back kinds.ReduceScatter sig owns.Plain h = refl
own_back kinds.ReduceScatter sig (owns.Counts ns) h = absurd cc
own_back kinds.ReduceScatter sig (owns.Split colour key) h = absurd cc
own_back kinds.ReduceScatterBlock sig owns.Plain h = refl
own_back kinds.ReduceScatterBlock sig (owns.Counts ns) h = absurd cc
own_back kinds.ReduceScatterBlock sig (owns.Split colour key) h = absurd cc
own_back kinds.Scan sig owns.Plain h = refl
own_back kinds.Scan sig (owns.Counts ns) h = absurd cc
own_back kinds.Scan sig (owns.Split colour key) h = absurd cc
own_back kinds.Exscan sig owns.Plain h = refl
own_back kinds.Exscan sig (owns.Counts ns) h = absurd cc
own_back kinds.Exscan sig (owns.Split colour key) h = absurd cc
own_back kinds.NeighborAllgather sig owns.Plain h = refl
own_back kinds.NeighborAllgather sig (owns.Counts ns) h = absurd cc
own_back kinds.NeighborAllgather sig (owns.Split colour key) h = absurd cc
own_back kinds.NeighborAllgatherv sig owns.Plain h = refl
own_back kinds.NeighborAllgatherv sig (owns.Counts ns) h = absurd cc
own_back kinds.NeighborAllgatherv sig (owns.Split colour key) h = absurd cc
own_back kinds.NeighborAlltoall sig owns.Plain h = refl
own_back kinds.NeighborAlltoall sig (owns.Counts ns) h = absurd cc
own_back kinds.NeighborAlltoall sig (owns.Split colour key) h = absurd cc
own_back kinds.NeighborAlltoallv sig owns.Plain h = absurd cc
own_back kinds.NeighborAlltoallv sig (owns.Counts ns) h = refl
own_back kinds.NeighborAlltoallv sig (owns.Split colour key) h = absurd cc
own_back kinds.Dup sig owns.Plain h = refl
own_back kinds.Dup sig (owns.Counts ns) h = absurd cc
own_back kinds.Dup sig (owns.Split colour key) h = absurd cc
own_back kinds.Split sig owns.Plain h = absurd cc
own_back kinds.Split sig (owns.Counts ns) h = absurd cc
own_back kinds.Split sig (owns.Split colour key) h = refl
own_back kinds.Create sig owns.Plain h = refl
own_back kinds.Create sig (owns.Counts ns) h = absurd cc
own_back kinds.Create sig (owns.Split colour key) h = absurd cc
own_back kinds.CartCreate sig owns.Plain h = refl
own_back kinds.CartCreate sig (owns.Counts ns) h = absurd cc
own_back kinds.CartCreate sig (owns.Split colour key) h = absurd cc
own_back kinds.CartSub sig owns.Plain h = refl
own_back kinds.CartSub sig (owns.Counts ns) h = absurd cc
own_back kinds.CartSub sig (owns.Split colour key) h = absurd cc

kind_nonempty : (k : Kind) → eqb (length (kind_name k)) 0 ≡ false
kind_nonempty kinds.Barrier = refl
kind_nonempty kinds.Bcast = refl
kind_nonempty kinds.Gather = refl
kind_nonempty kinds.Gatherv = refl
kind_nonempty kinds.Scatter = refl
kind_nonempty kinds.Scatterv = refl
kind_nonempty kinds.Allgather = refl
kind_nonempty kinds.Allgatherv = refl
kind_nonempty kinds.Alltoall = refl
kind_nonempty kinds.Alltoallv = refl
kind_nonempty kinds.Reduce = refl
kind_nonempty kinds.Allreduce = refl
kind_nonempty kinds.ReduceScatter = refl
kind_nonempty kinds.ReduceScatterBlock = refl
kind_nonempty kinds.Scan = refl
kind_nonempty kinds.Exscan = refl
kind_nonempty kinds.NeighborAllgather = refl
kind_nonempty kinds.NeighborAllgatherv = refl
kind_nonempty kinds.NeighborAlltoall = refl
kind_nonempty kinds.NeighborAlltoallv = refl
kind_nonempty kinds.Dup = refl
kind_nonempty kinds.Split = refl
kind_nonempty kinds.Create = refl
kind_nonempty kinds.CartCreate = refl
kind_nonempty kinds.CartSub = refl

pub statement_again : (sig : Signature) (own : Own) (rest : List Word) → IsSpellable sig own →
    statement_at (statement_words sig own ++ rest) ≡ Ok ((sig, own), rest)
unfolding statement_at statement_words
statement_again sig own rest h =
    let k = kind sig in
    let f = fields_of sig own in
    let s : signature_of k (put_all (forms_of k) f no_fields) ≡ sig = signature_again k f ∙
    signature_back sig own in
    let o : own_of k (put_all (forms_of k) f no_fields) ≡ own = own_again k f ∙ own_back k sig own
    h.form in
    rw (kind_nonempty k, kind_again k, fields_again (forms_of k) f no_fields rest h.numbers, s, o)
    refl
