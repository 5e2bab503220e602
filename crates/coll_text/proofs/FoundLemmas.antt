-- Fields that are read are spelled so.
use Rattle.std.proofs.Common.{◌≡◌, ℕ, suc, zero, ◌^◌, ◌<◌, Bool, true, false, not, cond}
use Rattle.std.proofs.Common.{◌&&◌, eqb, length, List, [], ◌∷◌, ◌++◌, Option, Some, None}
use Rattle.std.proofs.Common.{option_map, option_and_then, find, Result, Ok, Err, ℤ, pos, negsuc}
use Rattle.std.proofs.Common.{codes, map, refl, sym, ap, subst, ◌∙◌, arith}
use Rattle.std.specs.List.{list_all, join_with_byte}
use Rattle.std.specs.Str.{bytes_eq}
use Rattle.std.specs.Fmt.{decimal, signed_decimal}
use Rattle.std.proofs.lemmas.Bool.{eqb-true, and_parts}
use Rattle.std.proofs.lemmas.List.Splits.{join_with_byte-slice_split, length-slice_split}
use Rattle.std.proofs.lemmas.Slice.Eq.{bytes_eq-Decides}
use Rattle.wall_labels.specs.declared.op.Op.{Op}
use Rattle.wall_labels.specs.Ops.{op_name, op_of, all_ops}
use Rattle.mpi_elems.specs.declared.elem_type.ElemType.{ElemType}
use Rattle.mpi_elems.specs.Types.{type_name, type_of, all_types}
use Rattle.coll_routes.specs.declared.kind.Kind.{Kind}
use Rattle.coll_routes.specs.declared.kind.Kind.TheVariants as kinds
use Rattle.coll_routes.specs.declared.signature.Signature.{Signature}
use Rattle.coll_routes.specs.declared.statement.Own.{Own}
use Rattle.coll_routes.specs.Kinds.{kind_name, kind_of, all_kinds}
use Rattle.coll_routes.specs.Signatures.{kind, root, reduction, elem_type, count, numbers, flags}
use Rattle.coll_routes.specs.Signatures.{signature_by}
use Rattle.coll_text.specs.declared.fault.LineFault.{LineFault}
use Rattle.coll_text.specs.declared.fault.LineFault.TheVariants.{BadShape, BadField, BadKind}
use Rattle.coll_text.specs.declared.fault.LineFault.TheVariants.{BadType, UnknownOp}
use Rattle.coll_text.specs.declared.table.Form.{Form}
use Rattle.coll_text.specs.declared.table.Form.TheVariants.{Root, Operation, Typed, Count, Counts}
use Rattle.coll_text.specs.declared.table.Form.TheVariants.{Listed, Flagged, Colour, Key}
use Rattle.coll_text.specs.Table.{Fields}
use Rattle.coll_text.specs.Numbers.{Word, number_within, negative, signed_within}
use Rattle.coll_text.specs.Reading.{◌>>=◌, some_or, parts, each_of, list_of, flag_of, word_at}
use Rattle.coll_text.specs.Table.{forms_of, signature_of, own_of, no_fields, fields_of}
use Rattle.coll_routes.specs.Owns.{is_own_of}
use Rattle.coll_text.specs.Fields.{number_of, key_of, colour_of, with_field, fields_at}
use Rattle.coll_text.specs.Fields.{statement_at}
use Rattle.coll_text.specs.Spellings.{list_word, flag_word, colour_word, word_of, words_of}
use Rattle.coll_text.specs.Spellings.{statement_words, put}
use Rattle.coll_text.proofs.NumberLemmas.{number_is_decimal}

pub bind_ok : {A B : Type 0} (r : Result A LineFault) (f : A → Result B LineFault) (y : B) →
    (r >>= f) ≡ Ok y → (x : A) × (r ≡ Ok x) × (f x ≡ Ok y)
bind_ok (Ok x) f y e = (x, refl, e)
bind_ok (Err d) f y e = absurd cc

pub some_ok : {A : Type 0} (d : LineFault) (r : Option A) (y : A) → some_or d r ≡ Ok y → r ≡ Some y
some_ok d (Some x) y e = cc
some_ok d None y e = absurd cc

abbrev pub done : {A : Type 0} → A → Result A LineFault
done x = Ok x

pub ok_is : {A : Type 0} (x y : A) → done x ≡ done y → x ≡ y
ok_is x y e = cc

-- ---- words

minus_found : (least b : ℕ) (bs : Word) (z : ℤ) (r : Option ℕ) → least < 2 ^ 64 → b ≡ 45 →
    number_within least bs ≡ r → option_and_then negative r ≡ Some z → b ∷ bs ≡ signed_decimal z
minus_found least b bs z None small m e h = absurd cc
minus_found least b bs z (Some zero) small m e h = absurd cc
minus_found least b bs z (Some (suc n)) small m e h =
    let k : negsuc n ≡ z = cc in
    let t : bs ≡ decimal (suc n) = (number_is_decimal least (suc n) bs small e).0 in
    subst (λ (y : ℤ). b ∷ bs ≡ signed_decimal y) k (λ i. m i ∷ t i)

plus_found : (most : ℕ) (w : Word) (z : ℤ) (r : Option ℕ) → most < 2 ^ 64 →
    number_within most w ≡ r → option_map pos r ≡ Some z → w ≡ signed_decimal z
plus_found most w z None small e h = absurd cc
plus_found most w z (Some n) small e h =
    let k : pos n ≡ z = cc in
    subst (λ (y : ℤ). w ≡ signed_decimal y) k (number_is_decimal most n w small e).0

either_found : (most least b : ℕ) (bs : Word) (z : ℤ) (t : Bool) → most < 2 ^ 64 → least < 2 ^ 64 →
    eqb b 45 ≡ t →
    cond t (option_and_then negative (number_within least bs))
    (option_map pos (number_within most (b ∷ bs))) ≡ Some z → b ∷ bs ≡ signed_decimal z
either_found most least b bs z true m l e h =
    minus_found least b bs z (number_within least bs) l (eqb-true b 45 e) refl h
either_found most least b bs z false m l e h =
    plus_found most (b ∷ bs) z (number_within most (b ∷ bs)) m refl h

pub signed_found : (most least : ℕ) (w : Word) (z : ℤ) → most < 2 ^ 64 → least < 2 ^ 64 →
    signed_within most least w ≡ Some z → w ≡ signed_decimal z
unfolding signed_within
signed_found most least [] z m l h = absurd cc
signed_found most least (b ∷ bs) z m l h = either_found most least b bs z (eqb b 45) m l refl h

find_step : {A : Type 0} (name : A → Word) (x : A) (xs : List A) (w : Word) (a : A) (t : Bool) →
    bytes_eq (name x) w ≡ t → (find (λ y. bytes_eq (name y) w) xs ≡ Some a → name a ≡ w) →
    cond t (Some x) (find (λ y. bytes_eq (name y) w) xs) ≡ Some a → name a ≡ w
find_step name x xs w a true e more h =
    let k : x ≡ a = cc in ap name (sym k) ∙ (bytes_eq-Decides (name x) w).0 e
find_step name x xs w a false e more h = more h

found_name : {A : Type 0} (name : A → Word) (xs : List A) (w : Word) (a : A) →
    find (λ y. bytes_eq (name y) w) xs ≡ Some a → name a ≡ w
found_name name [] w a h = absurd cc
found_name name (x ∷ xs) w a h =
    find_step name x xs w a (bytes_eq (name x) w) refl (found_name name xs w a) h

each_found : {A : Type 0} (read : Word → Result A LineFault) (f : A → Word)
    (word : (w : Word) (x : A) → read w ≡ Ok x → w ≡ f x) (ws : List Word) (xs : List A) →
    each_of read ws ≡ Ok xs → ws ≡ map f xs
unfolding each_of
each_found read f word [] xs h = let k : [] ≡ xs = cc in ap (map f) k
each_found {A} read f word (w ∷ ws) xs h =
    let a = bind_ok (read w) (λ x. each_of read ws >>= λ ys. Ok (x ∷ ys)) xs h in
    let b = bind_ok (each_of read ws) (λ ys. Ok (a.0 ∷ ys)) xs a.2 in
    let k : a.0 ∷ b.0 ≡ xs = ok_is (a.0 ∷ b.0) xs b.2 in
    (λ i. word w a.0 a.1 i ∷ each_found read f word ws b.0 b.1 i) ∙ ap (map f) k

some_part : (w : Word) → parts 44 w ≡ [] → ⊥
some_part w e = let n = length-slice_split (λ b. eqb b 44) w in
    let m : length (parts 44 w) ≡ 0 = ap length e in absurd (omega (arith, n, m))

joined : {A : Type 0} (f : A → Word) (w : Word) (xs : List A) → parts 44 w ≡ map f xs →
    w ≡ list_word f xs
joined f w [] e = absurd (some_part w e)
joined f w (x ∷ xs) e = sym (join_with_byte-slice_split 44 w) ∙ ap (join_with_byte 44) e

list_step : {A : Type 0} (read : Word → Result A LineFault) (f : A → Word)
    (word : (w : Word) (x : A) → read w ≡ Ok x → w ≡ f x) (w : Word) (xs : List A)
    (t : Bool) → bytes_eq w (codes "-") ≡ t →
    cond t (Ok []) (each_of read (parts 44 w)) ≡ Ok xs → w ≡ list_word f xs
list_step read f word w xs true e h =
    let k : [] ≡ xs = cc in (bytes_eq-Decides w (codes "-")).0 e ∙ ap (list_word f) k
list_step read f word w xs false e h = joined f w xs (each_found read f word (parts 44 w) xs h)

pub list_found : {A : Type 0} (read : Word → Result A LineFault) (f : A → Word)
    (word : (w : Word) (x : A) → read w ≡ Ok x → w ≡ f x) (w : Word) (xs : List A) →
    list_of read w ≡ Ok xs → w ≡ list_word f xs
unfolding list_of
list_found read f word w xs h = list_step read f word w xs (bytes_eq w (codes "-")) refl h

number_found : (w : Word) (n : ℕ) → number_of w ≡ Ok n → w ≡ decimal n
number_found w n h = (number_is_decimal 4294967295 n w (omega arith)
    (some_ok BadField (number_within 4294967295 w) n h)).0

one_found : (w : Word) (b : Bool) (t : Bool) → bytes_eq w (codes "1") ≡ t →
    cond t (Ok true) (Err BadField) ≡ Ok b → w ≡ flag_word b
one_found w b true e h =
    let k : true ≡ b = cc in (bytes_eq-Decides w (codes "1")).0 e ∙ ap flag_word k
one_found w b false e h = absurd cc

flag_step : (w : Word) (b : Bool) (t : Bool) → bytes_eq w (codes "0") ≡ t →
    cond t (Ok false) (cond (bytes_eq w (codes "1")) (Ok true) (Err BadField)) ≡ Ok b →
    w ≡ flag_word b
flag_step w b true e h =
    let k : false ≡ b = cc in (bytes_eq-Decides w (codes "0")).0 e ∙ ap flag_word k
flag_step w b false e h = one_found w b (bytes_eq w (codes "1")) refl h

flag_found : (w : Word) (b : Bool) → flag_of w ≡ Ok b → w ≡ flag_word b
flag_found w b h = flag_step w b (bytes_eq w (codes "0")) refl h

key_found : (w : Word) (z : ℤ) → key_of w ≡ Some z → w ≡ signed_decimal z
key_found w z h = signed_found 2147483647 2147483648 w z (omega arith) (omega arith) h

colour_value : (w : Word) (c : Option ℤ) (r : Option ℤ) → key_of w ≡ r →
    option_map Some r ≡ Some c → w ≡ colour_word c
colour_value w c None e h = absurd cc
colour_value w c (Some z) e h = let k : Some z ≡ c = cc in key_found w z e ∙ ap colour_word k

colour_step : (w : Word) (c : Option ℤ) (t : Bool) → bytes_eq w (codes "undefined") ≡ t →
    cond t (Some None) (option_map Some (key_of w)) ≡ Some c → w ≡ colour_word c
colour_step w c true e h =
    let k : None ≡ c = cc in (bytes_eq-Decides w (codes "undefined")).0 e ∙ ap colour_word k
colour_step w c false e h = colour_value w c (key_of w) refl h

colour_found : (w : Word) (c : Option ℤ) → colour_of w ≡ Some c → w ≡ colour_word c
unfolding colour_of
colour_found w c h = colour_step w c (bytes_eq w (codes "undefined")) refl h

type_found : (w : Word) (t : ElemType) → type_of w ≡ Some t → w ≡ type_name t
unfolding type_of
type_found w t h = sym (found_name type_name all_types w t h)

op_found : (w : Word) (t : Op) → op_of w ≡ Some t → w ≡ op_name t
unfolding op_of
op_found w t h = sym (found_name op_name all_ops w t h)

-- ---- fields

-- a field that is read is spelled so, and nothing else is changed
record Reads (s : Form) (w : Word) (g h : Fields) : Type 0 where
  word : w ≡ word_of s h
  rest : h ≡ put s h g

-- by the value that was read
field_found : (s : Form) (w : Word) (g h : Fields) → with_field s w g ≡ Ok h → Reads s w g h
unfolding with_field word_of
field_found Root w g h e =
    let a = bind_ok (number_of w) (λ x. Ok (record g { root = x })) h e in
    let made : Fields = record g { root = a.0 } in
    subst (Reads Root w g) (ok_is made h a.2)
    (record { word = number_found w a.0 a.1; rest = refl })
field_found Operation w g h e =
    let a = bind_ok (some_or UnknownOp (op_of w)) (λ x. Ok (record g { op = x })) h e in
    let made : Fields = record g { op = a.0 } in
    subst (Reads Operation w g) (ok_is made h a.2)
    (record { word = op_found w a.0 (some_ok UnknownOp (op_of w) a.0 a.1); rest = refl })
field_found Typed w g h e =
    let a = bind_ok (some_or BadType (type_of w)) (λ x. Ok (record g { elem_type = x })) h e in
    let made : Fields = record g { elem_type = a.0 } in
    subst (Reads Typed w g) (ok_is made h a.2)
    (record { word = type_found w a.0 (some_ok BadType (type_of w) a.0 a.1); rest = refl })
field_found Count w g h e =
    let a = bind_ok (number_of w) (λ x. Ok (record g { count = x })) h e in
    let made : Fields = record g { count = a.0 } in
    subst (Reads Count w g) (ok_is made h a.2)
    (record { word = number_found w a.0 a.1; rest = refl })
field_found Counts w g h e =
    let a = bind_ok (list_of number_of w) (λ x. Ok (record g { counts = x })) h e in
    let made : Fields = record g { counts = a.0 } in
    subst (Reads Counts w g) (ok_is made h a.2)
    (record { word = list_found number_of decimal number_found w a.0 a.1; rest = refl })
field_found Listed w g h e =
    let a = bind_ok (list_of number_of w) (λ x. Ok (record g { list = x })) h e in
    let made : Fields = record g { list = a.0 } in
    subst (Reads Listed w g) (ok_is made h a.2)
    (record { word = list_found number_of decimal number_found w a.0 a.1; rest = refl })
field_found Flagged w g h e =
    let a = bind_ok (list_of flag_of w) (λ x. Ok (record g { flags = x })) h e in
    let made : Fields = record g { flags = a.0 } in
    subst (Reads Flagged w g) (ok_is made h a.2)
    (record { word = list_found flag_of flag_word flag_found w a.0 a.1; rest = refl })
field_found Colour w g h e =
    let a = bind_ok (some_or BadField (colour_of w)) (λ x. Ok (record g { colour = x })) h e in
    let made : Fields = record g { colour = a.0 } in
    subst (Reads Colour w g) (ok_is made h a.2)
    (record { word = colour_found w a.0 (some_ok BadField (colour_of w) a.0 a.1); rest = refl })
field_found Key w g h e =
    let a = bind_ok (some_or BadField (key_of w)) (λ x. Ok (record g { key = x })) h e in
    let made : Fields = record g { key = a.0 } in
    subst (Reads Key w g) (ok_is made h a.2)
    (record { word = key_found w a.0 (some_ok BadField (key_of w) a.0 a.1); rest = refl })

abbrev form_number : Form → ℕ
form_number Root = 0
form_number Operation = 1
form_number Typed = 2
form_number Count = 3
form_number Counts = 4
form_number Listed = 5
form_number Flagged = 6
form_number Colour = 7
form_number Key = 8

other_word : (s t : Form) (h g : Fields) → eqb (form_number s) (form_number t) ≡ false →
    word_of s (put t h g) ≡ word_of s g
unfolding word_of
other_word Root Root h g e = absurd cc
other_word Root Operation h g e = refl
other_word Root Typed h g e = refl
other_word Root Count h g e = refl
other_word Root Counts h g e = refl
other_word Root Listed h g e = refl
other_word Root Flagged h g e = refl
other_word Root Colour h g e = refl
other_word Root Key h g e = refl
other_word Operation Root h g e = refl
other_word Operation Operation h g e = absurd cc
other_word Operation Typed h g e = refl
other_word Operation Count h g e = refl
other_word Operation Counts h g e = refl
other_word Operation Listed h g e = refl
other_word Operation Flagged h g e = refl
other_word Operation Colour h g e = refl
other_word Operation Key h g e = refl
other_word Typed Root h g e = refl
other_word Typed Operation h g e = refl
other_word Typed Typed h g e = absurd cc
other_word Typed Count h g e = refl
other_word Typed Counts h g e = refl
other_word Typed Listed h g e = refl
other_word Typed Flagged h g e = refl
other_word Typed Colour h g e = refl
other_word Typed Key h g e = refl
other_word Count Root h g e = refl
other_word Count Operation h g e = refl
other_word Count Typed h g e = refl
other_word Count Count h g e = absurd cc
other_word Count Counts h g e = refl
other_word Count Listed h g e = refl
other_word Count Flagged h g e = refl
other_word Count Colour h g e = refl
other_word Count Key h g e = refl
other_word Counts Root h g e = refl
other_word Counts Operation h g e = refl
other_word Counts Typed h g e = refl
other_word Counts Count h g e = refl
other_word Counts Counts h g e = absurd cc
other_word Counts Listed h g e = refl
other_word Counts Flagged h g e = refl
other_word Counts Colour h g e = refl
other_word Counts Key h g e = refl
other_word Listed Root h g e = refl
other_word Listed Operation h g e = refl
other_word Listed Typed h g e = refl
other_word Listed Count h g e = refl
other_word Listed Counts h g e = refl
other_word Listed Listed h g e = absurd cc
other_word Listed Flagged h g e = refl
other_word Listed Colour h g e = refl
other_word Listed Key h g e = refl
other_word Flagged Root h g e = refl
other_word Flagged Operation h g e = refl
other_word Flagged Typed h g e = refl
other_word Flagged Count h g e = refl
other_word Flagged Counts h g e = refl
other_word Flagged Listed h g e = refl
other_word Flagged Flagged h g e = absurd cc
other_word Flagged Colour h g e = refl
other_word Flagged Key h g e = refl
other_word Colour Root h g e = refl
other_word Colour Operation h g e = refl
other_word Colour Typed h g e = refl
other_word Colour Count h g e = refl
other_word Colour Counts h g e = refl
other_word Colour Listed h g e = refl
other_word Colour Flagged h g e = refl
other_word Colour Colour h g e = absurd cc
other_word Colour Key h g e = refl
other_word Key Root h g e = refl
other_word Key Operation h g e = refl
other_word Key Typed h g e = refl
other_word Key Count h g e = refl
other_word Key Counts h g e = refl
other_word Key Listed h g e = refl
other_word Key Flagged h g e = refl
other_word Key Colour h g e = refl
other_word Key Key h g e = absurd cc

abbrev is_free : Form → List Form → Bool
is_free s ss = list_all (λ t. not (eqb (form_number s) (form_number t))) ss

abbrev are_distinct : List Form → Bool
are_distinct [] = true
are_distinct (s ∷ ss) = is_free s ss && are_distinct ss

turned : (b : Bool) → not b ≡ true → b ≡ false
turned true e = absurd cc
turned false e = refl

-- the first of the fields that are read
record First (s : Form) (ss : List Form) (g h : Fields) (ws rest : List Word) : Type 0 where
  word : Word
  more : List Word
  mid : Fields
  split : ws ≡ word ∷ more
  field : with_field s word g ≡ Ok mid
  others : fields_at ss mid more ≡ Ok (h, rest)

word_step : (w : Word) (ws : List Word) (x : Word × List Word) (t : Bool) →
    cond t (Err BadShape) (Ok (w, ws)) ≡ Ok x → w ∷ ws ≡ x.0 ∷ x.1
word_step w ws x true e = absurd cc
word_step w ws x false e =
    let k : (w, ws) ≡ x = ok_is (w, ws) x e in ap (λ (p : Word × List Word). p.0 ∷ p.1) k

pub word_found : (ws : List Word) (x : Word × List Word) → word_at ws ≡ Ok x → ws ≡ x.0 ∷ x.1
word_found [] x e = absurd cc
word_found (w ∷ ws) x e = word_step w ws x (eqb (length w) 0) e

first_found : (s : Form) (ss : List Form) (g h : Fields) (ws rest : List Word) →
    fields_at (s ∷ ss) g ws ≡ Ok (h, rest) → First s ss g h ws rest
unfolding fields_at
first_found s ss g h ws rest e =
    let a = bind_ok (word_at ws) (λ w. with_field s w.0 g >>= λ m. fields_at ss m w.1) (h, rest) e
    in
    let b = bind_ok (with_field s a.0.0 g) (λ m. fields_at ss m a.0.1) (h, rest) a.2 in
    record {
      word = a.0.0;
      more = a.0.1;
      mid = b.0;
      split = word_found ws a.0 a.1;
      field = b.1;
      others = b.2;
    }

kept : (s : Form) (ss : List Form) (g h : Fields) (ws rest : List Word) → is_free s ss ≡ true →
    fields_at ss g ws ≡ Ok (h, rest) → word_of s h ≡ word_of s g
unfolding fields_at
kept s [] g h ws rest f e = let k : (g, ws) ≡ (h, rest) = ok_is (g, ws) (h, rest) e in
    ap (λ (p : Fields × List Word). word_of s p.0) (sym k)
kept s (t ∷ ts) g h ws rest f e =
    let p = and_parts (not (eqb (form_number s) (form_number t))) (is_free s ts) f in
    let a = first_found t ts g h ws rest e in
    kept s ts a.mid h a.more rest p.1 a.others
    ∙ ap (word_of s) (field_found t a.word g a.mid a.field).rest
    ∙ other_word s t a.mid g (turned (eqb (form_number s) (form_number t)) p.0)

fields_found : (ss : List Form) (g h : Fields) (ws rest : List Word) → are_distinct ss ≡ true →
    fields_at ss g ws ≡ Ok (h, rest) → ws ≡ words_of ss h ++ rest
unfolding fields_at
fields_found [] g h ws rest d e = let k : (g, ws) ≡ (h, rest) = ok_is (g, ws) (h, rest) e in
    ap (λ (p : Fields × List Word). p.1) k
fields_found (s ∷ ss) g h ws rest d e =
    let p = and_parts (is_free s ss) (are_distinct ss) d in
    let a = first_found s ss g h ws rest e in
    let w : a.word ≡ word_of s h = (field_found s a.word g a.mid a.field).word ∙ sym
    (kept s ss a.mid h a.more rest p.0 a.others) in
    a.split ∙ (λ i. w i ∷ fields_found ss a.mid h a.more rest p.1 a.others i)

distinct : (k : Kind) → are_distinct (forms_of k) ≡ true
unfolding forms_of
distinct kinds.Barrier = refl
distinct kinds.Bcast = refl
distinct kinds.Gather = refl
distinct kinds.Gatherv = refl
distinct kinds.Scatter = refl
distinct kinds.Scatterv = refl
distinct kinds.Allgather = refl
distinct kinds.Allgatherv = refl
distinct kinds.Alltoall = refl
distinct kinds.Alltoallv = refl
distinct kinds.Reduce = refl
distinct kinds.Allreduce = refl
distinct kinds.ReduceScatter = refl
distinct kinds.ReduceScatterBlock = refl
distinct kinds.Scan = refl
distinct kinds.Exscan = refl
distinct kinds.NeighborAllgather = refl
distinct kinds.NeighborAllgatherv = refl
distinct kinds.NeighborAlltoall = refl
distinct kinds.NeighborAlltoallv = refl
distinct kinds.Dup = refl
distinct kinds.Split = refl
distinct kinds.Create = refl
distinct kinds.CartCreate = refl
distinct kinds.CartSub = refl

pub kind_found : (k : Kind) (g h : Fields) (ws rest : List Word) →
    fields_at (forms_of k) g ws ≡ Ok (h, rest) → ws ≡ words_of (forms_of k) h ++ rest
kind_found k g h ws rest e = fields_found (forms_of k) g h ws rest (distinct k) e

-- ---- statements

kind_made : (k : Kind) (f : Fields) → kind (signature_of k f) ≡ k
unfolding kind signature_by
kind_made kinds.Barrier f = refl
kind_made kinds.Bcast f = refl
kind_made kinds.Gather f = refl
kind_made kinds.Gatherv f = refl
kind_made kinds.Scatter f = refl
kind_made kinds.Scatterv f = refl
kind_made kinds.Allgather f = refl
kind_made kinds.Allgatherv f = refl
kind_made kinds.Alltoall f = refl
kind_made kinds.Alltoallv f = refl
kind_made kinds.Reduce f = refl
kind_made kinds.Allreduce f = refl
kind_made kinds.ReduceScatter f = refl
kind_made kinds.ReduceScatterBlock f = refl
kind_made kinds.Scan f = refl
kind_made kinds.Exscan f = refl
kind_made kinds.NeighborAllgather f = refl
kind_made kinds.NeighborAllgatherv f = refl
kind_made kinds.NeighborAlltoall f = refl
kind_made kinds.NeighborAlltoallv f = refl
kind_made kinds.Dup f = refl
kind_made kinds.Split f = refl
kind_made kinds.Create f = refl
kind_made kinds.CartCreate f = refl
kind_made kinds.CartSub f = refl

-- a kind's statement has in its fields what it was made of
words_made : (k : Kind) (f : Fields) →
    words_of (forms_of k) f ≡ words_of (forms_of k) (fields_of (signature_of k f) (own_of k f))
unfolding forms_of signature_by own_of word_of root reduction elem_type count numbers flags
words_made kinds.Barrier f = refl
words_made kinds.Bcast f = refl
words_made kinds.Gather f = refl
words_made kinds.Gatherv f = refl
words_made kinds.Scatter f = refl
words_made kinds.Scatterv f = refl
words_made kinds.Allgather f = refl
words_made kinds.Allgatherv f = refl
words_made kinds.Alltoall f = refl
words_made kinds.Alltoallv f = refl
words_made kinds.Reduce f = refl
words_made kinds.Allreduce f = refl
words_made kinds.ReduceScatter f = refl
words_made kinds.ReduceScatterBlock f = refl
words_made kinds.Scan f = refl
words_made kinds.Exscan f = refl
words_made kinds.NeighborAllgather f = refl
words_made kinds.NeighborAllgatherv f = refl
words_made kinds.NeighborAlltoall f = refl
words_made kinds.NeighborAlltoallv f = refl
words_made kinds.Dup f = refl
words_made kinds.Split f = refl
words_made kinds.Create f = refl
words_made kinds.CartCreate f = refl
words_made kinds.CartSub f = refl

own_made : (k : Kind) (f : Fields) → is_own_of k (own_of k f) ≡ true
unfolding own_of
own_made kinds.Barrier f = refl
own_made kinds.Bcast f = refl
own_made kinds.Gather f = refl
own_made kinds.Gatherv f = refl
own_made kinds.Scatter f = refl
own_made kinds.Scatterv f = refl
own_made kinds.Allgather f = refl
own_made kinds.Allgatherv f = refl
own_made kinds.Alltoall f = refl
own_made kinds.Alltoallv f = refl
own_made kinds.Reduce f = refl
own_made kinds.Allreduce f = refl
own_made kinds.ReduceScatter f = refl
own_made kinds.ReduceScatterBlock f = refl
own_made kinds.Scan f = refl
own_made kinds.Exscan f = refl
own_made kinds.NeighborAllgather f = refl
own_made kinds.NeighborAllgatherv f = refl
own_made kinds.NeighborAlltoall f = refl
own_made kinds.NeighborAlltoallv f = refl
own_made kinds.Dup f = refl
own_made kinds.Split f = refl
own_made kinds.Create f = refl
own_made kinds.CartCreate f = refl
own_made kinds.CartSub f = refl

words_are : (k : Kind) (f : Fields) (sig : Signature) (own : Own) → signature_of k f ≡ sig →
    own_of k f ≡ own → kind_name k ∷ words_of (forms_of k) f ≡ statement_words sig own
unfolding statement_words
words_are k f sig own s o =
    let made : kind_name k ∷ words_of (forms_of k) f ≡ kind_name (kind (signature_of k f)) ∷
    words_of (forms_of (kind (signature_of k f))) (fields_of (signature_of k f) (own_of k f)) =
    rw (kind_made k f) (ap (λ ws. kind_name k ∷ ws) (words_made k f)) in
    made
    ∙ ap (λ (t : Signature).
    kind_name (kind t) ∷ words_of (forms_of (kind t)) (fields_of t (own_of k f))) s
    ∙ ap (λ (o : Own). kind_name (kind sig) ∷ words_of (forms_of (kind sig)) (fields_of sig o))
    o

kind_named : (w : Word) (k : Kind) → kind_of w ≡ Some k → w ≡ kind_name k
unfolding kind_of
kind_named w k h = sym (found_name kind_name all_kinds w k h)

-- a statement that is read
pub record Found (ws : List Word) (sig : Signature) (own : Own) (rest : List Word) : Type 0 where
  pub words : ws ≡ statement_words sig own ++ rest
  pub form : is_own_of (kind sig) own ≡ true

-- by what was read
made_found : (k : Kind) (f : Fields) (ws more rest last : List Word) (sig : Signature) (own : Own) →
    ws ≡ kind_name k ∷ more → more ≡ words_of (forms_of k) f ++ last
    → signature_of k f ≡ sig → own_of k f ≡ own → last ≡ rest → Found ws sig own rest
made_found k f ws more rest last sig own split words s o r =
    let own_is : is_own_of k own ≡ true = ap (is_own_of k) (sym o) ∙ own_made k f in
    let kind_is : kind sig ≡ k = ap kind (sym s) ∙ kind_made k f in
    record {
      words = split ∙ ap (λ ws. kind_name k ∷ ws) words
          ∙ ap (λ ws. (kind_name k ∷ words_of (forms_of k) f) ++ ws) r
          ∙ ap (λ ws. ws ++ rest) (words_are k f sig own s o);
      form = ap (λ (j : Kind). is_own_of j own) kind_is ∙ own_is;
    }

-- all fields of the kind, and what they make
unfoldable with_kind : Kind → List Word → Result ((Signature × Own) × List Word) LineFault
with_kind k ws =
    fields_at (forms_of k) no_fields ws >>= λ f. Ok ((signature_of k f.0, own_of k f.0), f.1)

kind_made_found : (k : Kind) (w : Word) (ws more rest : List Word) (sig : Signature) (own : Own) →
    ws ≡ w ∷ more → w ≡ kind_name k → with_kind k more ≡ Ok ((sig, own), rest) →
    Found ws sig own rest
unfolding with_kind
kind_made_found k w ws more rest sig own split name e =
    let d = bind_ok (fields_at (forms_of k) no_fields more)
    (λ f. Ok ((signature_of k f.0, own_of k f.0), f.1)) ((sig, own), rest) e in
    let f = d.0.0 in
    let made : ((signature_of k f, own_of k f), d.0.1) ≡ ((sig, own), rest) = ok_is
    ((signature_of k f, own_of k f), d.0.1) ((sig, own), rest) d.2 in
    made_found k f ws more rest d.0.1 sig own (split ∙ ap (λ v. v ∷ more) name)
    (kind_found k no_fields f more d.0.1 d.1)
    (ap (λ (p : (Signature × Own) × List Word). p.0.0) made)
    (ap (λ (p : (Signature × Own) × List Word). p.0.1) made)
    (ap (λ (p : (Signature × Own) × List Word). p.1) made)

pub statement_found : (ws : List Word) (sig : Signature) (own : Own) (rest : List Word) →
    statement_at ws ≡ Ok ((sig, own), rest) → Found ws sig own rest
unfolding statement_at with_kind
statement_found ws sig own rest e =
    let a = bind_ok (word_at ws) (λ w. some_or BadKind (kind_of w.0) >>= λ k. with_kind k w.1)
    ((sig, own), rest) e in
    let b = bind_ok (some_or BadKind (kind_of a.0.0)) (λ k. with_kind k a.0.1) ((sig, own), rest)
    a.2 in
    kind_made_found b.0 a.0.0 ws a.0.1 rest sig own (word_found ws a.0 a.1)
    (kind_named a.0.0 b.0 (some_ok BadKind (kind_of a.0.0) b.0 b.1)) b.2
