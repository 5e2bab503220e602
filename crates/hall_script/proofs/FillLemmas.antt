-- Buffers that are filled word by word.
use Rattle.std.proofs.Common.{◌≡◌, ℕ, ◌+◌, ◌/◌, ◌%◌, List, [], ◌∷◌, length, ℤ, Bool, true, false}
use Rattle.std.proofs.Common.{not, cond, ◌&&◌, eqb, Some, None, Result, Ok, Err, refl, sym, ap}
use Rattle.std.proofs.Common.{subst, ◌∙◌, append_assoc, length-append, arith}
use Rattle.std.specs.List.{list_all}
use Rattle.std.proofs.lemmas.Bool.{eqb-true, ne_eqb}
use Rattle.std.proofs.lemmas.List.{append-nil, length-map}
use Rattle.mpi_elems.specs.declared.elem_type.ElemType.{ElemType}
use Rattle.mpi_elems.specs.declared.elem_type.ElemType.TheVariants.{Int8, Int16, Int32, Int64}
use Rattle.mpi_elems.specs.declared.elem_type.ElemType.TheVariants.{Uint8, Uint16, Uint32, Uint64}
use Rattle.mpi_elems.specs.declared.elem_type.ElemType.TheVariants.{TwoInt}
use Rattle.mpi_elems.specs.declared.fault.BufferFault.{BufferFault}
use Rattle.mpi_elems.specs.declared.fault.BufferFault.TheVariants.{BadNumber, OddPair}
use Rattle.mpi_elems.specs.Types.{is_pair}
use Rattle.mpi_elems.specs.Numbers.{is_number_of}
use Rattle.mpi_elems.specs.Elements.{single, pairs_of, elements_of}
use Rattle.mpi_elems.specs.Contents.{Contents, contents}
use Rattle.mpi_elems.specs.Faults.{fault_of}
use Rattle.coll_text.specs.declared.fault.LineFault.{LineFault}
use Rattle.coll_text.specs.Numbers.{Word, signed_within}
use Rattle.coll_text.specs.Reading.{◌>>=◌, Fails, each_of}
use Rattle.hall_script.specs.Lines.{value_of, buffer_of}
use Rattle.hall_script.specs.Filling.{room_for, with_numbers, with_word, with_words}
use Rattle.coll_text.proofs.CollTextLemmas.{carried}

regroup : (b : Contents) (z : ℤ) (r : Result (List ℤ) LineFault) →
    ((r >>= λ zs. Ok (z ∷ zs)) >>= λ ns. Ok (with_numbers b ns))
    ≡ (r >>= λ ns. Ok (with_numbers (with_numbers b (z ∷ [])) ns))
regroup b z (Ok zs) = ap (λ (ns : List ℤ). Ok (contents b.elem_type ns b.room))
    (sym (append_assoc b.numbers (z ∷ []) zs))
regroup b z (Err e) = refl

ok_is : (x y : Contents) (r : Result Contents LineFault) → r ≡ Ok x → r ≡ Ok y → x ≡ y
ok_is x y (Ok z) e f = cc
ok_is x y (Err g) e f = absurd cc

step : (b new : Contents) (w : Word) (ws : List Word) (r : Result ℤ LineFault) →
    value_of b.elem_type w ≡ r → (r >>= λ z. Ok (with_numbers b (z ∷ []))) ≡ Ok new →
    with_words b (w ∷ ws) ≡ with_words new ws
unfolding each_of
step b new w ws (Ok z) h e =
    let k : with_numbers b (z ∷ []) ≡ new = ok_is (with_numbers b (z ∷ [])) new
    (Ok (with_numbers b (z ∷ []))) refl e in
    let one : with_words b (w ∷ ws) ≡ with_words (with_numbers b (z ∷ [])) ws = rw h
    (regroup b z (each_of (value_of b.elem_type) ws)) in
    one ∙ ap (λ (c : Contents). with_words c ws) k
step b new w ws (Err f) h e = absurd cc

-- a word is read
pub goes_on :
    (b new : Contents) (w : Word) (before ws : List Word) (total : Result Contents LineFault) →
    before ≡ w ∷ ws → with_word b w ≡ Ok new → with_words b before ≡ total →
    with_words new ws ≡ total
goes_on b new w before ws total split h so_far =
    sym (step b new w ws (value_of b.elem_type w) refl h)
    ∙ sym (ap (λ (vs : List Word). with_words b vs) split) ∙ so_far

stop : (b : Contents) (w : Word) (ws : List Word) (e : LineFault) (r : Result ℤ LineFault) →
    value_of b.elem_type w ≡ r → (r >>= λ z. Ok (with_numbers b (z ∷ []))) ≡ Err e →
    with_words b (w ∷ ws) ≡ Err e
unfolding each_of
stop b w ws e (Ok z) h k = absurd cc
stop b w ws e (Err f) h k = rw h k

-- a word has a fault
pub stops : (e : LineFault) (b : Contents) (w : Word) (before ws : List Word)
    (total : Result Contents LineFault) → before ≡ w ∷ ws → Fails e (with_word b w) →
    with_words b before ≡ total → Fails e total
stops e b w before ws total split h so_far =
    carried e (with_word b w) total h (λ k. sym so_far
    ∙ ap (λ (vs : List Word). with_words b vs) split
    ∙ stop b w ws e (value_of b.elem_type w) refl k)

pub is_done : (b : Contents) (before : List Word) (total : Result Contents LineFault) →
    before ≡ [] → with_words b before ≡ total → total ≡ Ok b
unfolding each_of
is_done b before total none so_far =
    sym so_far ∙ ap (λ (vs : List Word). with_words b vs) none
    ∙ ap (λ (ns : List ℤ). Ok (contents b.elem_type ns b.room)) (append-nil b.numbers)

-- one number more
pub record Grows (b new : Contents) : Type 0 where
  pub kind : new.elem_type ≡ b.elem_type
  pub room : new.room ≡ b.room
  pub count : length new.numbers ≡ length b.numbers + 1

grown : (b new : Contents) (r : Result ℤ LineFault) →
    (r >>= λ z. Ok (with_numbers b (z ∷ []))) ≡ Ok new → Grows b new
grown b new (Ok z) e =
    let k : with_numbers b (z ∷ []) ≡ new = ok_is (with_numbers b (z ∷ [])) new
    (Ok (with_numbers b (z ∷ []))) refl e in
    subst (Grows b) k
    (record { kind = refl; room = refl; count = length-append b.numbers (z ∷ []) })
grown b new (Err f) e = absurd cc

pub grows : (b new : Contents) (w : Word) → with_word b w ≡ Ok new → Grows b new
grows b new w e = grown b new (value_of b.elem_type w) e

-- ---- plain words

-- a word that spells a number is not empty
pub some_word : (most least : ℕ) (w : Word) (z : ℤ) → signed_within most least w ≡ Some z →
    eqb (length w) 0 ≡ false
unfolding signed_within
some_word most least [] z e = absurd cc
some_word most least (b ∷ bs) z e =
    let other : length (b ∷ bs) ≡ 0 → ⊥ = λ h. absurd (omega arith) in
    ne_eqb (length (b ∷ bs)) 0 other

-- ---- room

pairs_count : (ns : List ℤ) → length ns % 2 ≡ 0 →
    length ns / 2 + length ns % 2 ≡ length (pairs_of ns)
unfolding pairs_of
pairs_count [] e = refl
pairs_count (a ∷ []) e = absurd (omega arith)
pairs_count (a ∷ i ∷ ns) e =
    let even : length ns % 2 ≡ 0 = omega arith in let h = pairs_count ns even in omega (arith, h)

pub room_is_exact : (ty : ElemType) (ns : List ℤ) → (is_pair ty ≡ true → length ns % 2 ≡ 0) →
    room_for ty (length ns) ≡ length (elements_of ty ns)
unfolding elements_of
room_is_exact Int8 ns even = sym (length-map ns single)
room_is_exact Int16 ns even = sym (length-map ns single)
room_is_exact Int32 ns even = sym (length-map ns single)
room_is_exact Int64 ns even = sym (length-map ns single)
room_is_exact Uint8 ns even = sym (length-map ns single)
room_is_exact Uint16 ns even = sym (length-map ns single)
room_is_exact Uint32 ns even = sym (length-map ns single)
room_is_exact Uint64 ns even = sym (length-map ns single)
room_is_exact TwoInt ns even = pairs_count ns (even refl)

-- ---- the end

none_is : (p q : Bool) (x y : BufferFault) → cond p (Some x) (cond q (Some y) None) ≡ None →
    q ≡ false
none_is true q x y e = absurd cc
none_is false true x y e = absurd cc
none_is false false x y e = refl

even_of : (t : Bool) (n : ℕ) (u : Bool) → eqb n 0 ≡ u → (t && not u) ≡ false → t ≡ true → n ≡ 0
even_of true n true e h k = eqb-true n 0 e
even_of true n false e h k = absurd cc
even_of false n u e h k = absurd cc

-- numbers without a fault are a buffer
pub is_whole : (b : Contents) → fault_of b.elem_type b.numbers ≡ None →
    b.room ≡ room_for b.elem_type (length b.numbers) → buffer_of b.elem_type b.numbers ≡ Ok b
unfolding buffer_of
is_whole b sound room =
    let odd : (is_pair b.elem_type && not (eqb (length b.numbers % 2) 0)) ≡ false =
    none_is (not (list_all (is_number_of b.elem_type) b.numbers))
    (is_pair b.elem_type && not (eqb (length b.numbers % 2) 0)) BadNumber OddPair sound in
    let even = even_of (is_pair b.elem_type) (length b.numbers % 2) (eqb (length b.numbers % 2) 0)
    refl odd in
    rw odd (ap (λ (n : ℕ). Ok (contents b.elem_type b.numbers n))
    (sym (room ∙ room_is_exact b.elem_type b.numbers even)))
