-- The fault of a line stands in one place.
use Rattle.std.proofs.Common.{◌≡◌, ℕ, zero, suc, ◌+◌, ◌<◌, ◌≤◌, true, List, [], ◌∷◌}
use Rattle.std.proofs.Common.{◌++◌}
use Rattle.std.proofs.Common.{length, take, drop, Some, Err, refl, sym, ap, ◌∙◌, subst, arith, inl}
use Rattle.std.proofs.Common.{inr}
use Rattle.std.proofs.Common.{append_assoc, slice_get}
use Rattle.std.specs.Prelude.{Result, Ok, IsOk}
use Rattle.std.specs.List.{list_all}
use Rattle.std.proofs.lemmas.Bool.{cases_lt, false≢true, and_parts}
use Rattle.std.proofs.lemmas.List.{take-take, take_all}
use Rattle.coll_text.specs.declared.fault.LineFault.{LineFault}
use Rattle.coll_text.specs.Numbers.{Word}
use Rattle.run_model.specs.declared.call.Call.{Call}
use Rattle.coll_text.specs.Reading.{parts, is_printable}
use Rattle.hall_script.specs.Lines.{call_of, answer_to}
use Rattle.script_places.specs.Places.{HaveFault, StandsAt, StandsBehind, IsUnprintable}
use Rattle.script_places.specs.Places.{IsWordColumn}
use Rattle.script_places.specs.Places.{IsColumn, column_of}
use Rattle.script_places.specs.Laws.{ColumnsAreUnique}

pub take_drop : {X : Type 0} (n : ℕ) (xs : List X) → xs ≡ take n xs ++ drop n xs
take_drop zero xs = refl
take_drop (suc n) [] = refl
take_drop (suc n) (x ∷ xs) = ap (λ rest. x ∷ rest) (take_drop n xs)

module _ (datasets ws : List Word) (fault : LineFault) where
  -- words that have the fault have it with more words too
  have_more : (n m : ℕ) → n ≤ m → HaveFault datasets (take n ws) fault →
      HaveFault datasets (take m ws) fault
  have_more n m more have rest =
      let prefix : take n (take m ws) ≡ take n ws = take-take n m ws more in
      ap (λ vs. call_of datasets (vs ++ rest))
      (take_drop n (take m ws) ∙ ap (λ vs. vs ++ drop n (take m ws)) prefix)
      ∙ ap (call_of datasets) (append_assoc (take n ws) (drop n (take m ws)) rest)
      ∙ have (drop n (take m ws) ++ rest)

  one_word : (i k : ℕ) → StandsAt datasets ws fault i → StandsAt datasets ws fault k → i ≡ k
  one_word i k at there = elim (cases_lt i k) [
    | inl low ↦ absurd (there.not_before (have_more (i + 1) k (omega arith) at.up_to))
    | inr high ↦ elim (cases_lt k i) [
      | inl low ↦ absurd (at.not_before (have_more (k + 1) i (omega arith) there.up_to))
      | inr same ↦ omega arith
    ]
  ]

  not_both : (i : ℕ) → StandsAt datasets ws fault i → StandsBehind datasets ws fault → ⊥
  not_both i at behind =
      let whole : take (length ws) ws ≡ ws = take_all (length ws) ws (omega arith) in
      let within = at.within in
      behind.not_before (subst (λ vs. HaveFault datasets vs fault) whole
      (have_more (i + 1) (length ws) (omega arith) at.up_to))

-- a byte of a line of which all are printable
printable_at : (line : List ℕ) (n b : ℕ) → list_all is_printable line ≡ true →
    slice_get line n ≡ Some b → is_printable b ≡ true
printable_at [] n b all at = absurd cc
printable_at (x ∷ xs) zero b all at =
    let same : x ≡ b = cc in
    ap is_printable (sym same) ∙ (and_parts (is_printable x) (list_all is_printable xs) all).0
printable_at (x ∷ xs) (suc n) b all at =
    printable_at xs n b (and_parts (is_printable x) (list_all is_printable xs) all).1 at

-- a byte at the front
prefix_at : (line : List ℕ) (n m b : ℕ) → n < m → slice_get line n ≡ Some b →
    slice_get (take m line) n ≡ Some b
prefix_at [] n m b low at = absurd cc
prefix_at (x ∷ xs) n zero b low at = absurd (omega arith)
prefix_at (x ∷ xs) zero (suc m) b low at = at
prefix_at (x ∷ xs) (suc n) (suc m) b low at = prefix_at xs n m b (omega arith) at

one_byte : (line : List ℕ) (c d : ℕ) → IsUnprintable line c → IsUnprintable line d → c ≡ d
one_byte line c d one two = elim (cases_lt one.before two.before) [
  | inl low ↦ absurd (false≢true (sym one.unprintable
      ∙ printable_at (take two.before line) one.before one.byte two.first
      (prefix_at line one.before two.before one.byte low one.there)))
  | inr high ↦ elim (cases_lt two.before one.before) [
    | inl low ↦ absurd (false≢true (sym two.unprintable
        ∙ printable_at (take one.before line) two.before two.byte one.first
        (prefix_at line two.before one.before two.byte low two.there)))
    | inr same ↦ omega (arith, one.place, two.place)
  ]
]

pub not_printable : (line : List ℕ) (c : ℕ) → IsUnprintable line c →
    list_all is_printable line ≡ true → ⊥
not_printable line c one all = false≢true
    (sym one.unprintable ∙ printable_at line one.before one.byte all one.there)

words_unique : (datasets : List Word) (line : List ℕ) (fault : LineFault) (c d : ℕ) →
    IsWordColumn datasets line fault c → IsWordColumn datasets line fault d → c ≡ d
words_unique datasets line fault c d (inl one) (inl two) =
    let same = one_word datasets (parts 32 line) fault one.0 two.0 one.1 two.1 in
    one.2 ∙ ap (column_of (parts 32 line)) same ∙ sym two.2
words_unique datasets line fault c d (inl one) (inr two) =
    absurd (not_both datasets (parts 32 line) fault one.0 one.1 two.0)
words_unique datasets line fault c d (inr one) (inl two) =
    absurd (not_both datasets (parts 32 line) fault two.0 two.1 one.0)
words_unique datasets line fault c d (inr one) (inr two) = one.1 ∙ sym two.1

own_columns : (datasets : List Word) (line : List ℕ) (fault : LineFault) (c d : ℕ) →
    IsColumn datasets line fault c → IsColumn datasets line fault d → c ≡ d
own_columns datasets line fault c d (inl one) (inl two) = one_byte line c d one.1 two.1
own_columns datasets line fault c d (inl one) (inr two) =
    absurd (not_printable line c one.1 two.0)
own_columns datasets line fault c d (inr one) (inl two) =
    absurd (not_printable line d two.1 one.0)
own_columns datasets line fault c d (inr one) (inr two) =
    words_unique datasets line fault c d one.1 two.1

-- no line both is a call and is none
not_ok : (r : Result Call LineFault) (fault : LineFault) → r ≡ Err fault → IsOk r → ⊥
not_ok (Ok call) fault e ok = absurd cc
not_ok (Err other) fault e ok = false≢true ok

pub columns_are_unique : ColumnsAreUnique
columns_are_unique wall line fault c d (inl one) (inl two) =
    own_columns wall.dataset_names line fault c d one.1 two.1
columns_are_unique wall line fault c d (inl one) (inr two) =
    absurd (not_ok (answer_to wall.dataset_names line) fault one.0 two.0)
columns_are_unique wall line fault c d (inr one) (inl two) =
    absurd (not_ok (answer_to wall.dataset_names line) fault two.0 one.0)
columns_are_unique wall line fault c d (inr one) (inr two) = one.1 ∙ sym two.1
