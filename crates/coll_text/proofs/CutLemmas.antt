-- The parts of a text, by the place of the first separator.
use Rattle.std.proofs.Common.{◌≡◌, ℕ, ◌+◌, ◌<◌, ◌≤◌, Bool, true, false, cond, eqb, ltb, List, []}
use Rattle.std.proofs.Common.{◌∷◌, ◌++◌, length, get_or, take, drop, Option, Some, None, All, refl}
use Rattle.std.proofs.Common.{sym, ap, ◌∙◌, subst, eq-eqb, arith}
use Rattle.std.specs.List.{list_all, slice_split, position, position_or_len}
use Rattle.std.proofs.lemmas.Bool.{ltb-false, ltb-true, lt-ltb, le-ltb, and_parts, ne_eqb}
use Rattle.std.proofs.lemmas.List.{take_all, take-append-drop, drop_more}
use Rattle.std.proofs.lemmas.List.Elements.{All-nil, All-cons}
use Rattle.std.proofs.lemmas.List.Splits.{slice_split_first, slice_split_none, slice_split_at}
use Rattle.std.proofs.lemmas.List.Sums.{fails_before_first, position_or_len_is}
use Rattle.memchr.specs.Find.{IsFirstByte, is_byte}

some_is : (b : Bool) (i j : ℕ) → cond b (Some i) None ≡ Some j → (b ≡ true) × (i ≡ j)
some_is true i j e = (refl, cc)
some_is false i j e = absurd cc

none_is : (b : Bool) (i : ℕ) → cond b (Some i) None ≡ None → b ≡ false
none_is true i e = absurd cc
none_is false i e = refl

pub parts_none : (p : ℕ → Bool) (xs : List ℕ) → position p xs ≡ None → slice_split p xs ≡ xs ∷ []
parts_none p xs e =
    let far : length xs ≤ position_or_len p xs = ltb-false _ _
    (none_is (ltb (position_or_len p xs) (length xs)) (position_or_len p xs) e) in
    slice_split_none p xs (λ k d h. fails_before_first p xs k d (omega arith))

pub parts_some : (p : ℕ → Bool) (xs : List ℕ) (i : ℕ) → position p xs ≡ Some i →
    (i < length xs) × (slice_split p xs ≡ take i xs ∷ slice_split p (drop (i + 1) xs))
parts_some p xs i e =
    let h = some_is (ltb (position_or_len p xs) (length xs)) (position_or_len p xs) i e in
    let near : position_or_len p xs < length xs = ltb-true _ _ h.0 in
    subst (λ (j : ℕ).
    (j < length xs) × (slice_split p xs ≡ take j xs ∷ slice_split p (drop (j + 1) xs))) h.1
    (near, slice_split_first p xs 0 near)

-- no byte above a minus sign is a separator below it
free : (s : ℕ) (w : List ℕ) → s < 45 → list_all (ltb 44) w ≡ true → All (λ b. eqb b s ≡ false) w
free s [] low h = All-nil (λ b. eqb b s ≡ false)
free s (b ∷ bs) low h =
    let p = and_parts (ltb 44 b) (list_all (ltb 44) bs) h in
    let far : 44 < b = ltb-true 44 b p.0 in
    let other : b ≡ s → ⊥ = λ e. absurd (omega arith) in
    All-cons (λ c. eqb c s ≡ false) b bs (ne_eqb b s other) (free s bs low p.1)

pub whole_part : (s i : ℕ) (w : List ℕ) → s < 45 → list_all (ltb 44) (take i w) ≡ true →
    i ≡ length w → slice_split (λ b. eqb b s) w ≡ w ∷ []
whole_part s i w low h e =
    let all : list_all (ltb 44) w ≡ true = rw (take_all i w (omega (arith, e))) at h in
    slice_split_none (λ b. eqb b s) w (free s w low all)

pub prefix_part : (s i : ℕ) (w : List ℕ) → s < 45 → list_all (ltb 44) (take i w) ≡ true →
    i < length w → get_or w i 0 ≡ s →
    slice_split (λ b. eqb b s) w ≡ take i w ∷ slice_split (λ b. eqb b s) (drop (i + 1) w)
prefix_part s i w low h lt e =
    let cut : take i w ++ get_or w i 0 ∷ drop (i + 1) w ≡ w = ap (λ (v : List ℕ). take i w ++ v)
    (sym (drop_more w i 0 lt)) ∙ take-append-drop i w in
    ap (slice_split (λ b. eqb b s)) (sym cut)
    ∙ slice_split_at (λ b. eqb b s) (take i w) (get_or w i 0) (drop (i + 1) w)
    (free s (take i w) low h) (eq-eqb (get_or w i 0) s e)

not_true : (b : Bool) → (b ≡ true → ⊥) → b ≡ false
not_true true h = absurd (h refl)
not_true false h = refl

-- the first place, where it was not found before
pub place_here : (s i : ℕ) (w : List ℕ) → i < length w → get_or w i 0 ≡ s →
    ((k : ℕ) → k < i → eqb (get_or w k 0) s ≡ false) → Some i ≡ position (λ b. eqb b s) w
place_here s i w near here before =
    let p = λ (b : ℕ). eqb b s in
    let first : position_or_len p w ≡ i = position_or_len_is p w i 0 (omega (arith, near)) before
    (λ lt. eq-eqb (get_or w i 0) s here) in
    rw (lt-ltb (position_or_len p w) (length w) (omega (arith, first, near)))
    (ap (λ (n : ℕ). Some n) (sym first))

-- no place, where it was found nowhere
pub place_nowhere : (s i : ℕ) (w : List ℕ) → length w ≤ i →
    ((k : ℕ) → k < i → eqb (get_or w k 0) s ≡ false) → None ≡ position (λ b. eqb b s) w
place_nowhere s i w all before =
    let p = λ (b : ℕ). eqb b s in
    let far : position_or_len p w ≡ length w = position_or_len_is p w (length w) 0 (omega arith)
    (λ k lt. before k (omega (arith, all, lt))) (λ lt. absurd (omega arith)) in
    rw (le-ltb (position_or_len p w) (length w) (omega (arith, far))) refl

-- what a search for a byte answers is its first place
pub place_is : (s : ℕ) (w : List ℕ) (r : Option ℕ) → IsFirstByte (is_byte s) w r →
    r ≡ position (λ b. eqb b s) w
place_is s w None h =
    let p = λ (b : ℕ). eqb b s in
    let far : position_or_len p w ≡ length w = position_or_len_is p w (length w) 0 (omega arith)
    (λ k lt. not_true (p (get_or w k 0)) (h k (omega arith) lt)) (λ lt. absurd (omega arith)) in
    rw (le-ltb (position_or_len p w) (length w) (omega (arith, far))) refl
place_is s w (Some k) h =
    let p = λ (b : ℕ). eqb b s in
    let near : k < length w = h.0.high in
    let first : position_or_len p w ≡ k = position_or_len_is p w k 0 (omega (arith, near))
    (λ j lt. not_true (p (get_or w j 0)) (h.0.before j (omega arith) lt)) (λ lt. h.1) in
    rw (lt-ltb (position_or_len p w) (length w) (omega (arith, first, near)))
    (ap (λ (n : ℕ). Some n) (sym first))
