-- Numbers that all pass a test.
use Rattle.std.proofs.Common.{◌≡◌, ℕ, ◌+◌, ◌<◌, ◌≤◌, Bool, true, false, List, length, get_or}
use Rattle.std.proofs.Common.{slice_get, map, Some, zero, suc, refl, ap, sym, ◌∙◌, ◌≢◌, ◌%◌, ◌/◌}
use Rattle.std.proofs.Common.{take, ℤ, pos, ◌*◌, [], ◌∷◌, ◌++◌, arith, append_assoc}
use Rattle.std.proofs.lemmas.List.{take_more, take_all}
use Rattle.mpi_elems.specs.Loops.{pairs, singles}
use Rattle.mpi_elems.proofs.ElementLemmas.{numbers_of-singles, pairs_of-pairs}
use Rattle.std.proofs.lemmas.Simd.{map-map}
use Rattle.mpi_elems.specs.Elements.{single, numbers_of, pairs_of}
use Rattle.std.specs.List.{list_all}
use Rattle.std.proofs.lemmas.List.Folds.{list_all_at}

-- the one at i does
pub passes_at : {X : Type 0} → (p : X → Bool) (xs : List X) (i : ℕ) (d : X) → list_all p xs ≡ true →
    i < length xs → p (get_or xs i d) ≡ true
passes_at p xs i d all h =
    let at : (b : Bool) → p (get_or xs i d) ≡ b → b ≡ true = λ b. elim b as
    (λ (v : Bool). p (get_or xs i d) ≡ v → v ≡ true)
    [ true ↦ λ e. refl | false ↦ λ e. let f = list_all_at p xs i d h e in cc ] in
    at _ refl

-- one pair more
pub numbers_of-pairs-more : (ps : List (ℤ × ℤ)) (p : ℤ × ℤ) →
    numbers_of (pairs (ps ++ p ∷ [])) ≡ numbers_of (pairs ps) ++ p.0 ∷ p.1 ∷ []
unfolding numbers_of
numbers_of-pairs-more [] p = refl
numbers_of-pairs-more (q ∷ ps) p = ap (λ (ns : List ℤ). q.0 ∷ q.1 ∷ ns) (numbers_of-pairs-more ps p)

pub pairs_none : (ps : List (ℤ × ℤ)) → ps ≡ [] → numbers_of (pairs ps) ≡ []
unfolding numbers_of
pairs_none ps e = ap (λ (qs : List (ℤ × ℤ)). numbers_of (pairs qs)) e

-- the two numbers at 2 * i are the next pair
pub pairs_step : (ps qs : List (ℤ × ℤ)) (xs : List ℤ) (i : ℕ) (a b : ℤ) → 2 * i + 1 < length xs →
    numbers_of (pairs ps) ≡ take (2 * i) xs → qs ≡ ps ++ (a, b) ∷ [] →
    a ≡ get_or xs (2 * i) (pos 0) → b ≡ get_or xs (2 * i + 1) (pos 0) →
    numbers_of (pairs qs) ≡ take (2 * (i + 1)) xs
pairs_step ps qs xs i a b h so is ea eb =
    let next : 2 * (i + 1) ≡ 2 * i + 1 + 1 = omega arith in
    let low : 2 * i < length xs = omega arith in
    let first = take_more xs (2 * i) (pos 0) low in
    let second = take_more xs (2 * i + 1) (pos 0) h in
    rw (is, numbers_of-pairs-more, next, second, first, so, ea, eb, append_assoc) refl

-- a pair is two numbers
pub length-numbers_of-pairs : (ps : List (ℤ × ℤ)) → length (numbers_of (pairs ps)) ≡ 2 * length ps
unfolding numbers_of
length-numbers_of-pairs [] = refl
length-numbers_of-pairs (p ∷ ps) = omega (arith, length-numbers_of-pairs ps)

-- the number at 2 * k or 2 * k + 1 is in the pair at k
pub pair_number_first : (ps : List (ℤ × ℤ)) (k : ℕ) (d : ℤ × ℤ) → k < length ps →
    slice_get (numbers_of (pairs ps)) (2 * k) ≡ Some (get_or ps k d).0
unfolding numbers_of
pair_number_first [] k d h = absurd (omega arith)
pair_number_first (p ∷ ps) zero d h = refl
pair_number_first (p ∷ ps) (suc k) d h =
    let next : 2 * suc k ≡ suc (suc (2 * k)) = omega arith in
    let less : k < length ps = omega arith in
    rw next (pair_number_first ps k d less)

pub pair_number_second : (ps : List (ℤ × ℤ)) (k : ℕ) (d : ℤ × ℤ) → k < length ps →
    slice_get (numbers_of (pairs ps)) (2 * k + 1) ≡ Some (get_or ps k d).1
unfolding numbers_of
pair_number_second [] k d h = absurd (omega arith)
pair_number_second (p ∷ ps) zero d h = refl
pair_number_second (p ∷ ps) (suc k) d h =
    let next : 2 * suc k + 1 ≡ suc (suc (2 * k + 1)) = omega arith in
    let less : k < length ps = omega arith in
    rw next (pair_number_second ps k d less)

pub get_mapped : {X : Type 0} → (f : X → ℤ) (xs : List X) (i : ℕ) (d : X) → i < length xs →
    slice_get (map f xs) i ≡ Some (f (get_or xs i d))
get_mapped f [] i d h = absurd (omega arith)
get_mapped f (x ∷ xs) zero d h = refl
get_mapped f (x ∷ xs) (suc i) d h =
    let less : i < length xs = omega arith in get_mapped f xs i d less

-- the same by the place of the number
pub even_number : (ps : List (ℤ × ℤ)) (i : ℕ) (p : ℤ × ℤ) → i < length (numbers_of (pairs ps)) →
    i % 2 ≡ 0 → p ≡ get_or ps (i / 2) p → slice_get (numbers_of (pairs ps)) i ≡ Some p.0
even_number ps i p h even is =
    let at : i ≡ 2 * (i / 2) = omega arith in
    let below : i / 2 < length ps = omega (arith, length-numbers_of-pairs ps) in
    ap (slice_get (numbers_of (pairs ps))) at ∙ pair_number_first ps (i / 2) p below
    ∙ ap (λ (q : ℤ × ℤ). Some q.0) (sym is)

pub odd_number : (ps : List (ℤ × ℤ)) (i : ℕ) (p : ℤ × ℤ) → i < length (numbers_of (pairs ps)) →
    i % 2 ≢ 0 → p ≡ get_or ps (i / 2) p → slice_get (numbers_of (pairs ps)) i ≡ Some p.1
odd_number ps i p h odd is =
    let at : i ≡ 2 * (i / 2) + 1 = omega arith in
    let below : i / 2 < length ps = omega (arith, length-numbers_of-pairs ps) in
    ap (slice_get (numbers_of (pairs ps))) at ∙ pair_number_second ps (i / 2) p below
    ∙ ap (λ (q : ℤ × ℤ). Some q.1) (sym is)

-- the number of a single at i
pub single_number : {A : Type 0} (f : A → ℤ) (xs : List A) (i : ℕ) (d : A) → i < length xs →
    slice_get (numbers_of (singles f xs)) i ≡ Some (f (get_or xs i d))
single_number f xs i d h =
    ap (λ (ns : List ℤ). slice_get ns i) (numbers_of-singles f xs) ∙ get_mapped f xs i d h

-- numbers read to the end
pub singles_read : {A : Type 0} (f : A → ℤ) (xs : List A) (ns : List ℤ) (i : ℕ) → length ns ≤ i →
    map f xs ≡ take i ns → singles f xs ≡ map single ns
singles_read f xs ns i past e = sym (map-map single f xs) ∙ ap (map single) (e ∙ take_all i ns past)

pub pairs_read : (ps : List (ℤ × ℤ)) (ns : List ℤ) (i : ℕ) → length ns ≤ 2 * i →
    numbers_of (pairs ps) ≡ take (2 * i) ns → pairs ps ≡ pairs_of ns
pairs_read ps ns i past e = sym (pairs_of-pairs ps) ∙ ap pairs_of (e ∙ take_all (2 * i) ns past)

pub length-pairs_of : (ns : List ℤ) → length (pairs_of ns) ≡ length ns / 2
unfolding pairs_of
length-pairs_of [] = refl
length-pairs_of (a ∷ []) = refl
length-pairs_of (a ∷ i ∷ ns) = omega (arith, length-pairs_of ns)
