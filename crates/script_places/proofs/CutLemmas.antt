-- Words at the front of a line.
use Rattle.std.proofs.Common.{◌≡◌, ℕ, zero, suc, ◌+◌, ◌<◌, ◌≤◌, ◌==◌, Bool, true}
use Rattle.std.proofs.Common.{false, List}
use Rattle.std.proofs.Common.{[], ◌∷◌, ◌++◌, length, take, drop, Some, refl, sym, ap}
use Rattle.std.proofs.Common.{◌∙◌}
use Rattle.std.proofs.Common.{arith, cond, slice_get}
use Rattle.std.specs.Prelude.{sum_by}
use Rattle.std.specs.List.{slice_split, onto_first}
use Rattle.std.proofs.lemmas.List.Splits.{length-slice_split}
use Rattle.std.proofs.lemmas.List.Sums.{sum_by-cons}
use Rattle.coll_text.specs.Reading.{parts}
use Rattle.script_places.specs.Cuts.{IsCut}

---- the parts of a text round a separator

-- the first part is one of these
first_of : (x : ℕ) (ps qs : List (List ℕ)) → 0 < length ps →
    onto_first x (ps ++ qs) ≡ onto_first x ps ++ qs
first_of x [] qs some = absurd (omega arith)
first_of x (p ∷ ps) qs some = refl

some_part : (p : ℕ → Bool) (xs : List ℕ) → 0 < length (slice_split p xs)
some_part p xs = let n = length-slice_split p xs in omega arith

pub parts_apart : (p : ℕ → Bool) (xs : List ℕ) (y : ℕ) (ys : List ℕ) → p y ≡ true →
    slice_split p (xs ++ y ∷ ys) ≡ slice_split p xs ++ slice_split p ys
parts_apart p [] y ys cut = ap (λ b. cond b ([] ∷ slice_split p ys)
    (onto_first y (slice_split p ys))) cut
parts_apart p (x ∷ xs) y ys cut =
    let later = parts_apart p xs y ys cut in
    ap (λ ps. cond (p x) ([] ∷ ps) (onto_first x ps)) later
    ∙ go (p x)
  where
    go : (b : Bool) →
        cond b ([] ∷ (slice_split p xs ++ slice_split p ys))
        (onto_first x (slice_split p xs ++ slice_split p ys))
        ≡ cond b ([] ∷ slice_split p xs) (onto_first x (slice_split p xs)) ++ slice_split p ys
    go true = refl
    go false = first_of x (slice_split p xs) (slice_split p ys) (some_part p xs)

-- how long the parts are, with a separator behind each
pub parts_long : (p : ℕ → Bool) (xs : List ℕ) →
    sum_by (λ w. length w + 1) (slice_split p xs) ≡ length xs + 1
parts_long p [] = refl
parts_long p (x ∷ xs) = go (parts_long p xs) (p x)
  where
    longer : (ps : List (List ℕ)) → 0 < length ps →
        sum_by (λ w. length w + 1) (onto_first x ps) ≡ sum_by (λ w. length w + 1) ps + 1
    longer [] some = absurd (omega arith)
    longer (q ∷ ps) some =
        let one = sum_by-cons (λ (w : List ℕ). length w + 1) (x ∷ q) ps in
        let two = sum_by-cons (λ (w : List ℕ). length w + 1) q ps in
        omega (arith, one, two)

    go : sum_by (λ w. length w + 1) (slice_split p xs) ≡ length xs + 1 → (b : Bool) →
        sum_by (λ w. length w + 1)
        (cond b ([] ∷ slice_split p xs) (onto_first x (slice_split p xs)))
        ≡ length (x ∷ xs) + 1
    go later true =
        let one = sum_by-cons (λ (w : List ℕ). length w + 1) [] (slice_split p xs) in
        omega (arith, one, later)
    go later false =
        let more = longer (slice_split p xs) (some_part p xs) in
        omega (arith, more, later)

---- cuts

take_append : {X : Type 0} (xs ys : List X) → take (length xs) (xs ++ ys) ≡ xs
take_append [] ys = refl
take_append (x ∷ xs) ys = ap (λ zs. x ∷ zs) (take_append xs ys)

-- where a byte of a line stands
split_at : (line : List ℕ) (e b : ℕ) → slice_get line e ≡ Some b →
    line ≡ take e line ++ b ∷ drop (e + 1) line
split_at [] e b at = absurd cc
split_at (x ∷ xs) zero b at = let same : x ≡ b = cc in ap (λ y. y ∷ xs) same
split_at (x ∷ xs) (suc e) b at =
    let more : suc e + 1 ≡ suc (e + 1) = omega arith in
    ap (λ zs. x ∷ zs) (split_at xs e b at)
    ∙ ap (λ n. x ∷ (take e xs ++ b ∷ drop n (x ∷ xs))) (sym more)

-- the words before a space are the first words of the line
pub cut_space : (line : List ℕ) (e : ℕ) → slice_get line e ≡ Some 32 → e ≤ length line →
    IsCut line (length (parts 32 (take e line))) e
cut_space line e at within = (
  within,
  sym (take_append (parts 32 (take e line)) (parts 32 (drop (e + 1) line)))
      ∙ ap (λ ws. take (length (parts 32 (take e line))) ws)
      (sym (parts_apart (λ b. b == 32) (take e line) 32 (drop (e + 1) line) refl)
      ∙ ap (parts 32) (sym (split_at line e 32 at))),
)
