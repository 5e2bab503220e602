-- Look-ups.
use Rattle.std.proofs.Common.{◌≡◌, ℕ, zero, suc, ◌<◌, List, [], ◌∷◌, ◌++◌, length, refl, ap, ◌∙◌}
use Rattle.std.proofs.Common.{arith, Option, Some, None, slice_get, take, drop, take_at, drop_at}

-- what stands in a list at a number within
pub there : {X : Type 0} (xs : List X) (n : ℕ) → n < length xs → (x : X) × (slice_get xs n ≡ Some x)
there [] n low = absurd (omega (arith, low))
there (x ∷ xs) zero low = (x, refl)
there (x ∷ xs) (suc n) low = there xs n (omega (arith, low))

-- a list of look-ups with one more, for which nothing is found
pub look_push : {X Y : Type 0} (f : Option X → Y) (xs : List X) (x : X) → f (Some x) ≡ f None →
    ◌≡◌ {A = ℕ → Y} (λ n. f (slice_get (xs ++ x ∷ []) n)) (λ n. f (slice_get xs n))
look_push {X} f xs x e = λ i n. go xs n i
  where
    go : (ys : List X) (n : ℕ) → f (slice_get (ys ++ x ∷ []) n) ≡ f (slice_get ys n)
    go [] zero = e
    go [] (suc n) = refl
    go (y ∷ ys) zero = refl
    go (y ∷ ys) (suc n) = go ys n

-- ## rows of a list

pub row_next : {X : Type 0} (xs : List X) (n k : ℕ) (x : X) → slice_get xs n ≡ Some x →
    take (suc k) (drop n xs) ≡ x ∷ take k (drop (suc n) xs)
row_next [] n k x e = absurd (cc)
row_next (y ∷ xs) zero k x e = let same : y ≡ x = cc in ap (λ z. z ∷ take k xs) same
row_next (y ∷ xs) (suc n) k x e = row_next xs n k x e

pub row_between : {X : Type 0} (xs ys zs : List X) →
    take (length ys) (drop (length xs) (xs ++ (ys ++ zs))) ≡ ys
row_between xs ys zs =
    ap (λ rest. take (length ys) rest) (drop_at xs (ys ++ zs) (length xs) refl)
    ∙ take_at ys zs (length ys) refl
