-- Where the blocks of a list of sizes begin and end.
use Rattle.std.proofs.Common.{◌≡◌, ℕ, zero, suc, ◌+◌, ◌-◌, ◌*◌, ◌<◌, ◌≤◌, List, length, take}
use Rattle.std.proofs.Common.{replicate, sum, get_or, ◌∙◌, ap, arith, refl, true, false, nat_le}
use Rattle.std.proofs.Common.{nat_lt, inl, inr, add-zero, add-suc, add-one}
use Rattle.std.proofs.lemmas.Bool.{cases_lt, cases_Bool, and_parts, leb-true, ltb-true, le-ltb}
use Rattle.coll_routes.specs.Rolls.{in_block}
use Rattle.std.proofs.lemmas.List.{take_all, take-replicate, length-replicate, get_or_past}
use Rattle.std.proofs.lemmas.List.Sums.{sum_by_more, sum_by-take-le}
use Rattle.std.proofs.lemmas.List.Folds.{sum_by-replicate}

pub sum_more : (sizes : List ℕ) (k : ℕ) → k < length sizes →
    sum (take (k + 1) sizes) ≡ sum (take k sizes) + get_or sizes k 0
sum_more sizes k h = sum_by_more (λ x. x) sizes k 0 h

pub sum_prefix : (sizes : List ℕ) (k : ℕ) → sum (take k sizes) ≤ sum sizes
sum_prefix sizes k = sum_by-take-le (λ x. x) sizes k

pub sum_whole : (sizes : List ℕ) (k : ℕ) → length sizes ≤ k → sum (take k sizes) ≡ sum sizes
sum_whole sizes k h = ap sum (take_all k sizes h)

-- the same where the list has ended
pub size_more : (sizes : List ℕ) (k : ℕ) →
    sum (take (k + 1) sizes) ≡ sum (take k sizes) + get_or sizes k 0
size_more sizes k = elim (cases_lt k (length sizes)) as
    (λ _. sum (take (k + 1) sizes) ≡ sum (take k sizes) + get_or sizes k 0) [
      | inl within ↦ sum_more sizes k within
      | inr past
          ↦ omega (
            arith,
            sum_whole sizes k past,
            sum_whole sizes (k + 1) (omega arith),
            get_or_past sizes k 0 past,
          )
    ]

-- a later block begins no earlier
pub sum_later : (sizes : List ℕ) (k d : ℕ) → sum (take k sizes) ≤ sum (take (k + d) sizes)
sum_later sizes k zero = rw add-zero (omega arith)
sum_later sizes k (suc d) =
    rw (add-suc, ← add-one) (omega (arith, sum_later sizes k d, size_more sizes (k + d)))

later_at : (sizes : List ℕ) (k n : ℕ) → k ≤ n → sum (take k sizes) ≤ sum (take n sizes)
later_at sizes k n h =
    let there : k + (n - k) ≡ n = omega arith in rw there at (sum_later sizes k (n - k))

-- a block of size 0 has no element
pub empty_block : (sizes : List ℕ) (b x : ℕ) → sum (take (b + 1) sizes) ≤ sum (take b sizes) →
    in_block sizes b x ≡ false
empty_block sizes b x h =
    elim (cases_Bool (nat_le (sum (take b sizes)) x)) as (λ _. in_block sizes b x ≡ false) [
      | inl from
          ↦ rw from (le-ltb x (sum (take (b + 1) sizes))
          (let low = leb-true (sum (take b sizes)) x from in omega arith))
      | inr before ↦ rw before refl
    ]

-- blocks are disjoint
pub one_block : (sizes : List ℕ) (b c x : ℕ) → in_block sizes b x ≡ true →
    in_block sizes c x ≡ true → b ≡ c
one_block sizes b c x e f =
    let first = and_parts (nat_le (sum (take b sizes)) x) (nat_lt x (sum (take (b + 1) sizes))) e in
    let second = and_parts (nat_le (sum (take c sizes)) x) (nat_lt x (sum (take (c + 1) sizes))) f
    in
    let b_from = leb-true (sum (take b sizes)) x first.0 in
    let b_to = ltb-true x (sum (take (b + 1) sizes)) first.1 in
    let c_from = leb-true (sum (take c sizes)) x second.0 in
    let c_to = ltb-true x (sum (take (c + 1) sizes)) second.1 in
    elim (cases_lt b c) as (λ _. b ≡ c) [
      | inl before
          ↦ (let later : sum (take (b + 1) sizes) ≤ sum (take c sizes) = later_at sizes (b + 1) c
          (omega arith) in absurd (omega arith))
      | inr after ↦ elim (cases_lt c b) as (λ _. b ≡ c) [
        | inl before
            ↦ (let later : sum (take (c + 1) sizes) ≤ sum (take b sizes) = later_at sizes (c + 1) b
            (omega arith) in absurd (omega arith))
        | inr same ↦ omega arith
      ]
    ]

pub even_whole : (n size : ℕ) → sum (replicate n size) ≡ n * size
even_whole n size = sum_by-replicate (λ x. x) n size

pub even_start : (n size b : ℕ) → b ≤ n → sum (take b (replicate n size)) ≡ b * size
even_start n size b h = ap sum (take-replicate b n size h) ∙ even_whole b size

pub even_past : (n size b : ℕ) → n ≤ b → sum (take b (replicate n size)) ≡ n * size
even_past n size b h = ap sum
    (take_all b (replicate n size) (omega (arith, length-replicate n size))) ∙ even_whole n size

pub size_inside : (n size b : ℕ) → b < n → get_or (replicate n size) b 0 ≡ size
size_inside zero size b h = absurd (omega arith)
size_inside (suc n) size zero h = refl
size_inside (suc n) size (suc b) h = size_inside n size b (omega arith)

pub size_past : (n size b : ℕ) → n ≤ b → get_or (replicate n size) b 0 ≡ 0
size_past zero size b h = refl
size_past (suc n) size zero h = absurd (omega arith)
size_past (suc n) size (suc b) h = size_past n size b (omega arith)

pub ruleset blocks = (sum_more, sum_prefix, sum_whole)

pub ruleset even_blocks = (even_whole, even_start, even_past)

pub ruleset even_sizes = (size_inside, size_past)
