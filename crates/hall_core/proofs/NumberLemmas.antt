-- Lists by number.
use Rattle.std.proofs.Common.{◌≡◌, ◌≢◌, ℕ, zero, suc, ◌+◌, ◌<◌, ◌≤◌}
use Rattle.std.proofs.Common.{[], ◌∷◌, ◌++◌, length, set}
use Rattle.std.proofs.Common.{refl, sym, ap, ◌∙◌, arith, get_or, ⊎_elim}
use Rattle.std.proofs.lemmas.Bool.{cases_Bool, cond-true, cond-false, false≢true}
use Rattle.std.proofs.lemmas.List.{get_or_past}
use Rattle.hall_core.specs.Slots.{by_number}

module _ {X : Type 0} where
  pub long : (f : ℕ → X) (first n : ℕ) → length (by_number f first n) ≡ n
  long f first zero = refl
  long f first (suc n) = ap suc (long f (first + 1) n)

  at_number : (f : ℕ → X) (first n j : ℕ) (d : X) → j < n →
      get_or (by_number f first n) j d ≡ f (first + j)
  at_number f first zero j d low = absurd (omega (arith, low))
  at_number f first (suc n) zero d low = let e : first ≡ first + zero = omega arith in ap f e
  at_number f first (suc n) (suc j) d low =
      let e : first + 1 + j ≡ first + suc j = omega arith in
      at_number f (first + 1) n j d (omega (arith, low)) ∙ ap f e

  -- past the end, too, where there is nothing
  pub at_any : (f : ℕ → X) (n j : ℕ) (d : X) → ((i : ℕ) → n ≤ i → f i ≡ d) →
      get_or (by_number f 0 n) j d ≡ f j
  at_any f n j d none = ⊎_elim
      (λ (low : j < n). at_number f 0 n j d low
      ∙ (let e : 0 + j ≡ j = omega arith in ap f e))
      (λ (past : n ≤ j). get_or_past (by_number f 0 n) j d
      (let is = long f 0 n in omega (arith, is, past)) ∙ sym (none j past))
      (Rattle.std.proofs.lemmas.Bool.cases_lt j n)

  pub alike : (f g : ℕ → X) (first n : ℕ) → ((i : ℕ) → first ≤ i → i < first + n → f i ≡ g i) →
      by_number f first n ≡ by_number g first n
  alike f g first zero same = refl
  alike f g first (suc n) same = λ i.
      same first (omega arith) (omega arith) i
      ∷ alike f g (first + 1) n (λ j low high. same j (omega (arith, low)) (omega (arith, high))) i

  pub but_one : (f g : ℕ → X) (first n j : ℕ) (x : X) → g (first + j) ≡ x →
      ((i : ℕ) → i ≢ first + j → g i ≡ f i) → by_number g first n ≡ set (by_number f first n) j x
  but_one f g first zero j x at same = refl
  but_one f g first (suc n) zero x at same =
      let e : first ≡ first + zero = omega arith in λ i.
      (ap g e ∙ at) i
      ∷ alike g f (first + 1) n (λ j low high. same j (λ is. omega (arith, is, low))) i
  but_one f g first (suc n) (suc j) x at same =
      let e : first + 1 + j ≡ first + suc j = omega arith in λ i.
      same first (λ is. omega (arith, is)) i
      ∷ but_one f g (first + 1) n j x (ap g e ∙ at)
      (λ k apart. same k (λ is. apart (omega (arith, is)))) i

  pub one_more : (f : ℕ → X) (first n : ℕ) →
      by_number f first (suc n) ≡ by_number f first n ++ f (first + n) ∷ []
  one_more f first zero = let e : first ≡ first + zero = omega arith in ap (λ k. f k ∷ []) e
  one_more f first (suc n) =
      let e : first + 1 + n ≡ first + suc n = omega arith in
      ap (λ xs. f first ∷ xs)
      (one_more f (first + 1) n ∙ ap (λ k. by_number f (first + 1) n ++ f k ∷ []) e)
