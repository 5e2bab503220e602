-- How many requests are open.
use Rattle.std.proofs.Common.{◌≡◌, ◌≢◌, ℕ, zero, suc, ◌+◌, ◌-◌, ◌<◌, ◌≤◌, Bool, true, false}
use Rattle.std.proofs.Common.{List, [], ◌∷◌, ◌++◌, length, set, get_or, replicate, Option, Some}
use Rattle.std.proofs.Common.{None, refl, sym, ap, ◌∙◌, arith, cond, ⊎_elim, ◌⊎◌}
use Rattle.std.proofs.Common.{eqb-true, eq-eqb, slice_get}
use Rattle.std.specs.Prelude.{is_some, ◌==◌}
use Rattle.std.proofs.lemmas.Bool.{cases_Bool, cond-true, cond-false, false≢true, and_parts}
use Rattle.std.proofs.lemmas.Bool.{and_from}
use Rattle.std.proofs.lemmas.Option.{slice_get-get_or}
use Rattle.std.proofs.lemmas.List.Sums.{sum_by-append, sum_by_push, sum_by-set}
use Rattle.hall_core.specs.declared.requests.Request.{Request}
use Rattle.hall_core.specs.Asking.{opened, open_number, is_for, open_in, open_for, updated}

-- ## one process

pub is_within : (list : List (Option Request)) (n : ℕ) (r : Request) → opened list n ≡ Some r →
    n < length list
is_within [] n r e = absurd (cc)
is_within (x ∷ list) zero r e = omega arith
is_within (x ∷ list) (suc n) r e = omega (arith, is_within list n r e)

-- the place of an open request
pub place_of : (list : List (Option Request)) (n : ℕ) (r : Request) → opened list n ≡ Some r →
    slice_get list n ≡ Some (Some r)
place_of list n r e = slice_get-get_or list n None (is_within list n r e) ∙ ap (λ o. Some o) e

-- one more
pub count_pushed : (xs : List (Option Request)) (r : Request) →
    open_number (xs ++ Some r ∷ []) ≡ open_number xs + 1
count_pushed xs r = sum_by_push (λ x. cond {A = ℕ} (is_some x) 1 0) xs (Some r)

-- one fewer once one of them is taken
pub count_closed : (xs : List (Option Request)) (n : ℕ) (r : Request) → opened xs n ≡ Some r →
    open_number (set xs n None) + 1 ≡ open_number xs
count_closed xs n r e =
    let f = λ (x : Option Request). cond {A = ℕ} (is_some x) 1 0 in
    let at : f (get_or xs n None) ≡ 1 = ap f e in
    let both = sum_by-set f xs n None None (is_within xs n r e) in
    omega (arith, at, both)

-- ## the requests for one instance

module _ (c k : ℕ) where
  abbrev one : Option Request → ℕ
  one x = cond {A = ℕ} (is_for c k x) 1 0

  pub count_more : (xs : List (Option Request)) (x : Option Request) →
      open_in (xs ++ x ∷ []) c k ≡ open_in xs c k + one x
  count_more xs x = sum_by_push one xs x

  pub count_fewer : (xs : List (Option Request)) (n : ℕ) (r : Request) → opened xs n ≡ Some r →
      open_in (set xs n None) c k + one (Some r) ≡ open_in xs c k
  count_fewer xs n r e =
      let at : one (get_or xs n None) ≡ one (Some r) = ap one e in
      let both = sum_by-set one xs n None None (is_within xs n r e) in
      omega (arith, at, both)

  count_cons : (x : Option Request) (xs : List (Option Request)) →
      open_in (x ∷ xs) c k ≡ one x + open_in xs c k
  count_cons x xs = let all = sum_by-append one (x ∷ []) xs in omega (arith, all)

  pub is_it : (r : Request) → r.comm ≡ c → r.k ≡ k → is_for c k (Some r) ≡ true
  is_it r a b = and_from (r.comm == c) (r.k == k) (eq-eqb r.comm c a) (eq-eqb r.k k b)

  -- who has an open request for it counts one
  pub counts_it : (xs : List (Option Request)) (n : ℕ) (r : Request) → opened xs n ≡ Some r →
      r.comm ≡ c → r.k ≡ k → 0 < open_in xs c k
  counts_it xs n r e a b =
      let is : one (Some r) ≡ 1 = ap (λ (t : Bool). cond {A = ℕ} t 1 0) (is_it r a b) in
      let all = count_fewer xs n r e in
      omega (arith, is, all)

  -- and who counts one has one
  pub record IsAsked (xs : List (Option Request)) : Type 0 where
    pub number : ℕ
    pub r : Request
    pub waits : get_or xs number None ≡ Some r
    pub of_comm : r.comm ≡ c
    pub of_number : r.k ≡ k

  later : (x : Option Request) (xs : List (Option Request)) → IsAsked xs → IsAsked (x ∷ xs)
  later x xs h = record {
    number = suc h.number;
    r = h.r;
    waits = h.waits;
    of_comm = h.of_comm;
    of_number = h.of_number;
  }

  first_or : (x : Option Request) (xs : List (Option Request)) → 0 < open_in (x ∷ xs) c k →
      (0 < open_in xs c k → IsAsked xs) → IsAsked (x ∷ xs)
  first_or None xs some rest =
      later None xs (rest (let all = count_cons None xs in omega (arith, all, some)))
  first_or (Some r) xs some rest = ⊎_elim
      (λ t. let parts = and_parts (r.comm == c) (r.k == k) t in
      record {
        number = 0;
        r = r;
        waits = refl;
        of_comm = eqb-true r.comm c parts.0;
        of_number = eqb-true r.k k parts.1;
      })
      (λ f. later (Some r) xs (rest (let all = count_cons (Some r) xs in
      let none : one (Some r) ≡ 0 = ap (λ (b : Bool). cond {A = ℕ} b 1 0) f in
      omega (arith, all, none, some))))
      (cases_Bool (is_for c k (Some r)))

  pub asks_it : (xs : List (Option Request)) → 0 < open_in xs c k → IsAsked xs
  asks_it [] some = absurd (omega (arith, some))
  asks_it (x ∷ xs) some = first_or x xs some (asks_it xs)

  -- ## all processes

  module _ (asked : (p : ℕ) → List (Option Request)) where
    pub for_one : (n p : ℕ) → p < n → open_in (asked p) c k ≤ open_for asked n c k
    for_one zero p low = absurd (omega (arith, low))
    for_one (suc n) p low = ⊎_elim
        (λ t. let same : open_in (asked p) c k ≡ open_in (asked n) c k = ap
        (λ q. open_in (asked q) c k) (eqb-true p n t) in omega (arith, same))
        (λ f. let apart : p ≢ n = (λ e. false≢true (sym f ∙ eq-eqb p n e)) in
        omega (arith, for_one n p (omega (arith, low, apart))))
        (cases_Bool (p == n))

    -- an open request for it is counted
    pub open_there : (n p number : ℕ) (r : Request) → p < n → opened (asked p) number ≡ Some r →
        r.comm ≡ c → r.k ≡ k → 0 < open_for asked n c k
    open_there n p number r low e a b =
        omega (arith, for_one n p low, counts_it (asked p) number r e a b)

    -- some process counts one
    pub record IsAskedBy (n : ℕ) : Type 0 where
      pub p : ℕ
      pub low : p < n
      pub asks : IsAsked (asked p)

    pub some_asks : (n : ℕ) → 0 < open_for asked n c k → IsAskedBy n
    some_asks zero some = absurd (omega (arith, some))
    some_asks (suc n) some = ⊎_elim
        (λ (own : 0 < open_in (asked n) c k).
        record { p = n; low = omega arith; asks = asks_it (asked n) own })
        (λ (none : open_in (asked n) c k ≤ 0).
        let h = some_asks n (omega (arith, none, some)) in
        record { p = h.p; low = omega (arith, h.low); asks = h.asks })
        (Rattle.std.proofs.lemmas.Bool.cases_lt 0 (open_in (asked n) c k))

    -- each process counts one at most
    pub at_most_each : (n : ℕ) → ((p : ℕ) → open_in (asked p) c k ≤ 1) → open_for asked n c k ≤ n
    at_most_each zero each = omega arith
    at_most_each (suc n) each = omega (arith, at_most_each n each, each n)

    -- the list of one process changed
    module _ (p : ℕ) (list : List (Option Request)) where
      own : (q : ℕ) → q ≡ p → open_in (updated asked p list q) c k ≡ open_in list c k
      own q is = ap (λ l. open_in l c k) (cond-true (q == p) list (asked q) (eq-eqb q p is))

      other : (q : ℕ) → q ≢ p → open_in (updated asked p list q) c k ≡ open_in (asked q) c k
      other q apart = ap (λ l. open_in l c k)
          (cond-false (q == p) list (asked q) (Rattle.std.proofs.Common.ne_eqb q p apart))

      same_above : (n : ℕ) → n ≤ p → open_for (updated asked p list) n c k ≡ open_for asked n c k
      same_above zero high = refl
      same_above (suc n) high =
          omega (
            arith,
            same_above n (omega (arith, high)),
            other n (λ (e : n ≡ p). omega (arith, e, high)),
          )

      pub for_updated : (n : ℕ) → p < n →
          open_for (updated asked p list) n c k + open_in (asked p) c k
          ≡ open_for asked n c k + open_in list c k
      for_updated zero low = absurd (omega (arith, low))
      for_updated (suc n) low = ⊎_elim
          (λ t.
          let is : n ≡ p = eqb-true n p t in
          let here = own n is in
          let same : open_in (asked n) c k ≡ open_in (asked p) c k = ap (λ q. open_in (asked q) c k)
          is in
          let rest = same_above n (omega (arith, is)) in
          omega (arith, here, same, rest))
          (λ f.
          let apart : n ≢ p = (λ e. false≢true (sym f ∙ eq-eqb n p e)) in
          let here = other n apart in
          let rest = for_updated n (omega (arith, low, apart)) in
          omega (arith, here, rest))
          (cases_Bool (n == p))
