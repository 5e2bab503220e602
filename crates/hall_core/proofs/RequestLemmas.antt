-- Requests that a hall has, and those that a run has made.
use Rattle.std.proofs.Common.{◌≡◌, ◌≢◌, ℕ, zero, suc, ◌+◌, ◌<◌, ◌≤◌, Bool, true, false, not, ◌||◌}
use Rattle.std.proofs.Common.{List, [], ◌∷◌, ◌++◌, length, set, refl, sym, ap, ◌∙◌, arith, Option}
use Rattle.std.proofs.Common.{Some, None, slice_get, ⊎_elim, ◌⊎◌, inl, inr, cond, eqb-true, eq-eqb}
use Rattle.std.proofs.Common.{ne_eqb}
use Rattle.std.specs.Prelude.{◌==◌, count_by, is_some, is_none}
use Rattle.std.specs.Option.{option_map_or}
use Rattle.std.specs.List.{range_with_len}
use Rattle.std.proofs.lemmas.Bool.{cases_Bool, cases_lt, cond-true, cond-false, false≢true}
use Rattle.std.proofs.lemmas.Option.{slice_get_past, slice_get-get_or}
use Rattle.std.proofs.lemmas.List.Sums.{sum_by-append}
use Rattle.mpi_cart.specs.Grids.{below}
use Rattle.run_model.specs.Runs.{Effects, requests}
use Rattle.run_model.specs.Replies.{posts_made, open_requests, is_limit_reached, too_many}
use Rattle.hall_core.specs.declared.requests.Request.{Request}
use Rattle.hall_core.specs.Asking.{opened, taken_at, open_number, updated}
use Rattle.hall_core.specs.Halls.{HallView, StandsForEffects}
use Rattle.hall_core.proofs.AskingLemmas.{place_of}

-- another thing at one number of a list
pub set_there : {X : Type 0} (xs : List X) (n : ℕ) (x : X) → n < length xs →
    slice_get (set xs n x) n ≡ Some x
set_there [] n x low = absurd (omega (arith, low))
set_there (y ∷ xs) zero x low = refl
set_there (y ∷ xs) (suc n) x low = set_there xs n x (omega (arith, low))

pub set_apart : {X : Type 0} (xs : List X) (n m : ℕ) (x : X) → m ≢ n →
    slice_get (set xs n x) m ≡ slice_get xs m
set_apart [] n m x apart = refl
set_apart (y ∷ xs) zero zero x apart = absurd (apart refl)
set_apart (y ∷ xs) zero (suc m) x apart = refl
set_apart (y ∷ xs) (suc n) zero x apart = refl
set_apart (y ∷ xs) (suc n) (suc m) x apart = set_apart xs n m x (λ e. apart (ap suc e))

-- ## one process's list, changed

pub updated_same :
    (asked : (p : ℕ) → List (Option Request)) (p q : ℕ) (list : List (Option Request)) → q ≡ p →
    updated asked p list q ≡ list
updated_same asked p q list is = cond-true (q == p) list (asked q) (eq-eqb q p is)

pub updated_other :
    (asked : (p : ℕ) → List (Option Request)) (p q : ℕ) (list : List (Option Request)) → q ≢ p →
    updated asked p list q ≡ asked q
updated_other asked p q list apart = cond-false (q == p) list (asked q) (ne_eqb q p apart)

pub same_or_not : (a b : ℕ) → (a ≡ b) ⊎ (a ≢ b)
same_or_not a b = ⊎_elim (λ t. inl (eqb-true a b t))
    (λ f. inr (λ e. false≢true (sym f ∙ eq-eqb a b e))) (cases_Bool (a == b))

-- ## a request more

-- a new request is not taken
pub taken_more : (list : List (Option Request)) (q : Request) (r : ℕ) →
    taken_at (list ++ Some q ∷ []) r ≡ taken_at list r
taken_more [] q zero = refl
taken_more [] q (suc r) = refl
taken_more (x ∷ list) q zero = refl
taken_more (x ∷ list) q (suc r) = taken_more list q r

-- an open request after that was open before, or is the new one
pub opened_more : (list : List (Option Request)) (q : Request) (r : ℕ) (f : Request) →
    opened (list ++ Some q ∷ []) r ≡ Some f →
    (opened list r ≡ Some f) ⊎ ((r ≡ length list) × (q ≡ f))
opened_more [] q zero f e = inr (refl, cc)
opened_more [] q (suc r) f e = absurd (cc)
opened_more (x ∷ list) q zero f e = inl e
opened_more (x ∷ list) q (suc r) f e = ⊎_elim (λ h. inl h)
    (λ (h : (r ≡ length list) × (q ≡ f)). inr (ap suc h.0, h.1)) (opened_more list q r f e)

-- ## a request that is taken

pub taken_closed : (list : List (Option Request)) (n r : ℕ) → n < length list →
    taken_at (set list n None) r ≡ ((n == r) || taken_at list r)
taken_closed list n r low = ⊎_elim
    (λ t.
    let is : n ≡ r = eqb-true n r t in
    ap (λ o. option_map_or is_none o false)
    (ap (λ i. slice_get (set list n None) i) (sym is) ∙ set_there list n None low)
    ∙ ap (λ b. b || taken_at list r) (sym t))
    (λ f.
    ap (λ o. option_map_or is_none o false)
    (set_apart list n r None (λ e. false≢true (sym f ∙ eq-eqb n r (sym e))))
    ∙ ap (λ b. b || taken_at list r) (sym f))
    (cases_Bool (n == r))

-- an open request after that was open before
pub opened_closed : (list : List (Option Request)) (n r : ℕ) (f : Request) →
    opened (set list n None) r ≡ Some f → opened list r ≡ Some f
opened_closed [] n r f e = e
opened_closed (x ∷ list) zero zero f e = absurd (cc)
opened_closed (x ∷ list) zero (suc r) f e = e
opened_closed (x ∷ list) (suc n) zero f e = e
opened_closed (x ∷ list) (suc n) (suc r) f e = opened_closed list n r f e

-- ## how many wait

range_next : (f : ℕ → Bool) (a n : ℕ) →
    count_by f (range_with_len (suc a) n) ≡ count_by (λ i. f (suc i)) (range_with_len a n)
range_next f a zero = refl
range_next f a (suc n) =
    let s : suc a + 1 ≡ suc (a + 1) = omega arith in
    sum_by-append (λ i. cond {A = ℕ} (f i) 1 0) (suc a ∷ []) (range_with_len (suc a + 1) n)
    ∙ (ap (λ (k : ℕ). (0 + cond {A = ℕ} (f (suc a)) 1 0) + k)
    (ap (λ m. count_by f (range_with_len m n)) s ∙ range_next f (a + 1) n)
    ∙ sym (sum_by-append (λ i. cond {A = ℕ} (f (suc i)) 1 0) (a ∷ []) (range_with_len (a + 1) n)))

same_count : (o : Option Request) →
    cond {A = ℕ} (not (is_none o)) 1 0 ≡ cond {A = ℕ} (is_some o) 1 0
same_count (Some r) = refl
same_count None = refl

-- the requests that are not taken are those that are open
count_open : (list : List (Option Request)) →
    count_by (λ r. not (taken_at list r)) (below (length list)) ≡ open_number list
count_open [] = refl
count_open (x ∷ list) =
    sum_by-append (λ r. cond {A = ℕ} (not (taken_at (x ∷ list) r)) 1 0) (0 ∷ [])
    (range_with_len 1 (length list))
    ∙ ((λ i. (0 + same_count x i)
    + (range_next (λ r. not (taken_at (x ∷ list) r)) 0 (length list) ∙ count_open list) i)
    ∙ sym (sum_by-append (λ o. cond {A = ℕ} (is_some o) 1 0) (x ∷ []) list))

-- ## what a hall knows of a request

module _ (hall : HallView) (m : Effects) (stands : StandsForEffects hall m) (p : ℕ) where
  waiting_is : open_number (hall.asked p) ≡ open_requests p m
  waiting_is = sym (count_open (hall.asked p))
      ∙ ((λ i. count_by (λ r. not (stands.taken p r i)) (below (stands.given p i))))

  pub over_is : is_limit_reached (open_number (hall.asked p)) (length (hall.asked p)) ≡ too_many p m
  over_is = λ i. is_limit_reached (waiting_is i) (stands.given p i)

  -- an open request is not taken
  pub not_taken : (r : ℕ) (q : Request) → opened (hall.asked p) r ≡ Some q → m.taken p r ≡ false
  not_taken r q e = sym (stands.taken p r)
      ∙ ap (λ o. option_map_or is_none o false) (place_of (hall.asked p) r q e)

  -- a request that is not open is unknown, or taken
  pub unknown_or_taken : (r : ℕ) → opened (hall.asked p) r ≡ None →
      (slice_get (requests p (posts_made m)) r ≡ None) ⊎ (m.taken p r ≡ true)
  unknown_or_taken r e = ⊎_elim
      (λ (low : r < length (hall.asked p)). inr (sym (stands.taken p r)
      ∙ ap (λ o. option_map_or is_none o false)
      (slice_get-get_or (hall.asked p) r None low ∙ ap (λ o. Some o) e)))
      (λ (past : length (hall.asked p) ≤ r). inl (slice_get_past (requests p (posts_made m)) r
      (let same = stands.given p in omega (arith, same, past))))
      (cases_lt r (length (hall.asked p)))
