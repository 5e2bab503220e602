-- Runs that continue one another, the entries of one process, and sums over views.
use Rattle.std.proofs.Common.{◌≡◌, ◌≢◌, ℕ, zero, suc, ◌+◌, ◌≤◌, Bool, cond, eqb, List, [], ◌∷◌}
use Rattle.std.proofs.Common.{◌++◌, length, set, refl, sym, ap, ◌∙◌, arith, append_assoc}
use Rattle.std.proofs.Common.{append-nil, length-append, eq-eqb, ne_eqb}
use Rattle.std.proofs.lemmas.List.Elements.{filter-append}
use mathlib.Core.Option.{some, some-injective, some-ne-none}
use lib.ListN.{get_elem?}
use Rattle.run_model.specs.Runs.{Entry}
use Rattle.hall_turn.specs.Runs.{Continues, calls_of}
use Rattle.hall_turn.specs.Turns.{total}

pub continues_self : (run : List Entry) → Continues run run
continues_self run = ([], refl)

pub continues_none : (run : List Entry) → Continues run []
continues_none run = (run, append-nil run)

pub continues_more : (run seen : List Entry) (e : Entry) → Continues run seen →
    Continues (e ∷ run) seen
continues_more run seen e c = (e ∷ c.0, ap (λ l. e ∷ l) c.1)

pub continues_trans : (run mid seen : List Entry) → Continues run mid → Continues mid seen →
    Continues run seen
continues_trans run mid seen c d =
    (c.0 ++ d.0, append_assoc c.0 d.0 seen ∙ ap (λ l. c.0 ++ l) d.1 ∙ c.1)

pub continues_length : (run seen : List Entry) → Continues run seen → length seen ≤ length run
continues_length run seen c = let e = ap length c.1 in omega (arith, length-append c.0 seen)

-- an entry of another process is none of p's
pub calls_of-other : (p : ℕ) (run : List Entry) (e : Entry) → e.call.process ≢ p →
    calls_of p (e ∷ run) ≡ calls_of p run
calls_of-other p run e ne =
    ap (λ (b : Bool). cond b (e ∷ calls_of p run) (calls_of p run)) (ne_eqb e.call.process p ne)

pub calls_of-own : (p : ℕ) (run : List Entry) (e : Entry) → e.call.process ≡ p →
    calls_of p (e ∷ run) ≡ e ∷ calls_of p run
calls_of-own p run e is =
    ap (λ (b : Bool). cond b (e ∷ calls_of p run) (calls_of p run)) (eq-eqb e.call.process p is)

nil_back : (xs ys : List Entry) → xs ++ ys ≡ [] → ys ≡ []
nil_back [] ys e = e
nil_back (x ∷ xs) ys e = absurd (cc)

-- a run with no calls of a process begins so
pub calls_of-none : (p : ℕ) (run seen : List Entry) → Continues run seen → calls_of p run ≡ [] →
    calls_of p seen ≡ []
calls_of-none p run seen c none =
    nil_back (calls_of p c.0) (calls_of p seen)
    (sym (filter-append (λ (x : Entry). eqb x.call.process p) c.0 seen) ∙ ap (calls_of p) c.1
    ∙ none)

module _ {A : Type 0} where
  -- a sum over a list in which one element is replaced
  pub total_set : (f : A → ℕ) (xs : List A) (i : ℕ) (x y : A) → get_elem? xs i ≡ some x →
      total f (set xs i y) + f x ≡ total f xs + f y
  total_set f [] i x y e = absurd (some-ne-none x (sym e))
  total_set f (z ∷ zs) zero x y e =
      let same : f z ≡ f x = ap f (some-injective _ _ e) in omega arith
  total_set f (z ∷ zs) (suc i) x y e = let h = total_set f zs i x y e in omega arith

  -- a sum is at least that of a smaller part of each element
  pub total_le : (f g : A → ℕ) (xs : List A) →
      ((i : ℕ) (x : A) → get_elem? xs i ≡ some x → f x ≤ g x) → total f xs ≤ total g xs
  total_le f g [] h = omega arith
  total_le f g (x ∷ xs) h = let a : f x ≤ g x = h 0 x refl in
      let b = total_le f g xs (λ i y e. h (suc i) y e) in omega arith

  pub total_at : (f : A → ℕ) (xs : List A) (i : ℕ) (x : A) → get_elem? xs i ≡ some x →
      f x ≤ total f xs
  total_at f [] i x e = absurd (some-ne-none x (sym e))
  total_at f (z ∷ zs) zero x e = let same : f z ≡ f x = ap f (some-injective _ _ e) in omega arith
  total_at f (z ∷ zs) (suc i) x e = let h = total_at f zs i x e in omega arith

  pub total_push : (f : A → ℕ) (xs : List A) (x : A) → total f (xs ++ x ∷ []) ≡ total f xs + f x
  total_push f [] x = omega arith
  total_push f (z ∷ zs) x = let h = total_push f zs x in omega arith

  pub total_two : (f : A → ℕ) (xs : List A) (i j : ℕ) (x y : A) → i ≢ j → get_elem? xs i ≡ some x →
      get_elem? xs j ≡ some y → f x + f y ≤ total f xs
  total_two f [] i j x y ne a b = absurd (some-ne-none x (sym a))
  total_two f (z ∷ zs) zero zero x y ne a b = absurd (ne refl)
  total_two f (z ∷ zs) zero (suc j) x y ne a b = let same : f z ≡ f x = ap f (some-injective _ _ a)
      in let h = total_at f zs j y b in omega arith
  total_two f (z ∷ zs) (suc i) zero x y ne a b = let same : f z ≡ f y = ap f (some-injective _ _ b)
      in let h = total_at f zs i x a in omega arith
  total_two f (z ∷ zs) (suc i) (suc j) x y ne a b =
      let h = total_two f zs i j x y (λ e. ne (ap suc e)) a b in omega arith
