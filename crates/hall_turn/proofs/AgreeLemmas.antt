-- What the rule says of the views, after a change of one, two, or one more.
use Rattle.std.proofs.Common.{◌≡◌, ◌≢◌, ◌⊎◌, ℕ, zero, suc, List, [], ◌∷◌, ◌++◌, length, map, set}
use Rattle.std.proofs.Common.{refl, sym, ap, ◌∙◌, subst, inl, inr, ⊎_elim}
use mathlib.Core.Option as opt
use mathlib.Core.Option.{some-injective, some-ne-none}
use lib.ListN.{get_elem?}
use Rattle.atomic_table.proofs.Lists.{at_set}
use Rattle.wall_policy.specs.Policy.{ChineseWall}
use Rattle.run_model.specs.Runs.{Entry}
use Rattle.hall_turn.specs.Views.{SeatView}
use Rattle.hall_turn.specs.Turns.{Fits, Apart, Agree}

pub apart_turned : (v w : SeatView) → Apart v w → Apart w v
apart_turned v w a = record {
  processes = λ x y i j p q at bt e. a.processes y x j i q p bt at (sym e);
  tickets = λ t x y. a.tickets t y x;
  makers = λ x y. a.makers y x;
}

module _ {A : Type 0} where
  pub set_swap : (xs : List A) (i j : ℕ) (a b : A) → i ≢ j →
      set (set xs i a) j b ≡ set (set xs j b) i a
  set_swap [] i j a b ne = refl
  set_swap (x ∷ xs) zero zero a b ne = absurd (ne refl)
  set_swap (x ∷ xs) zero (suc j) a b ne = refl
  set_swap (x ∷ xs) (suc i) zero a b ne = refl
  set_swap (x ∷ xs) (suc i) (suc j) a b ne =
      ap (λ l. x ∷ l) (set_swap xs i j a b (λ e. ne (ap suc e)))

  pub set_at : (xs : List A) (i : ℕ) (x y : A) → get_elem? xs i ≡ opt.some x →
      get_elem? (set xs i y) i ≡ opt.some y
  set_at [] i x y e = absurd (some-ne-none x (sym e))
  set_at (z ∷ zs) zero x y e = refl
  set_at (z ∷ zs) (suc i) x y e = set_at zs i x y e

  pub at_end : (xs : List A) (a b : A) (j : ℕ) → get_elem? (xs ++ a ∷ []) j ≡ opt.some b →
      (get_elem? xs j ≡ opt.some b) ⊎ ((j ≡ length xs) × (a ≡ b))
  at_end [] a b zero e = inr (refl, some-injective a b e)
  at_end [] a b (suc j) e = absurd (some-ne-none b (sym e))
  at_end (x ∷ xs) a b zero e = inl e
  at_end (x ∷ xs) a b (suc j) e = ⊎_elim (λ l. inl l)
      (λ (r : (j ≡ length xs) × (a ≡ b)). inr (ap suc r.0, r.1)) (at_end xs a b j e)

  pub at_both : (xs ys : List A) (i : ℕ) (b : A) → get_elem? (xs ++ ys) i ≡ opt.some b →
      ((j : ℕ) × (get_elem? xs j ≡ opt.some b)) ⊎ ((j : ℕ) × (get_elem? ys j ≡ opt.some b))
  at_both [] ys i b e = inr (i, e)
  at_both (x ∷ xs) ys zero b e = inl (0, e)
  at_both (x ∷ xs) ys (suc i) b e = ⊎_elim
      (λ (l : (j : ℕ) × (get_elem? xs j ≡ opt.some b)). inl (suc l.0, l.1)) (λ r. inr r)
      (at_both xs ys i b e)

pub at_unmap : {A B : Type 0} (f : A → B) (xs : List A) (i : ℕ) (b : B) →
    get_elem? (map f xs) i ≡ opt.some b → (a : A) × (get_elem? xs i ≡ opt.some a) × (f a ≡ b)
at_unmap f [] i b e = absurd (some-ne-none b (sym e))
at_unmap f (x ∷ xs) zero b e = (x, refl, some-injective (f x) b e)
at_unmap f (x ∷ xs) (suc i) b e = at_unmap f xs i b e

-- what holds of the first, and of each other
pub at_first : {A : Type 0} (P : A → Type 0) (x : A) (xs : List A) → P x →
    ((i : ℕ) (a : A) → get_elem? xs i ≡ opt.some a → P a) → (i : ℕ) (a : A) →
    get_elem? (x ∷ xs) i ≡ opt.some a → P a
at_first P x xs p ps zero a e = subst P (some-injective x a e) p
at_first P x xs p ps (suc i) a e = ps i a e

module _ (wall : ChineseWall) (made : ℕ) (run : List Entry) (next : ℕ) where
  pub agree_set : (made' : ℕ) (run' : List Entry) (next' : ℕ) (views : List SeatView) →
      Agree wall made run next views → (id : ℕ) (w : SeatView)
      → ((j : ℕ) (u : SeatView) → j ≢ id → get_elem? views j ≡ opt.some u →
      Fits wall made' run' next' u)
      → Fits wall made' run' next' w
      → ((j : ℕ) (u : SeatView) → j ≢ id → get_elem? views j ≡ opt.some u → Apart w u)
      → Agree wall made' run' next' (set views id w)
  agree_set made' run' next' views a id w others mine alone = record {
    each = (λ j u e. ⊎_elim
        (λ (t : (j ≡ id) × (w ≡ u)). subst (Fits wall made' run' next') t.1 mine)
        (λ (t : (j ≢ id) × (get_elem? views j ≡ opt.some u)). others j u t.0 t.1)
        (at_set views id j w u e));
    apart = (λ i j x y ex ey ne.
        ⊎_elim
        (λ (t : (i ≡ id) × (w ≡ x)).
        ⊎_elim
        (λ (z : (j ≡ id) × (w ≡ y)). absurd (ne (t.0 ∙ sym z.0)))
        (λ (z : (j ≢ id) × (get_elem? views j ≡ opt.some y)).
        subst (λ (u : SeatView). Apart u y) t.1 (alone j y z.0 z.1))
        (at_set views id j w y ey))
        (λ (t : (i ≢ id) × (get_elem? views i ≡ opt.some x)).
        ⊎_elim
        (λ (z : (j ≡ id) × (w ≡ y)). subst (Apart x) z.1 (apart_turned w x (alone i x t.0 t.1)))
        (λ (z : (j ≢ id) × (get_elem? views j ≡ opt.some y)). a.apart i j x y t.1 z.1 ne)
        (at_set views id j w y ey))
        (at_set views id i w x ex));
  }

  pub agree_push : (views : List SeatView) → Agree wall made run next views → (w : SeatView) →
      Fits wall made run next w
      → ((j : ℕ) (u : SeatView) → get_elem? views j ≡ opt.some u → Apart w u)
      → Agree wall made run next (views ++ w ∷ [])
  agree_push views a w mine alone = record {
    each = (λ j u e. ⊎_elim (λ (t : get_elem? views j ≡ opt.some u). a.each j u t)
        (λ (t : (j ≡ length views) × (w ≡ u)). subst (Fits wall made run next) t.1 mine)
        (at_end views w u j e));
    apart = (λ i j x y ex ey ne.
        ⊎_elim
        (λ (t : get_elem? views i ≡ opt.some x).
        ⊎_elim
        (λ (z : get_elem? views j ≡ opt.some y). a.apart i j x y t z ne)
        (λ (z : (j ≡ length views) × (w ≡ y)). subst (Apart x) z.1 (apart_turned w x (alone i x t)))
        (at_end views w y j ey))
        (λ (t : (i ≡ length views) × (w ≡ x)).
        ⊎_elim
        (λ (z : get_elem? views j ≡ opt.some y).
        subst (λ (u : SeatView). Apart u y) t.1 (alone j y z))
        (λ (z : (j ≡ length views) × (w ≡ y)). absurd (ne (t.0 ∙ sym z.0)))
        (at_end views w y j ey))
        (at_end views w x i ex));
  }
