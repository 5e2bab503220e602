-- The instances that wait, in their order.
use Rattle.std.proofs.Common.{◌≡◌, ◌⊎◌, ℕ, ◌+◌, List, [], ◌∷◌, ◌++◌}
use Rattle.std.proofs.Common.{sym, ◌∙◌, subst, arith, get_or, inl, inr}
use Rattle.std.specs.Prelude.{All, AllPairs}
use Rattle.std.proofs.lemmas.Bool.{cases_lt}
use Rattle.std.proofs.lemmas.List.Elements.{All-push, All-weaker, All-get_or, Contains-push}
use Rattle.std.proofs.lemmas.List.Elements.{Contains-append_left}
use Rattle.std.proofs.lemmas.List.Quantifiers.{all_pairs_push}
use Rattle.wall_policy.specs.Policy.{ChineseWall}
use Rattle.run_model.specs.declared.entry.Entry.{Entry}
use Rattle.book_report.specs.declared.wait.Wait.{Wait}
use Rattle.book_report.specs.Waits.{IsWaitingAt, IsWait, IsSooner, Precedes}
use Rattle.book_report.specs.Turns.{AreWaitsTo}

---- the order

pub sooner_rank : (a b e c k j : ℕ) → IsSooner a b e c k j → IsSooner a b e c k (j + 1)
sooner_rank a b e c k j (inl low) = inl low
sooner_rank a b e c k j (inr (same, inl low)) = inr (same, inl low)
sooner_rank a b e c k j (inr (same, inr (too, low))) = inr (same, inr (too, omega (arith, low)))

pub sooner_instance : (a b e c k j : ℕ) → IsSooner a b e c k j → IsSooner a b e c (k + 1) 0
sooner_instance a b e c k j (inl low) = inl low
sooner_instance a b e c k j (inr (same, inl low)) = inr (same, inl (omega (arith, low)))
sooner_instance a b e c k j (inr (same, inr (too, low))) = inr (same, inl (omega (arith, too)))

pub sooner_comm : (a b e c k j : ℕ) → IsSooner a b e c k j → IsSooner a b e (c + 1) 0 0
sooner_comm a b e c k j (inl low) = inl (omega (arith, low))
sooner_comm a b e c k j (inr (same, low)) = inl (omega (arith, same))

-- what is sooner than the next rank, is sooner or of this rank
rank_before : (a b e c k j : ℕ) → IsSooner a b e c k (j + 1) →
    IsSooner a b e c k j ⊎ ((a ≡ c) × (b ≡ k) × (e ≡ j))
rank_before a b e c k j (inl low) = inl (inl low)
rank_before a b e c k j (inr (same, inl low)) = inl (inr (same, inl low))
rank_before a b e c k j (inr (same, inr (too, low))) = elim (cases_lt e j) [
  | inl before ↦ inl (inr (same, inr (too, before)))
  | inr after ↦ inr (same, too, omega (arith, low, after))
]

module _ (wall : ChineseWall) (entries : List Entry) where
  pub waits_none : (waits : List Wait) → waits ≡ [] → AreWaitsTo wall entries 0 0 0 waits
  waits_none waits empties = record {
    sound = subst (λ ws. All (IsWait wall entries) ws) (sym empties)
        (λ k d low. absurd (omega arith));
    early = subst (λ ws. All (λ (it : Wait). IsSooner it.comm it.k it.rank 0 0 0) ws)
        (sym empties) (λ k d low. absurd (omega arith));
    whole = λ d l i p before is. absurd (nothing_before d l i before);
    rising = subst (λ ws. AllPairs Precedes ws) (sym empties)
        (λ i j d earlier low. absurd (omega arith));
  }
    where
      nothing_before : (d l i : ℕ) → IsSooner d l i 0 0 0 → ⊥
      nothing_before d l i (inl low) = omega (arith, low)
      nothing_before d l i (inr (same, inl low)) = omega (arith, low)
      nothing_before d l i (inr (same, inr (too, low))) = omega (arith, low)

  module _ (c k j : ℕ) (waits : List Wait) (are : AreWaitsTo wall entries c k j waits) where
    -- nothing waits up to there
    pub waits_same : (d l i : ℕ)
        → ((a b e : ℕ) → IsSooner a b e c k j → IsSooner a b e d l i)
        → ((a b e p : ℕ) → IsSooner a b e d l i → IsWaitingAt wall entries a b e p →
        IsSooner a b e c k j) → AreWaitsTo wall entries d l i waits
    waits_same d l i later none = record {
      sound = are.sound;
      early = All-weaker (λ (it : Wait). IsSooner it.comm it.k it.rank c k j)
          (λ (it : Wait). IsSooner it.comm it.k it.rank d l i)
          (λ it before. later it.comm it.k it.rank before) waits are.early;
      whole = λ a b e p before is. are.whole a b e p (none a b e p before is) is;
      rising = are.rising;
    }

    -- this one waits
    pub waits_more : (it : Wait) → it.comm ≡ c → it.k ≡ k → it.rank ≡ j →
        IsWait wall entries it → AreWaitsTo wall entries c k (j + 1) (waits ++ it ∷ [])
    waits_more it comm kth rank is = record {
      sound = All-push (IsWait wall entries) waits it are.sound is;
      early = All-push (λ (w : Wait). IsSooner w.comm w.k w.rank c k (j + 1)) waits it
          (All-weaker (λ (w : Wait). IsSooner w.comm w.k w.rank c k j)
          (λ (w : Wait). IsSooner w.comm w.k w.rank c k (j + 1))
          (λ w before. sooner_rank w.comm w.k w.rank c k j before) waits are.early)
          (inr (comm, inr (kth, omega (arith, rank))));
      whole = λ a b e p before its. elim (rank_before a b e c k j before) [
        | inl old ↦
            let one = are.whole a b e p old its in
            (one.0, Contains-append_left waits (it ∷ []) one.0 one.1, one.2, one.3, one.4)
        | inr new ↦ (
          it,
          Contains-push waits it,
          comm ∙ sym new.0,
          kth ∙ sym new.1,
          rank ∙ sym new.2,
        )
      ];
      rising = all_pairs_push Precedes waits it are.rising
          (λ m d within.
          let before = All-get_or (λ (w : Wait). IsSooner w.comm w.k w.rank c k j) waits m d
          within are.early in
          subst (λ x. IsSooner (get_or waits m d).comm (get_or waits m d).k
          (get_or waits m d).rank x it.k it.rank) (sym comm)
          (subst (λ x. IsSooner (get_or waits m d).comm (get_or waits m d).k
          (get_or waits m d).rank c x it.rank) (sym kth)
          (subst (λ x. IsSooner (get_or waits m d).comm (get_or waits m d).k
          (get_or waits m d).rank c k x) (sym rank) before)));
    }
