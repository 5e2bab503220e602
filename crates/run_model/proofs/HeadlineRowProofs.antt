-- Worked instances of which the headline speaks, by computation; the order of its offences.
use Rattle.std.proofs.Common.{◌≡◌, ◌⊎◌, ℕ, refl, reverse, sym, arith, inl, inr, ⊎_elim}
use Rattle.std.proofs.lemmas.Bool.{cases_lt}
use Rattle.wall_verdict.specs.Meanings.{IsBefore}
use Rattle.run_model.specs.Comms.{world}
use Rattle.run_model.specs.Headline.{IsFullCollective}
use Rattle.run_model.specs.RunRows.{banks_and_oil, denied_broadcast, sanitised_sum}
use Rattle.run_model.proofs.RunRowProofs.{opened}

pub granted_sum_is_full : IsFullCollective banks_and_oil (reverse sanitised_sum) 0 0
unfolding opened
granted_sum_is_full = record {
  comm = world banks_and_oil;
  member = 0;
  there = refl;
  is_member = refl;
  full = refl;
  collective = refl;
}

pub denied_broadcast_is_full : IsFullCollective banks_and_oil (reverse denied_broadcast) 0 0
unfolding opened
denied_broadcast_is_full = record {
  comm = world banks_and_oil;
  member = 0;
  there = refl;
  is_member = refl;
  full = refl;
  collective = refl;
}

same_receiver : (k m j i : ℕ) → k ≡ j →
    IsBefore k m j i ⊎ (((k ≡ j) × (m ≡ i)) ⊎ IsBefore j i k m)
same_receiver k m j i same =
    ⊎_elim (λ low. inl (inr (same, low))) (λ high.
    ⊎_elim (λ above. inr (inr (inr (sym same, above))))
    (λ below. inr (inl (same, omega arith))) (cases_lt i m)) (cases_lt m i)

pub in_order : (k m j i : ℕ) → IsBefore k m j i ⊎ (((k ≡ j) × (m ≡ i)) ⊎ IsBefore j i k m)
in_order k m j i =
    ⊎_elim (λ low. inl (inl low)) (λ high.
    ⊎_elim (λ above. inr (inr (inl above))) (λ below. same_receiver k m j i (omega arith))
    (cases_lt j k)) (cases_lt k j)
