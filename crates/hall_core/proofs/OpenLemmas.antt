-- A hall of no call.
use Rattle.std.proofs.Common.{◌≡◌, ℕ, zero, suc, List, [], ap, refl, None, Some, length, Option}
use Rattle.std.proofs.Common.{◌∙◌, sym, arith}
use Rattle.run_state.specs.Stands.{StandsForPosts}
use Rattle.run_model.specs.Runs.{effects}
use Rattle.hall_core.specs.declared.requests.Request.{Request}
use Rattle.hall_core.specs.declared.settled.Place.{Place}
use Rattle.hall_core.specs.Asking.{opened, taken_at, open_for}
use Rattle.hall_core.specs.Settling.{Places, nothing, place_at, KeepsCount}
use Rattle.hall_core.specs.Halls.{HallView, StandsForEffects}

pub stands_first : (hall : HallView) → StandsForPosts hall.policy hall.post_state [] →
    hall.asked ≡ (λ p. []) → hall.book ≡ [] → StandsForEffects hall (effects [])
stands_first hall post_state asked book = record {
  post_state = post_state;
  given = λ p. ap (λ (f : ℕ → List (Option Request)). length (f p)) asked;
  taken = λ p r. ap (λ (f : ℕ → List (Option Request)). taken_at (f p) r) asked;
  waiting = λ p r q e. let never : None ≡ Some q = sym
      (ap (λ (f : ℕ → List (Option Request)). opened (f p) r) asked) ∙ e in absurd (cc);
  settled = λ p r q e. let never : None ≡ Some q = sym
      (ap (λ (f : ℕ → List (Option Request)). opened (f p) r) asked) ∙ e in absurd (cc);
  book = book;
}

none_open : (n c k : ℕ) → open_for (λ p. []) n c k ≡ 0
none_open zero c k = refl
none_open (suc n) c k = omega (arith, none_open n c k)

-- nothing is open and nothing stands in any place
pub counts_first : (asked : (p : ℕ) → List (Option Request)) (n : ℕ) (rows : List Places) →
    asked ≡ (λ p. []) → ((c k : ℕ) → place_at rows c k ≡ nothing) → KeepsCount asked n rows
counts_first asked n rows none empty = record {
  waiting = λ c k. ap (λ (p : Place). p.waiting) (empty c k)
      ∙ sym (ap (λ f. open_for f n c k) none ∙ none_open n c k);
  held = λ c k s e. let never : None ≡ Some s = sym (ap (λ (p : Place). p.settlement) (empty c k)) ∙
      e in absurd (cc);
}
