-- A list of what holds grows by one place, and goes past places that nothing has.
use Rattle.std.proofs.Common.{◌≡◌, ℕ, ◌+◌, ◌<◌, ◌≤◌, List, [], ◌∷◌, ◌++◌, length, get_or, inl, inr}
use Rattle.std.proofs.Common.{arith, sym, subst}
use Rattle.std.specs.Prelude.{All, AllPairs, Contains}
use Rattle.std.proofs.lemmas.Bool.{cases_lt}
use Rattle.std.proofs.lemmas.List.Elements.{All-nil, All-push, All-weaker, All-get_or}
use Rattle.std.proofs.lemmas.List.Elements.{Contains-push}
use Rattle.std.proofs.lemmas.List.Elements.{Contains-append_left}
use Rattle.std.proofs.lemmas.List.Quantifiers.{all_pairs_push}
use Rattle.policy_meaning.specs.Listed.{AreListed}

module _ {X : Type 0} (Holds : X → Type 0) (place : X → ℕ) where
  pub listed_none : AreListed Holds place [] 0
  listed_none = record {
    sound = All-nil Holds;
    below = All-nil (λ x. place x < 0);
    whole = λ x h lt. absurd (omega arith);
    rising = λ i j d lt within. absurd (omega arith);
  }

  -- nothing that holds has a place from n on and below m
  pub listed_past : (xs : List X) (n m : ℕ) → AreListed Holds place xs n → n ≤ m
      → ((x : X) → Holds x → n ≤ place x → place x < m → ⊥) → AreListed Holds place xs m
  listed_past xs n m listed more none = record {
    sound = listed.sound;
    below = All-weaker (λ x. place x < n) (λ x. place x < m) (λ x lt. omega arith) xs listed.below;
    whole = λ x h lt. elim (cases_lt (place x) n) [
      | inl low ↦ listed.whole x h low
      | inr high ↦ absurd (none x h high lt)
    ];
    rising = listed.rising;
  }

  -- x alone holds at place n
  pub listed_more : (xs : List X) (x : X) (n : ℕ) → AreListed Holds place xs n → Holds x
      → place x ≡ n → ((y : X) → Holds y → place y ≡ n → x ≡ y) →
      AreListed Holds place (xs ++ x ∷ []) (n + 1)
  listed_more xs x n listed holds at alone = record {
    sound = All-push Holds xs x listed.sound holds;
    below =
        All-push (λ y. place y < n + 1) xs x
        (All-weaker (λ y. place y < n) (λ y. place y < n + 1) (λ y lt. omega arith) xs listed.below)
        (omega arith);
    whole = λ y h lt. elim (cases_lt (place y) n) [
      | inl low ↦ Contains-append_left xs (x ∷ []) y (listed.whole y h low)
      | inr high ↦ subst (λ z. Contains (xs ++ x ∷ []) z) (alone y h (omega arith))
          (Contains-push xs x)
    ];
    rising =
        all_pairs_push (λ y z. place y < place z) xs x listed.rising
        (λ k d within.
        let low : place (get_or xs k d) < n = All-get_or (λ y. place y < n) xs k d within
        listed.below in
        omega arith);
  }
