-- What is held at the beginning can be what was held before.
use Rattle.std.proofs.Common.{◌≡◌, ℕ, ◌<◌, true, List, length, Option, Some, None, refl, sym, ◌∙◌}
use Rattle.std.proofs.Common.{subst, slice_get, inl, inr}
use Rattle.std.proofs.lemmas.Bool.{or_left}
use Rattle.std.proofs.lemmas.Option.{slice_get_within}
use Rattle.wall_policy.specs.Policy.{ChineseWall, IsPolicy, home_if_any, has_pair, held_of}
use Rattle.wall_policy.specs.Policy.{HasAtFirst, with_held, CanBeHeld}
use Rattle.wall_rules.specs.Histories.{at_home, opening, ArePairsOf}
use Rattle.wall_rules.proofs.HistoryLemmas.{opening-Decides}

-- a process with a home stands in the list
home_within : (homes : List (Option ℕ)) (p d : ℕ) (home : Option (Option ℕ)) →
    slice_get homes p ≡ home → home_if_any home ≡ Some d → p < length homes
home_within homes p d None at is = absurd (cc)
home_within homes p d (Some home) at is = slice_get_within homes p home at

-- what a process begins with is of the policy, as the process is
pub first_is_known : (w : ChineseWall) (p d : ℕ) → IsPolicy w → HasAtFirst w p d →
    (p < length w.process_names) × (d < length w.dataset_names)
first_is_known w p d policy (inl home) = (
  subst (λ n. p < n) policy.home_for_each
      (home_within w.homes p d (slice_get w.homes p) refl home),
  policy.known_homes p d home,
)
first_is_known w p d policy (inr before) = policy.known_held p d before

begins : (w : ChineseWall) (pairs : List (ℕ × ℕ)) → ArePairsOf (opening w) pairs → (p d : ℕ) →
    has_pair pairs p d ≡ true → HasAtFirst w p d
begins w pairs are p d h = (opening-Decides w p d).0 (sym (are p d) ∙ h)

begins_with : (w : ChineseWall) (pairs : List (ℕ × ℕ)) → ArePairsOf (opening w) pairs →
    (p d : ℕ) → HasAtFirst (with_held w pairs) p d → HasAtFirst w p d
begins_with w pairs are p d (inl home) = inl home
begins_with w pairs are p d (inr before) = begins w pairs are p d before

pub opening_can_be_held : (w : ChineseWall) (pairs : List (ℕ × ℕ)) → IsPolicy w →
    ArePairsOf (opening w) pairs → CanBeHeld w pairs
opening_can_be_held w pairs policy are = record {
  known = λ p d h. first_is_known w p d policy (begins w pairs are p d h);
  kept = λ p d h. are p d ∙ or_left (held_of w p d) (at_home w p d) h;
  apart = λ p d e has_d has_e.
      policy.apart p d e (begins_with w pairs are p d has_d) (begins_with w pairs are p e has_e);
}
