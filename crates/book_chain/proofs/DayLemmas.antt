-- A policy that has grown from another keeps what was held before under that, and any chain of books
-- which that one came after.
use Rattle.std.proofs.Common.{◌≡◌, ℕ, zero, suc, ◌<◌, ◌≤◌, true, not, ◌&&◌, nat_eq, List, []}
use Rattle.std.proofs.Common.{◌∷◌, ◌++◌, length, Some, slice_get, refl, sym, ap, ◌∙◌}
use Rattle.std.proofs.Common.{subst, inl, inr, arith, length-append, append_assoc}
use Rattle.std.proofs.lemmas.Bool.{false≢true}
use Rattle.wall_policy.specs.Policy.{ChineseWall, IsPolicy, CanBeHeld, HasAtFirst, with_held}
use Rattle.wall_policy.specs.Policy.{home_of, home_if_any, has_pair}
use Rattle.wall_policy.specs.Rivals.{AreRivals, are_rivals, is_one_class}
use Rattle.wall_policy.proofs.WallPolicyLemmas.{are_rivals-Decides}
use Rattle.run_model.specs.Posts.{Post}
use Rattle.run_model.specs.Chains.{Link, IsChain, IsPrefix, GrewFrom, IsPolicyAfter}

---- Lists that go on.

prefix_on : {X : Type 0} (xs ys zs : List X) → IsPrefix xs ys → IsPrefix ys zs → IsPrefix xs zs
prefix_on xs ys zs one two = (
  one.0 ++ two.0,
  sym (append_assoc xs one.0 two.0) ∙ ap (λ l. l ++ two.0) one.1 ∙ two.1,
)

get_in_prefix : {X : Type 0} (xs ys : List X) (k : ℕ) → k < length xs →
    slice_get (xs ++ ys) k ≡ slice_get xs k
get_in_prefix [] ys k low = absurd (omega (arith, low))
get_in_prefix (x ∷ xs) ys zero low = refl
get_in_prefix (x ∷ xs) ys (suc k) low = get_in_prefix xs ys k (omega (arith, low))

-- rivals that stood in a list of classes before it went on were rivals then
rivals_before : (classes more : List ℕ) (d e : ℕ) → d < length classes → e < length classes →
    AreRivals (classes ++ more) d e → AreRivals classes d e
unfolding are_rivals
rivals_before classes more d e low_d low_e rivals =
    let test = (are_rivals-Decides (classes ++ more) d e).1 rivals in
    (are_rivals-Decides classes d e).0
    (ap (λ c. not (nat_eq d e) && is_one_class c (slice_get classes e))
    (sym (get_in_prefix classes more d low_d))
    ∙ ap (λ c. not (nat_eq d e) && is_one_class (slice_get (classes ++ more) d) c)
    (sym (get_in_prefix classes more e low_e))
    ∙ test)

---- What was held before.

module _ (after now : ChineseWall) (policy : IsPolicy after) (none : now.held ≡ [])
    (grew : GrewFrom after now) where
  -- a process of the earlier policy has its home of then
  home_then : (p d : ℕ) → p < length after.process_names → home_of now p ≡ Some d →
      home_of after p ≡ Some d
  home_then p d low home =
      let within : p < length after.homes =
      subst (λ n. p < n) (sym policy.home_for_each) low in
      ap home_if_any (sym (get_in_prefix after.homes grew.homes.0 p within)
      ∙ ap (λ hs. slice_get hs p) grew.homes.1) ∙ home

  -- what a process with something held before begins with, it began with then
  began : (p d e : ℕ) → has_pair after.held p e ≡ true →
      HasAtFirst (with_held now after.held) p d →
      HasAtFirst after p d × (d < length after.dataset_names)
  began p d e other (inr has) = (inr has, (policy.known_held p d has).1)
  began p d e other (inl home) =
      let then = home_then p d (policy.known_held p e other).0 home in
      (inl then, policy.known_homes p d then)

  no_rivals_then : (p d e : ℕ) → HasAtFirst after p d → HasAtFirst after p e →
      d < length after.dataset_names → e < length after.dataset_names →
      ¬ (AreRivals now.classes d e)
  no_rivals_then p d e one other low_d low_e rivals =
      let of_each = policy.class_for_each in
      policy.apart p d e one other
      (rivals_before after.classes grew.classes.0 d e (omega (arith, low_d, of_each))
      (omega (arith, low_e, of_each))
      (subst (λ classes. AreRivals classes d e) (sym grew.classes.1) rivals))

  apart : (p d e : ℕ) → HasAtFirst (with_held now after.held) p d →
      HasAtFirst (with_held now after.held) p e → ¬ (AreRivals now.classes d e)
  apart p d e (inl home_d) (inl home_e) rivals =
      let is : Some d ≡ Some e = sym home_d ∙ home_e in
      let same : d ≡ e = cc in rivals.0 same
  apart p d e begins_d (inr held_e) rivals =
      let one = began p d e held_e begins_d in
      let other = began p e e held_e (inr held_e) in
      no_rivals_then p d e one.0 other.0 one.1 other.1 rivals
  apart p d e (inr held_d) (inl home_e) rivals =
      let one = began p d d held_d (inr held_d) in
      let other = began p e d held_d (inl home_e) in
      no_rivals_then p d e one.0 other.0 one.1 other.1 rivals

  pub can_go_on : CanBeHeld now after.held
  can_go_on = record {
    known = λ p d has.
        let known = policy.known_held p d has in
        let names = sym (length-append after.process_names grew.processes.0)
        ∙ ap length grew.processes.1 in
        let datasets = sym (length-append after.dataset_names grew.datasets.0)
        ∙ ap length grew.datasets.1 in
        (omega (arith, known.0, names), omega (arith, known.1, datasets));
    kept = λ p d held. absurd (false≢true (ap (λ ps. has_pair ps p d) (sym none) ∙ held));
    apart = apart;
  }

---- Chains.

grew_on : (wall after now : ChineseWall) (held : List (ℕ × ℕ)) → GrewFrom wall after →
    GrewFrom after now → GrewFrom wall (with_held now held)
grew_on wall after now held one two = record {
  datasets = prefix_on wall.dataset_names after.dataset_names now.dataset_names one.datasets
      two.datasets;
  classes = prefix_on wall.classes after.classes now.classes one.classes two.classes;
  processes = prefix_on wall.process_names after.process_names now.process_names one.processes
      two.processes;
  homes = prefix_on wall.homes after.homes now.homes one.homes two.homes;
}

pub chain_goes_on : (links : List Link) (after now : ChineseWall) → GrewFrom after now →
    IsChain links after → IsChain links (with_held now after.held)
chain_goes_on [] after now grew chain = tt
chain_goes_on (r ∷ older) after now grew chain = (
  chain.0,
  chain.1,
  record {
    grew = grew_on r.wall after now after.held chain.2.grew grew;
    held = chain.2.held;
  },
)
