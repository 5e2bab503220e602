-- The policy of a later file, which has grown from that of a book.
use Rattle.std.proofs.Common.{◌≡◌, ℕ, zero, suc, ◌<◌, ◌≤◌, true, not, ◌&&◌, nat_eq, List, []}
use Rattle.std.proofs.Common.{◌∷◌, ◌++◌, length, Some, slice_get, refl, sym, ap, ◌∙◌}
use Rattle.std.proofs.Common.{subst, inl, inr, arith, length-append}
use Rattle.std.proofs.lemmas.Bool.{false≢true}
use Rattle.wall_policy.specs.Policy.{ChineseWall, IsPolicy, CanBeHeld, HasAtFirst, with_held}
use Rattle.wall_policy.specs.Policy.{home_of, home_if_any, has_pair}
use Rattle.wall_policy.specs.Rivals.{AreRivals, are_rivals, is_one_class}
use Rattle.wall_policy.proofs.WallPolicyLemmas.{are_rivals-Decides}
use Rattle.wall_rules.specs.Histories.{ArePairsOf}
use Rattle.run_model.specs.declared.entry.Entry.{Entry}
use Rattle.run_model.specs.Posts.{Post, histories}
use Rattle.run_model.specs.Books.{posts_in, IsSound}
use Rattle.run_model.specs.Known.{PostsHaveKnownLabels}
use Rattle.run_model.specs.Chains.{GrewFrom}
use Rattle.run_model.specs.Years as years
use Rattle.run_model.specs.Years.{GoesOn}
use Rattle.run_model.proofs.AfterLemmas.{can_be_held, is_policy_after}
use Rattle.run_model.proofs.HoldingLemmas.{first_in_history}
use Rattle.run_model.proofs.PostLawLemmas.{posts_keep_the_wall}

---- Lists that go on.

get_in_prefix : {X : Type 0} (xs ys : List X) (k : ℕ) → k < length xs →
    slice_get (xs ++ ys) k ≡ slice_get xs k
get_in_prefix [] ys k low = absurd (omega (arith, low))
get_in_prefix (x ∷ xs) ys zero low = refl
get_in_prefix (x ∷ xs) ys (suc k) low = get_in_prefix xs ys k (omega (arith, low))

-- rivals that stood in a list of classes before it went on were rivals then
rivals_before : (classes more : List ℕ) (d e : ℕ) → d < length classes → e < length classes →
    AreRivals (classes ++ more) d e → AreRivals classes d e
unfolding are_rivals
rivals_before classes more d e low_d low_e rivals =
    let test = (are_rivals-Decides (classes ++ more) d e).1 rivals in
    (are_rivals-Decides classes d e).0
    (ap (λ c. not (nat_eq d e) && is_one_class c (slice_get classes e))
    (sym (get_in_prefix classes more d low_d))
    ∙ ap (λ c. not (nat_eq d e) && is_one_class (slice_get (classes ++ more) d) c)
    (sym (get_in_prefix classes more e low_e))
    ∙ test)

---- The policy of a later file.

module _ (wall file : ChineseWall) (entries : List Entry) (pairs : List (ℕ × ℕ))
    (policy : IsPolicy wall) (none : file.held ≡ [])
    (grew : GrewFrom wall file) (sound : IsSound wall entries)
    (labels : PostsHaveKnownLabels wall (posts_in entries))
    (are : ArePairsOf (histories wall (posts_in entries)) pairs) where
  abbrev past : List Post
  past = posts_in entries

  before : CanBeHeld wall pairs
  before = can_be_held wall past pairs sound.posts are policy labels

  -- a process that has a pair is one of the earlier policy, and its home is that of then
  home_then : (p d : ℕ) → p < length wall.process_names → home_of file p ≡ Some d →
      home_of wall p ≡ Some d
  home_then p d low home =
      let within : p < length wall.homes =
      subst (λ n. p < n) (sym policy.home_for_each) low in
      ap home_if_any (sym (get_in_prefix wall.homes grew.homes.0 p within)
      ∙ ap (λ hs. slice_get hs p) grew.homes.1) ∙ home

  held_known : (p d : ℕ) → has_pair pairs p d ≡ true →
      (p < length wall.process_names) × (d < length wall.dataset_names)
  held_known p d has = before.known p d has

  -- two of which p had access to one in the book, and began with the other, are no rivals
  mixed : (p d e : ℕ) → HasAtFirst (with_held file pairs) p d → has_pair pairs p e ≡ true →
      (histories wall past p d ≡ true) × (d < length wall.dataset_names)
  mixed p d e (inr has) other = (sym (are p d) ∙ has, (held_known p d has).1)
  mixed p d e (inl home) other =
      let then = home_then p d (held_known p e other).0 home in
      (first_in_history wall past p d (inl then), policy.known_homes p d then)

  no_rivals_then : (p d e : ℕ) → d < length wall.dataset_names → e < length wall.dataset_names →
      histories wall past p d ≡ true → histories wall past p e ≡ true →
      ¬ (AreRivals file.classes d e)
  no_rivals_then p d e low_d low_e has_d has_e rivals =
      let of_each = policy.class_for_each in
      posts_keep_the_wall wall past policy sound.posts p d e has_d has_e
      (rivals_before wall.classes grew.classes.0 d e (omega (arith, low_d, of_each))
      (omega (arith, low_e, of_each))
      (subst (λ classes. AreRivals classes d e) (sym grew.classes.1) rivals))

  apart : (p d e : ℕ) → HasAtFirst (with_held file pairs) p d →
      HasAtFirst (with_held file pairs) p e → ¬ (AreRivals file.classes d e)
  apart p d e (inl home_d) (inl home_e) rivals =
      let is : Some d ≡ Some e = sym home_d ∙ home_e in
      let same : d ≡ e = cc in rivals.0 same
  apart p d e begins_d (inr held_e) rivals =
      let one = mixed p d e begins_d held_e in
      no_rivals_then p d e one.1 (held_known p e held_e).1 one.0 (sym (are p e) ∙ held_e) rivals
  apart p d e (inr held_d) (inl home_e) rivals =
      let other = mixed p e d (inl home_e) held_d in
      no_rivals_then p d e (held_known p d held_d).1 other.1 (sym (are p d) ∙ held_d) other.0 rivals

  names_long : length wall.process_names ≤ length file.process_names
  names_long =
      let long = sym (length-append wall.process_names grew.processes.0)
      ∙ ap length grew.processes.1 in
      omega (arith, long)

  datasets_long : length wall.dataset_names ≤ length file.dataset_names
  datasets_long =
      let long = sym (length-append wall.dataset_names grew.datasets.0)
      ∙ ap length grew.datasets.1 in
      omega (arith, long)

  pub goes_on : GoesOn wall file entries pairs
  goes_on = record {
    can_be = record {
      known = λ p d has.
          let known = held_known p d has in
          let names = names_long in
          let datasets = datasets_long in
          (omega (arith, known.0, names), omega (arith, known.1, datasets));
      kept = λ p d held. absurd (false≢true (ap (λ ps. has_pair ps p d) (sym none) ∙ held));
      apart = apart;
    };
    after = record {
      grew = record {
        datasets = grew.datasets;
        classes = grew.classes;
        processes = grew.processes;
        homes = grew.homes;
      };
      held = (is_policy_after wall past pairs sound.posts are).held;
    };
  }

pub grown_policies_go_on : years.GrownPoliciesGoOn
grown_policies_go_on wall file entries pairs policy none grew sound labels are =
    goes_on wall file entries pairs policy none grew sound labels are
