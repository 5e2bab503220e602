-- A book that fits the prefix of a policy goes on a chain of books, and what each process held at
-- its end can be held under the whole policy.
use Rattle.std.proofs.Common.{◌≡◌, ◌⊎◌, inl, inr, ℕ, zero, suc, ◌<◌, ◌≤◌, Bool, true, false}
use Rattle.std.proofs.Common.{◌||◌, ◌&&◌, List, [], ◌∷◌, ◌++◌, length, take, drop, nat_eq, nat_lt}
use Rattle.std.proofs.Common.{refl, sym, ap, ◌∙◌, arith, Option, Some, slice_get}
use Rattle.std.specs.Prelude.{filter}
use Rattle.std.proofs.lemmas.Bool.{cases_Bool, cases_lt, and_parts, eqb-true, lt-ltb}
use Rattle.std.proofs.lemmas.Bool.{or_right}
use Rattle.std.proofs.lemmas.List.{append-nil, length-take, take-append-drop}
use Rattle.wall_policy.specs.Policy.{ChineseWall, IsPolicy, HasAtFirst, has_pair, with_held}
use Rattle.wall_policy.specs.Policy.{first_processes, CanBeHeld, home_if_any, home_of}
use Rattle.wall_policy.specs.Rivals.{AreRivals}
use Rattle.wall_policy.proofs.WallPolicyLemmas.{has_pair-prefix, first_processes-IsPolicy}
use Rattle.run_model.specs.declared.entry.Entry.{Entry}
use Rattle.run_model.specs.Books.{posts_in, IsSound}
use Rattle.run_model.specs.Holding.{had_at_first}
use Rattle.run_model.specs.Chains.{Link, IsChain, IsPrefix, GrewFrom, IsPolicyAfter}
use Rattle.run_model.specs.Chains.{NobodyEverHeldBoth}
use Rattle.run_model.proofs.RunModelLemmas.{chains_keep_the_wall}
use Rattle.book_chain.specs.Chain.{ChainValue, IsHeldBelow, IsNumberOf, IsAdded, StandsFor}
use Rattle.book_chain.specs.Prefixes.{HoldsAfter}

---- Lists that go on.

prefix_of : {X : Type 0} (n : ℕ) (xs : List X) → IsPrefix (take n xs) xs
prefix_of n xs = (drop n xs, take-append-drop n xs)

-- what a list goes on from is in each front of it that is no shorter
prefix_within : {X : Type 0} (prefix rest whole : List X) (n : ℕ) → prefix ++ rest ≡ whole →
    length prefix ≤ n → IsPrefix prefix (take n whole)
prefix_within [] rest whole n is low = (take n whole, refl)
prefix_within (x ∷ prefix) rest whole zero is low = absurd (omega (arith, low))
prefix_within (x ∷ prefix) rest whole (suc n) is low =
    let more = prefix_within prefix rest (prefix ++ rest) n refl (omega (arith, low)) in (
      more.0,
      ap (λ l. x ∷ l) more.1 ∙ ap (λ l. take (suc n) l) is,
    )

---- What was held.

kept_more : (n : ℕ) (x : ℕ × ℕ) (pairs : List (ℕ × ℕ)) (p d : ℕ) → p < n →
    (has_pair pairs p d ≡ true → has_pair (filter (λ pair. nat_lt pair.0 n) pairs) p d ≡ true) →
    has_pair (x ∷ pairs) p d ≡ true →
    has_pair (filter (λ pair. nat_lt pair.0 n) (x ∷ pairs)) p d ≡ true
kept_more n x pairs p d low later has = by (nat_eq x.0 p && nat_eq x.1 d) refl has
  where
    by : (this : Bool) → (nat_eq x.0 p && nat_eq x.1 d) ≡ this →
        (this || has_pair pairs p d) ≡ true →
        has_pair (filter (λ pair. nat_lt pair.0 n) (x ∷ pairs)) p d ≡ true
    by true is h =
        let same : x.0 ≡ p = eqb-true x.0 p (and_parts (nat_eq x.0 p) _ is).0 in
        let kept : nat_lt x.0 n ≡ true = lt-ltb x.0 n (omega (arith, same, low)) in
        rw (kept, is) refl
    by false is h = elim (cases_Bool (nat_lt x.0 n)) [
      | inl kept ↦ rw kept (or_right (nat_eq x.0 p && nat_eq x.1 d) _ (later h))
      | inr gone ↦ rw gone (later h)
    ]

-- what the first processes held is in the front
has_pair-kept : (n : ℕ) (pairs : List (ℕ × ℕ)) (p d : ℕ) → p < n → has_pair pairs p d ≡ true →
    has_pair (filter (λ pair. nat_lt pair.0 n) pairs) p d ≡ true
has_pair-kept n [] p d low has = has
has_pair-kept n (x ∷ pairs) p d low has =
    kept_more n x pairs p d low (has_pair-kept n pairs p d low) has

---- A prefix, and the policy after it.

grew_from_prefix : (n : ℕ) (wall : ChineseWall) (pairs : List (ℕ × ℕ)) →
    GrewFrom (first_processes n wall) (with_held wall pairs)
grew_from_prefix n wall pairs = record {
  datasets = ([], append-nil wall.dataset_names);
  classes = ([], append-nil wall.classes);
  processes = prefix_of n wall.process_names;
  homes = prefix_of n wall.homes;
}

-- what was held at the end of a book under a prefix is what was held before under the whole
pub after_prefix : (n : ℕ) (wall : ChineseWall) (entries : List Entry) (pairs : List (ℕ × ℕ)) →
    HoldsAfter (first_processes n wall) entries pairs →
    IsPolicyAfter (first_processes n wall) (posts_in entries) (with_held wall pairs)
after_prefix n wall entries pairs holds = record {
  grew = grew_from_prefix n wall pairs;
  held = holds.after.held;
}

-- ---- the whole policy after it

home_kept : (n : ℕ) (homes : List (Option ℕ)) (p d : ℕ) → p < n →
    home_if_any (slice_get homes p) ≡ Some d → home_if_any (slice_get (take n homes) p) ≡ Some d
home_kept zero homes p d low home = absurd (omega (arith, low))
home_kept (suc n) [] p d low home = home
home_kept (suc n) (h ∷ homes) zero d low home = home
home_kept (suc n) (h ∷ homes) (suc p) d low home = home_kept n homes p d (omega (arith, low)) home

-- nobody past a prefix is at home in it
home_past : (n : ℕ) (homes : List (Option ℕ)) (p d : ℕ) → n ≤ p →
    home_if_any (slice_get (take n homes) p) ≡ Some d → ⊥
home_past zero homes p d high home = cc
home_past (suc n) [] p d high home = cc
home_past (suc n) (h ∷ homes) zero d high home = omega (arith, high)
home_past (suc n) (h ∷ homes) (suc p) d high home = home_past n homes p d (omega (arith, high)) home

module _ (n : ℕ) (wall : ChineseWall) (entries : List Entry) (pairs : List (ℕ × ℕ))
    (policy : IsPolicy wall) (below : IsHeldBelow n wall)
    (holds : HoldsAfter (first_processes n wall) entries pairs) where
  pub pairs_below : IsHeldBelow n (with_held wall pairs)
  pairs_below p d has =
      omega (arith, (holds.policy.known_held p d has).0, length-take n wall.process_names)

  -- a process begins with what it has in the front, or is none of it and at home alone
  in_prefix : (p d : ℕ) → HasAtFirst (with_held wall pairs) p d →
      HasAtFirst (with_held (first_processes n wall) pairs) p d
      ⊎ ((n ≤ p) × (home_of wall p ≡ Some d))
  in_prefix p d (inr has) = inl (inr has)
  in_prefix p d (inl home) = by (cases_lt p n)
    where
      by : (p < n) ⊎ (n ≤ p) → HasAtFirst (with_held (first_processes n wall) pairs) p d
          ⊎ ((n ≤ p) × (home_of wall p ≡ Some d))
      by (inl low) = inl (inl (home_kept n wall.homes p d low home))
      by (inr high) = inr (high, home)

  outside : (p d : ℕ) → HasAtFirst (with_held (first_processes n wall) pairs) p d → n ≤ p → ⊥
  outside p d (inl home) high = home_past n wall.homes p d high home
  outside p d (inr has) high = absurd (omega (arith, pairs_below p d has, high))

  pub can_be_held : CanBeHeld wall pairs
  can_be_held = record {
    known = λ p d has.
        let known = holds.policy.known_held p d has in
        (omega (arith, known.0, length-take n wall.process_names), known.1);
    kept = λ p d has.
        let known = policy.known_held p d has in
        let prefix = has_pair-kept n wall.held p d (below p d has) has in
        (holds.after.held p d (omega (arith, known.1, policy.few_datasets))).1
        (had_at_first (inr prefix));
    apart = λ p d e a b rivals. apart p d e rivals (in_prefix p d a) (in_prefix p e b);
  }
    where
      apart : (p d e : ℕ) → AreRivals wall.classes d e →
          HasAtFirst (with_held (first_processes n wall) pairs) p d
          ⊎ ((n ≤ p) × (home_of wall p ≡ Some d)) →
          HasAtFirst (with_held (first_processes n wall) pairs) p e
          ⊎ ((n ≤ p) × (home_of wall p ≡ Some e)) → ⊥
      apart p d e rivals (inl a) (inl b) = holds.policy.apart p d e a b rivals
      apart p d e rivals (inr a) (inr b) =
          let is : Some d ≡ Some e = sym a.1 ∙ b.1 in
          let same : d ≡ e = cc in rivals.0 same
      apart p d e rivals (inl a) (inr b) = outside p d a b.0
      apart p d e rivals (inr a) (inl b) = outside p e b a.0

---- Chains.

-- what was held after a book that the prefix goes on from
prefix_after : (n : ℕ) (wall : ChineseWall) (r : Link) → length r.wall.process_names ≤ n →
    length r.wall.homes ≤ n → IsHeldBelow n wall → IsPolicyAfter r.wall (posts_in r.book) wall →
    IsPolicyAfter r.wall (posts_in r.book) (first_processes n wall)
prefix_after n wall r names homes below after = record {
  grew = record {
    datasets = after.grew.datasets;
    classes = after.grew.classes;
    processes = prefix_within r.wall.process_names after.grew.processes.0 wall.process_names n
        after.grew.processes.1 names;
    homes = prefix_within r.wall.homes after.grew.homes.0 wall.homes n after.grew.homes.1 homes;
  };
  held = λ p d low. (
    λ has. (after.held p d low).0 (has_pair-prefix n wall.held p d has).0,
    λ held.
        let has = (after.held p d low).1 held in
        has_pair-kept n wall.held p d (below p d has) has,
  );
}

pub below_more : (least n : ℕ) (wall : ChineseWall) → least ≤ n → IsHeldBelow least wall →
    IsHeldBelow n wall
below_more least n wall low below p d has = omega (arith, low, below p d has)

-- a chain before a policy is one before each prefix of it that is no shorter than the newest
pub prefix_chain : (n : ℕ) (was : ChainValue) (older : List Link) → was.least ≤ n →
    IsHeldBelow n was.wall → StandsFor was older → IsChain older (first_processes n was.wall)
prefix_chain n was [] low below stands = tt
prefix_chain n was (r ∷ older) low below stands =
    let chain = stands.0 in (
      chain.0,
      chain.1,
      prefix_after n was.wall r (omega (arith, low, stands.1.0)) (omega (arith, low, stands.1.1))
          below chain.2,
    )

pub one_more : (n : ℕ) (was : ChainValue) (entries : List Entry) (pairs : List (ℕ × ℕ))
    (older : List Link) → was.least ≤ n → IsHeldBelow n was.wall →
    IsSound (first_processes n was.wall) entries →
    HoldsAfter (first_processes n was.wall) entries pairs → StandsFor was older →
    StandsFor (record { wall = with_held was.wall pairs; least = n })
    (record { wall = first_processes n was.wall; book = entries } ∷ older)
one_more n was entries pairs older low below sound holds stands = (
  (
    prefix_chain n was older low below stands,
    sound,
    after_prefix n was.wall entries pairs holds,
  ),
  (
    omega (arith, length-take n was.wall.process_names),
    omega (arith, length-take n was.wall.homes),
  ),
)

pub added : (n : ℕ) (was : ChainValue) (entries : List Entry) (pairs : List (ℕ × ℕ)) →
    IsNumberOf was.wall was.least entries n →
    HoldsAfter (first_processes n was.wall) entries pairs →
    IsAdded was entries (record { wall = with_held was.wall pairs; least = n })
added n was entries pairs number holds = record {
  number = number;
  rest = refl;
  held = after_prefix n was.wall entries pairs holds;
}

-- over the chain with it nobody ever held two rivals
pub still_kept : (n : ℕ) (was : ChainValue) (entries : List Entry) (older : List Link) → 1 ≤ n →
    was.least ≤ n → IsPolicy was.wall → IsHeldBelow n was.wall →
    IsSound (first_processes n was.wall) entries → StandsFor was older →
    NobodyEverHeldBoth was.wall.classes
    (record { wall = first_processes n was.wall; book = entries } ∷ older)
still_kept n was entries older some low policy below sound stands =
    chains_keep_the_wall older (first_processes n was.wall) entries
    (first_processes-IsPolicy n was.wall some policy) (prefix_chain n was older low below stands)
    sound
