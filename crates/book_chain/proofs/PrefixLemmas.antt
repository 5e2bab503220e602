-- The prefix of a policy: whom a book names in it, and that the whole is a prefix of itself.
use Rattle.std.proofs.Common.{◌≡◌, ℕ, ◌+◌, ◌<◌, ◌≤◌, true, false, ◌||◌, ◌&&◌, List, []}
use Rattle.std.proofs.Common.{Bool, ◌⊎◌, inl, inr, ◌∷◌, length, take, nat_eq, nat_lt, refl, ap}
use Rattle.std.proofs.Common.{◌∙◌, subst, arith}
use Rattle.std.specs.Prelude.{filter, min}
use Rattle.std.specs.List.{All}
use Rattle.std.proofs.lemmas.Bool.{cases_lt, eq-eqb, lt-ltb, or_right}
use Rattle.std.proofs.lemmas.List.{length-take, take_all}
use Rattle.std.proofs.lemmas.List.Elements.{All-weaker}
use Rattle.wall_policy.specs.Policy.{ChineseWall, IsPolicy, has_pair, first_processes}
use Rattle.run_model.specs.declared.outcome.Outcome.TheVariants.{Granted, Denied, Made, NoRoom}
use Rattle.run_model.specs.declared.entry.Entry.{Entry}
use Rattle.run_model.specs.declared.entry.Entry.TheVariants.{Posted, Settled}
use Rattle.run_model.specs.Known.{IsKnownEntry}
use Rattle.run_model.specs.Books.{IsFirstBad}
use Rattle.run_model.proofs.RunModelLemmas.{no_bad_entry}
use Rattle.audit_book.specs.declared.check_fault.BookFault.{BookFault}
use Rattle.audit_book.specs.declared.check_fault.BookFault.TheVariants.{BadEntry, NoMemory}
use Rattle.audit_book.specs.Checks.{IsFaultOf}
use Rattle.book_chain.specs.Chain.{Fits, HasNoNumber}
use Rattle.book_chain.specs.Prefixes.{IsBelow}

---- Whom a book names.

module _ (wall : ChineseWall) (n : ℕ) where
  names : length (take n wall.process_names) ≡ min n (length wall.process_names)
  names = length-take n wall.process_names

  below_known : (e : Entry) → IsKnownEntry (first_processes n wall) e → IsBelow n e
  below_known (Posted p c stated) known = omega (arith, names, known.0)
  below_known (Settled c k Granted) known = tt
  below_known (Settled c k (Denied rule p label)) known = omega (arith, names, known.0)
  below_known (Settled c k (Made first count)) known = tt
  below_known (Settled c k NoRoom) known = tt

  known_below : (e : Entry) → IsKnownEntry wall e × IsBelow n e →
      IsKnownEntry (first_processes n wall) e
  known_below (Posted p c stated) h = (omega (arith, names, h.0.0, h.1), h.0.1)
  known_below (Settled c k Granted) h = tt
  known_below (Settled c k (Denied rule p label)) h = (omega (arith, names, h.0.0, h.1), h.0.1)
  known_below (Settled c k (Made first count)) h = tt
  known_below (Settled c k NoRoom) h = tt

  -- a book that names another process fits no prefix that is without it
  pub others_named : (entries : List Entry) → ¬ (All (IsBelow n) entries) →
      ¬ (Fits wall entries n)
  others_named entries named fits = named
      (All-weaker (IsKnownEntry (first_processes n wall)) (IsBelow n) below_known entries
      fits.known)

  pub all_known : (entries : List Entry) → All (IsKnownEntry wall) entries →
      All (IsBelow n) entries → All (IsKnownEntry (first_processes n wall)) entries
  all_known entries known below = λ k d lt. known_below _ (known k d lt, below k d lt)

---- The whole is a prefix of itself.

first_has : (x : ℕ × ℕ) (pairs : List (ℕ × ℕ)) → has_pair (x ∷ pairs) x.0 x.1 ≡ true
first_has x pairs = rw (eq-eqb x.0 x.0 refl, eq-eqb x.1 x.1 refl) refl

later_has : (x : ℕ × ℕ) (pairs : List (ℕ × ℕ)) (p d : ℕ) → has_pair pairs p d ≡ true →
    has_pair (x ∷ pairs) p d ≡ true
later_has x pairs p d has = or_right (nat_eq x.0 p && nat_eq x.1 d) (has_pair pairs p d) has

all_kept : (n : ℕ) (pairs : List (ℕ × ℕ)) →
    ((p d : ℕ) → has_pair pairs p d ≡ true → p < n) →
    filter (λ pair. nat_lt pair.0 n) pairs ≡ pairs
all_kept n [] below = refl
all_kept n (x ∷ pairs) below =
    let low : nat_lt x.0 n ≡ true = lt-ltb x.0 n (below x.0 x.1 (first_has x pairs)) in
    let rest = all_kept n pairs (λ p d has. below p d (later_has x pairs p d has)) in
    rw low (ap (λ ps. x ∷ ps) rest)

pub whole_prefix : (wall : ChineseWall) → IsPolicy wall →
    first_processes (length wall.process_names) wall ≡ wall
whole_prefix wall policy = λ i. record {
  version = wall.version;
  class_names = wall.class_names;
  dataset_names = wall.dataset_names;
  process_names = take_all (length wall.process_names) wall.process_names (omega arith) i;
  classes = wall.classes;
  homes = take_all (length wall.process_names) wall.homes
      (omega (arith, policy.home_for_each)) i;
  leasts = wall.leasts;
  distincts = wall.distincts;
  held = all_kept (length wall.process_names) wall.held
      (λ p d has. (policy.known_held p d has).0) i;
}

---- One number after the other.

module _ (wall : ChineseWall) (entries : List Entry) (least n : ℕ)
    (none : (m : ℕ) → least ≤ m → m < n → ¬ (Fits wall entries m)) where
  pub one_on : ¬ (Fits wall entries n) → (m : ℕ) → least ≤ m → m < n + 1 → ¬ (Fits wall entries m)
  one_on other m from below = by (cases_lt m n)
    where
      by : (m < n) ⊎ (n ≤ m) → ¬ (Fits wall entries m)
      by (inl low) = none m from low
      by (inr high) = subst (λ k. ¬ (Fits wall entries k)) (omega (arith, high, below)) other

  -- where it is all processes, the fault under them is that of the book
  pub no_number : (fault : BookFault) → IsPolicy wall → n ≡ length wall.process_names →
      IsFaultOf (first_processes n wall) entries fault → HasNoNumber wall least entries fault
  no_number (BadEntry k) policy is bad = (
    subst (λ (w : ChineseWall). IsFirstBad w entries k)
        (ap (λ m. first_processes m wall) is ∙ whole_prefix wall policy) bad,
    λ m from below. none m from (omega (arith, is, below)),
  )
  no_number NoMemory policy is bad = tt

-- a book with a bad entry does not fit
pub bad_fits_not : (wall : ChineseWall) (entries : List Entry) (n k : ℕ) →
    IsFirstBad (first_processes n wall) entries k → ¬ (Fits wall entries n)
bad_fits_not wall entries n k bad fits =
    no_bad_entry (first_processes n wall) entries k fits.sound bad

---- Nothing was held.

pub nothing_held : (pairs : List (ℕ × ℕ)) → length pairs ≡ 0 → (p d : ℕ) →
    has_pair pairs p d ≡ true → ⊥
nothing_held [] none p d has = cc
nothing_held (x ∷ pairs) none p d has = omega (arith, none)
