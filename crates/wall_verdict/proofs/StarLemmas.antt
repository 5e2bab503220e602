-- The star rule as a test of every dataset that there can be, and what a post that passes enters.
use Rattle.std.proofs.Common.{◌≡◌, ℕ, ◌<◌, List, Bool, true, false, Option, Some, None, refl, ap}
use Rattle.std.proofs.Common.{sym, ◌∙◌, ◌||◌, ◌&&◌, nat_eq, eqb-true, length, ◌≤◌}
use Rattle.std.proofs.lemmas.Bool.{and_parts}
use Rattle.std.specs.Prelude.{is_none, ◌==◌}
use Rattle.std.specs.Ordering.{nat_cmp}
use Rattle.std.specs.FinSet.{empty, insert, contains, contains-empty}
use Rattle.std.proofs.Math.Bool.{or-false}
use Rattle.wall_labels.specs.declared.label.Label.{Label}
use Rattle.wall_labels.specs.declared.ids.TheConstants.{DATASET_LIMIT}
use Rattle.wall_rules.specs.Histories.{History, NobodyHoldsRivals, entered}
use Rattle.wall_rules.specs.Rules.{PassesStar, HoldsNoRivals, IsLowest, IsHeldOther, joined}
use Rattle.wall_rules.specs.Rules.{passes_star}
use Rattle.wall_rules.proofs.WallRulesLemmas.{first_other-none, first_other-some, no_rivals-star}
use Rattle.wall_verdict.specs.Charges.{dataset_in, is_that}
use Rattle.wall_verdict.specs.Star.{star, with_label}
use Rattle.wall_verdict.proofs.ChargeLemmas.{contains_inserted}

pub star_passed : (held : ℕ → Bool) (label : Label) → PassesStar held label →
    passes_star DATASET_LIMIT held label ≡ true
star_passed held label h = ap is_none (first_other-none DATASET_LIMIT held label h)

pub star_failed : (held : ℕ → Bool) (label : Label) (d : ℕ) → IsLowest (IsHeldOther held label) d →
    d < DATASET_LIMIT → passes_star DATASET_LIMIT held label ≡ false
star_failed held label d h low = ap is_none (first_other-some DATASET_LIMIT held label d h low)

pub may_enter : (classes : List ℕ) (has : History) (p d : ℕ) (label : Option Label) →
    length classes ≤ DATASET_LIMIT → NobodyHoldsRivals classes has → star has p label ≡ true →
    dataset_in label ≡ Some d → HoldsNoRivals classes (joined (has p) (insert empty d))
may_enter classes has p d (Some label) few apart passed e =
    no_rivals-star classes DATASET_LIMIT (has p) label d few (apart p) passed e
may_enter classes has p d None few apart passed e = absurd (cc)

-- the set of one dataset
alone : (d q : ℕ) → contains {R = nat_cmp} (insert empty d) q ≡ (d == q)
alone d q = contains_inserted empty d q ∙ ap (λ b. b || (d == q)) (contains-empty nat_cmp q)

and_true : (b c : Bool) → (b && c) ≡ ((b && true) && c)
and_true true c = refl
and_true false c = refl

-- a passed label enters the one dataset that it names
pub label_entered : (has : History) (p d : ℕ) (label : Option Label) → dataset_in label ≡ Some d →
    entered has p (insert empty d) ≡ with_label has p label true
label_entered has p d label e = λ i q c. (ap (λ b. has q c || ((q == p) && b))
    (alone d c ∙ ap (λ o. is_that o c) (sym e))
    ∙ ap (λ b. has q c || b) (and_true (q == p) (is_that (dataset_in label) c))) i

-- or nothing, where the poster has had access to it
pub label_there : (has : History) (p d : ℕ) (label : Option Label) → dataset_in label ≡ Some d →
    has p d ≡ true → has ≡ with_label has p label true
label_there has p d label e there = λ i q c. (at q c) i
  where
    same : (q c : ℕ) → (nat_eq q p && nat_eq d c) ≡ true → has q c ≡ true
    same q c both =
        let parts = and_parts (nat_eq q p) (nat_eq d c) both in
        ap (λ r. has r c) (eqb-true q p parts.0)
        ∙ (ap (λ n. has p n) (sym (eqb-true d c parts.1)) ∙ there)

    nothing_new : (a b : Bool) → (b ≡ true → a ≡ true) → a ≡ (a || b)
    nothing_new true b h = refl
    nothing_new false true h = h refl
    nothing_new false false h = refl

    at : (q c : ℕ) → has q c ≡ with_label has p label true q c
    at q c =
        nothing_new (has q c) (nat_eq q p && nat_eq d c) (same q c)
        ∙ ap (λ b. has q c || b) (and_true (nat_eq q p) (nat_eq d c)
        ∙ ap (λ o. (nat_eq q p && true) && is_that o c) (sym e))

nothing_and : (b c : Bool) → ((b && false) && c) ≡ false
nothing_and true c = refl
nothing_and false c = refl

and_nothing : (b : Bool) → (b && false) ≡ false
and_nothing true = refl
and_nothing false = refl

-- what names no dataset enters nothing
pub no_dataset : (has : History) (p : ℕ) (label : Option Label) (passed : Bool) →
    dataset_in label ≡ None → has ≡ with_label has p label passed
no_dataset has p label passed e = sym (λ i q c. (ap
    (λ o. has q c || (q == p && passed && is_that o c)) e
    ∙ (ap (λ b. has q c || b) (and_nothing (q == p && passed)) ∙ or-false (has q c))) i)

-- a barred post enters nothing
pub nothing_entered : (has : History) (p : ℕ) (label : Option Label) (passed : Bool) →
    passed ≡ false → has ≡ with_label has p label passed
nothing_entered has p label passed f = sym (λ i q c. (ap
    (λ x. has q c || (q == p && x && is_that (dataset_in label) c)) f
    ∙ (ap (λ b. has q c || b) (nothing_and (q == p) (is_that (dataset_in label) c))
    ∙ or-false (has q c))) i)

-- for an entry in a history, where the post passed
pub ruleset entering = (may_enter, label_entered, label_there, no_dataset)
