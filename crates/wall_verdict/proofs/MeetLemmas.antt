-- What a contribution meets, rank by rank.
use Rattle.std.proofs.Common.{◌≡◌, ℕ, Bool, true, false, List, Some, None, refl, sym, ap}
use Rattle.std.proofs.Common.{◌∙◌, ◌||◌, ◌&&◌, not, slice_get, find, [], ◌∷◌}
use Rattle.std.specs.Prelude.{is_some, unwrap_or}
use Rattle.std.specs.Ordering.{nat_cmp}
use Rattle.std.specs.FinSet.{FinSet, insert, contains}
use Rattle.std.proofs.lemmas.Bool.{or_right}
use Rattle.wall_labels.proofs.WallLabelsLemmas.{not_some-None}
use Rattle.wall_policy.specs.Policy.{ChineseWall}
use Rattle.wall_rules.specs.Histories.{History}
use Rattle.wall_rules.specs.Rules.{first_rival, joined, clashes, HoldsNoRivals}
use Rattle.wall_rules.proofs.WallRulesLemmas.{first_rival-alike, none-first_rival, no_rivals-insert}
use Rattle.coll_routes.specs.declared.roll.Roll.{Roll}
use Rattle.coll_routes.specs.Rolls.{ranks}
use Rattle.wall_verdict.specs.Charges.{contribution, contributed_below, contributed, charged}
use Rattle.wall_verdict.specs.Charges.{sanitised}
use Rattle.wall_verdict.specs.Verdicts.{member, meets, meets_rival, offends}
use Rattle.wall_verdict.proofs.ChargeLemmas.{AreBrought, brought_none, brought_more, brought_same}
use Rattle.wall_verdict.proofs.BelowLemmas.{find_none_more, find_found}

-- a dataset that is held already has no rival there
pub held_is_clear : (classes : List ℕ) (held : ℕ → Bool) (s : FinSet nat_cmp) (d : ℕ) →
    HoldsNoRivals classes (joined held s) → contains s d ≡ true →
    false ≡ clashes classes (joined held s) d
held_is_clear classes held s d apart is = sym (ap is_some (none-first_rival classes (joined held s)
    d (λ e h. apart d e (or_right (held d) (contains s d) is) h.0 h.1)))

-- a dataset without a rival there may be added
pub stays_apart : (classes : List ℕ) (held : ℕ → Bool) (s : FinSet nat_cmp) (d : ℕ) →
    HoldsNoRivals classes (joined held s) → clashes classes (joined held s) d ≡ false →
    HoldsNoRivals classes (joined held (insert s d))
stays_apart classes held s d apart clear =
    no_rivals-insert classes held s d apart
    (not_some-None (first_rival classes (joined held s) d) clear)

-- whether what comes from i meets a rival, where the set has what comes from below
pub meets_is : (classes : List ℕ) (has : History) (roll : Roll) (j i p d : ℕ) (s : FinSet nat_cmp) →
    slice_get roll.members j ≡ Some p → contribution roll i j ≡ Some d →
    AreBrought (λ k. contribution roll k j) i s →
    meets classes has roll j i ≡ clashes classes (joined (has p) s) d
meets_is classes has roll j i p d s at e h =
    ap (λ o. meets_rival classes (λ q. has (member roll j) q || contributed_below roll j i q) o) e
    ∙ (ap (λ m. is_some (first_rival classes (λ q. has m q || contributed_below roll j i q) d))
    (ap (λ o. unwrap_or o 0) at)
    ∙ ap is_some (first_rival-alike classes (λ q. has p q || contributed_below roll j i q)
    (joined (has p) s) d (λ q. ap (λ b. has p q || b) (sym (h q)))))

pub meets_none : (classes : List ℕ) (has : History) (roll : Roll) (j i : ℕ) →
    contribution roll i j ≡ None → meets classes has roll j i ≡ false
meets_none classes has roll j i e =
    ap (λ o. meets_rival classes (λ q. has (member roll j) q || contributed_below roll j i q) o) e

-- for a walk over the ranks, up to the first that meets a rival
pub ruleset first_meetings = (
  brought_none,
  brought_more,
  brought_same,
  meets_is,
  meets_none,
  stays_apart,
  find_none_more,
  find_found,
)

---- Where what rank j gets is sanitised, and where it isn't.

find_nothing : (xs : List ℕ) → find (λ i. false) xs ≡ None
find_nothing [] = refl
find_nothing (x ∷ xs) = find_nothing xs

pub sanitised_spares : (wall : ChineseWall) (has : History) (roll : Roll) (j : ℕ) →
    sanitised wall roll j ≡ true → None ≡ find (offends wall has roll j) (ranks roll)
sanitised_spares wall has roll j e = sym (ap
    (λ b. find (λ i. not b && meets wall.classes has roll j i) (ranks roll)) e
    ∙ find_nothing (ranks roll))

pub unsanitised_meets : (wall : ChineseWall) (has : History) (roll : Roll) (j : ℕ) →
    sanitised wall roll j ≡ false →
    find (meets wall.classes has roll j) (ranks roll) ≡ find (offends wall has roll j) (ranks roll)
unsanitised_meets wall has roll j e =
    sym (ap (λ b. find (λ i. not b && meets wall.classes has roll j i) (ranks roll)) e)

pub sanitised_charges_none : (wall : ChineseWall) (roll : Roll) (j d : ℕ) →
    sanitised wall roll j ≡ true → charged wall roll j d ≡ false
sanitised_charges_none wall roll j d e = ap (λ b. not b && contributed roll j d) e

pub unsanitised_charges : (wall : ChineseWall) (roll : Roll) (j d : ℕ) →
    sanitised wall roll j ≡ false → charged wall roll j d ≡ contributed roll j d
unsanitised_charges wall roll j d e = ap (λ b. not b && contributed roll j d) e
