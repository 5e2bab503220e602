-- Charges and offences, as relations and as tests.
use Rattle.std.proofs.Common.{◌≡◌, ℕ, ◌<◌, Bool, true, false, Option, Some, None, refl, sym, ap}
use Rattle.std.proofs.Common.{◌∙◌, arith, ◌||◌, not, slice_get, ⊎_elim, inl, inr, eqb-true, eq-eqb}
use Rattle.std.specs.Prelude.{is_some, unwrap_or, IsTrue, ◌↔◌}
use Rattle.std.proofs.lemmas.Bool.{cases_Bool, cond-true, cond-false, false≢true, or_cases, or_left}
use Rattle.std.proofs.lemmas.Bool.{or_right, and_parts, and_from, not-true}
use Rattle.wall_labels.specs.declared.label.Label.{Label}
use Rattle.wall_labels.specs.declared.label.Label.TheVariants.{Public, Of}
use Rattle.wall_labels.proofs.WallLabelsLemmas.{is_some-Some}
use Rattle.wall_policy.specs.Policy.{ChineseWall}
use Rattle.wall_rules.specs.Histories.{History}
use Rattle.wall_rules.specs.Rules.{first_rival}
use Rattle.wall_rules.proofs.WallRulesLemmas.{first_rival-none, first_rival-some}
use Rattle.coll_routes.proofs.CollRoutesLemmas.{any_at, any_found}
use Rattle.coll_routes.specs.declared.roll.Roll.{Roll}
use Rattle.coll_routes.specs.Rolls.{label_of, routed}
use Rattle.wall_verdict.specs.Charges.{dataset_in, is_that, contribution, contributed_below}
use Rattle.wall_verdict.specs.Charges.{contributed, charged, sanitised}
use Rattle.wall_verdict.specs.Verdicts.{member, meets, meets_rival, offends}
use Rattle.wall_verdict.specs.Meanings.{IsChargedFrom, IsHeldBefore, Offends}
use Rattle.wall_verdict.proofs.MeetLemmas.{meets_none}

---- One contribution.

pub label_is : (o : Option Label) (d : ℕ) → dataset_in o ≡ Some d → o ≡ Some (Of d)
label_is (Some (Of e)) d h = let same : e ≡ d = cc in ap (λ (k : ℕ). Some (Of k)) same
label_is (Some Public) d h = absurd (cc)
label_is None d h = absurd (cc)

contributes_from : (roll : Roll) (i j d : ℕ) → contribution roll i j ≡ Some d →
    (routed roll i j ≡ true) × (label_of roll i ≡ Some (Of d))
contributes_from roll i j d e = ⊎_elim
    (λ t. (
      t,
      label_is (label_of roll i) d
          (sym (cond-true (routed roll i j) (dataset_in (label_of roll i)) None t) ∙ e),
    ))
    (λ f. let none = sym (cond-false (routed roll i j) (dataset_in (label_of roll i)) None f) ∙ e in
    absurd (cc))
    (cases_Bool (routed roll i j))

pub contribution_of : (wall : ChineseWall) (roll : Roll) (j i d : ℕ) →
    IsChargedFrom wall roll j i d → contribution roll i j ≡ Some d
contribution_of wall roll j i d c =
    cond-true (routed roll i j) (dataset_in (label_of roll i)) None c.routed ∙ ap dataset_in c.label

pub charged_from : (wall : ChineseWall) (roll : Roll) (j i d : ℕ) → sanitised wall roll j ≡ false →
    contribution roll i j ≡ Some d → IsChargedFrom wall roll j i d
charged_from wall roll j i d f e = let parts = contributes_from roll i j d e in
    record { routed = parts.0; label = parts.1; unsanitised = f }

that_one : (o : Option ℕ) (d : ℕ) → is_that o d ≡ true → o ≡ Some d
that_one None d h = absurd (false≢true h)
that_one (Some e) d h = ap (λ (k : ℕ). Some k) (eqb-true e d h)

pub one_that : (o : Option ℕ) (d : ℕ) → o ≡ Some d → is_that o d ≡ true
one_that o d e = ap (λ x. is_that x d) e ∙ eq-eqb d d refl

---- Those of the ranks below n.

pub below_from : (wall : ChineseWall) (roll : Roll) (j n d : ℕ) → sanitised wall roll j ≡ false →
    contributed_below roll j n d ≡ true → (i : ℕ) × (i < n) × IsChargedFrom wall roll j i d
below_from wall roll j n d f e =
    let found = any_found (λ i. is_that (contribution roll i j) d) 0 n e in (
      found.0,
      omega (arith, found.1),
      charged_from wall roll j found.0 d f (that_one (contribution roll found.0 j) d found.2),
    )

pub from_below : (wall : ChineseWall) (roll : Roll) (j n d i : ℕ) → i < n →
    IsChargedFrom wall roll j i d → contributed_below roll j n d ≡ true
from_below wall roll j n d i h c = any_at (λ k. is_that (contribution roll k j) d) 0 n i
    (omega arith) (omega arith)
    (one_that (contribution roll i j) d (contribution_of wall roll j i d c))

---- All that is charged to a rank.

pub charges_are_labels : (wall : ChineseWall) (roll : Roll) (j d : ℕ) →
    IsTrue (charged wall roll j d) ↔
    ((i : ℕ) × (i < roll.shape.size) × IsChargedFrom wall roll j i d)
charges_are_labels wall roll j d = (
  λ h. (let parts = and_parts (not (sanitised wall roll j)) (contributed roll j d) h in
      below_from wall roll j roll.shape.size d (not-true (sanitised wall roll j) parts.0) parts.1),
  λ found. and_from (not (sanitised wall roll j)) (contributed roll j d)
      (ap not found.2.unsanitised)
      (from_below wall roll j roll.shape.size d found.0 found.1 found.2),
)

---- Offences.

member_is : (roll : Roll) (j p : ℕ) → slice_get roll.members j ≡ Some p → member roll j ≡ p
member_is roll j p at = ap (λ o. unwrap_or o 0) at

abbrev before : History → Roll → (j i e : ℕ) → Bool
before has roll j i e = has (member roll j) e || contributed_below roll j i e

pub offence_opens : (wall : ChineseWall) (has : History) (roll : Roll) (j i p : ℕ) →
    slice_get roll.members j ≡ Some p → offends wall has roll j i ≡ true → Offends wall has roll j i
offence_opens wall has roll j i p at h = by_contribution (contribution roll i j) refl
  where
    f : sanitised wall roll j ≡ false
    f = not-true (sanitised wall roll j)
        (and_parts (not (sanitised wall roll j)) (meets wall.classes has roll j i) h).0

    m : meets wall.classes has roll j i ≡ true
    m = (and_parts (not (sanitised wall roll j)) (meets wall.classes has roll j i) h).1

    held : (e : ℕ) → before has roll j i e ≡ true → IsHeldBefore wall has roll j p i e
    held e b = ⊎_elim
        (λ old. inl (sym (ap (λ q. has q e) (member_is roll j p at)) ∙ old))
        (λ new. inr (below_from wall roll j i e f new))
        (or_cases (has (member roll j) e) (contributed_below roll j i e) b)

    by_contribution : (o : Option ℕ) → contribution roll i j ≡ o → Offends wall has roll j i
    by_contribution None e = absurd (false≢true (sym (meets_none wall.classes has roll j i e) ∙ m))
    by_contribution (Some d) e =
        let clash : is_some (first_rival wall.classes (before has roll j i) d) ≡ true = sym
        (ap (λ o. meets_rival wall.classes (before has roll j i) o) e) ∙ m in
        let found = is_some-Some (first_rival wall.classes (before has roll j i) d) clash in
        let low = first_rival-some wall.classes (before has roll j i) d found.0 found.1 in
        record {
          process = p;
          dataset = d;
          rival = found.0;
          receiver = at;
          charged = charged_from wall roll j i d f e;
          rivals = low.0.1;
          held = held found.0 low.0.0;
        }

pub offence_shuts : (wall : ChineseWall) (has : History) (roll : Roll) (j i : ℕ) →
    Offends wall has roll j i → offends wall has roll j i ≡ true
offence_shuts wall has roll j i o = and_from (not (sanitised wall roll j))
    (meets wall.classes has roll j i) (ap not o.charged.unsanitised)
    (ap (λ x. meets_rival wall.classes (before has roll j i) x)
    (contribution_of wall roll j i o.dataset o.charged)
    ∙ clash (first_rival wall.classes (before has roll j i) o.dataset) refl)
  where
    is_before : before has roll j i o.rival ≡ true
    is_before = ⊎_elim
        (λ old. or_left (has (member roll j) o.rival) _
        (ap (λ q. has q o.rival) (member_is roll j o.process o.receiver) ∙ old))
        (λ new. or_right (has (member roll j) o.rival) _
        (from_below wall roll j i o.rival new.0 new.1 new.2))
        o.held

    clash : (r : Option ℕ) → first_rival wall.classes (before has roll j i) o.dataset ≡ r →
        is_some (first_rival wall.classes (before has roll j i) o.dataset) ≡ true
    clash (Some e) is = ap is_some is
    clash None is = absurd (first_rival-none wall.classes (before has roll j i) o.dataset is o.rival
        (is_before, o.rivals))

pub no_offence : (wall : ChineseWall) (has : History) (roll : Roll) (j i : ℕ) →
    offends wall has roll j i ≡ false → ¬ (Offends wall has roll j i)
no_offence wall has roll j i f o = false≢true (sym f ∙ offence_shuts wall has roll j i o)
