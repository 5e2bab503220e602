-- The least pair that offends is of the lowest rank that gives the receiver what it may not have.
use Rattle.std.proofs.Common.{◌≡◌, ℕ, ◌<◌, true}
use Rattle.std.proofs.Common.{Option}
use Rattle.std.proofs.Common.{Some, refl, sym, ◌∙◌, subst, arith, slice_get, inl}
use Rattle.std.proofs.Common.{inr}
use Rattle.std.proofs.lemmas.Bool.{cases_lt}
use Rattle.wall_labels.specs.declared.label.Label.{Label}
use Rattle.wall_labels.specs.declared.label.Label.TheVariants.{Of}
use Rattle.wall_policy.specs.Policy.{ChineseWall}
use Rattle.wall_policy.specs.Rivals.{AreRivals}
use Rattle.wall_policy.proofs.WallPolicyLemmas.{rivals_turned}
use Rattle.wall_rules.specs.Histories.{History}
use Rattle.mpi_group.specs.Groups.{IsGroup, rank_in}
use Rattle.coll_routes.specs.declared.roll.Roll.{Roll}
use Rattle.coll_routes.specs.Rolls.{label_of}
use Rattle.wall_verdict.specs.Meanings.{IsChargedFrom, IsHeldBefore, Offends, IsLeastOffence}
use Rattle.wall_verdict.specs.Meanings.{NamesOffence}
use Rattle.book_report.specs.Walk.{GivesTo}
use Rattle.book_report.specs.Reasons.{IsBeside}
use Rattle.mpi_group.proofs.MpiGroupLemmas.{ranked}

-- one rank has one label
one_label : (o : Option Label) (d e : ℕ) → o ≡ Some (Of d) → o ≡ Some (Of e) → d ≡ e
one_label o d e a b = let both : Some (Of d) ≡ Some (Of e) = sym a ∙ b in cc

-- what a denial by the simple rule names
pub record IsFound (wall : ChineseWall) (has : History) (roll : Roll) (p : ℕ) (label : Label)
    (j i d : ℕ) : Type 0 where
  pub names : label ≡ Of d
  pub least : IsLeastOffence wall has roll j i
  pub receiver : slice_get roll.members j ≡ Some p
  pub charged : IsChargedFrom wall roll j i d
  pub lowest : (m : ℕ) → m < i → ¬ (GivesTo roll m j d)
  pub beside : ((e : ℕ) → has p e ≡ true → ¬ (AreRivals wall.classes d e)) →
      IsBeside wall roll j i d

module _ (wall : ChineseWall) (has : History) (roll : Roll) (j i p d rival : ℕ)
    (least : IsLeastOffence wall has roll j i) (receiver : slice_get roll.members j ≡ Some p)
    (charged : IsChargedFrom wall roll j i d) (rivals : AreRivals wall.classes d rival)
    (held : IsHeldBefore wall has roll j p i rival) where
  spared : (m : ℕ) → m < i → ¬ (Offends wall has roll j m)
  spared m low =
      let before = least.contributor in
      least.least j m least.receiver (omega (arith, before)) (inr (refl, low))

  charged_from : (m e : ℕ) → GivesTo roll m j e → IsChargedFrom wall roll j m e
  charged_from m e gives =
      record { routed = gives.0; label = gives.1; unsanitised = charged.unsanitised }

  -- a lower rank that gives d would offend, or one between them would
  no_lower : (m : ℕ) → m < i → ¬ (GivesTo roll m j d)
  no_lower m low gives = elim held [
    | inl had ↦ spared m low (record {
      process = p;
      dataset = d;
      rival = rival;
      receiver = receiver;
      charged = charged_from m d gives;
      rivals = rivals;
      held = inl had;
    })
    | inr other ↦ elim (cases_lt other.0 m) [
      | inl under ↦ spared m low (record {
        process = p;
        dataset = d;
        rival = rival;
        receiver = receiver;
        charged = charged_from m d gives;
        rivals = rivals;
        held = inr (other.0, under, other.2);
      })
      | inr over ↦ elim (cases_lt m other.0) [
        | inl above ↦ spared other.0 other.1 (record {
          process = p;
          dataset = rival;
          rival = d;
          receiver = receiver;
          charged = other.2;
          rivals = rivals_turned wall.classes d rival rivals;
          held = inr (m, above, charged_from m d gives);
        })
        | inr under ↦
            let same : other.0 ≡ m = omega (arith, over, under) in
            rivals.0 (one_label (label_of roll m) d rival gives.1
            (subst (λ r. label_of roll r ≡ Some (Of rival)) same other.2.label))
      ]
    ]
  ]

  comes_beside : ((e : ℕ) → has p e ≡ true → ¬ (AreRivals wall.classes d e)) →
      IsBeside wall roll j i d
  comes_beside none = elim held [
    | inl had ↦ absurd (none rival had rivals)
    | inr other ↦ record {
      unsanitised = charged.unsanitised;
      rank = other.0;
      low = other.1;
      gives = (rival, (other.2.routed, other.2.label), rivals);
    }
  ]

pub found : (wall : ChineseWall) (has : History) (roll : Roll) (p : ℕ) (label : Label) →
    NamesOffence wall has roll p label →
    (j : ℕ) × (i : ℕ) × (d : ℕ) × IsFound wall has roll p label j i d
found wall has roll p label names =
    let o = names.least.offends in
    let member : Some o.process ≡ Some p = sym o.receiver ∙ names.is_member in
    let process : o.process ≡ p = cc in
    let told : Some label ≡ Some (Of o.dataset) = sym names.is_label ∙ o.charged.label in
    let is : label ≡ Of o.dataset = cc in
    let held = subst (λ q. IsHeldBefore wall has roll names.receiver q names.contributor o.rival)
    process o.held in (
      names.receiver,
      names.contributor,
      o.dataset,
      record {
        names = is;
        least = names.least;
        receiver = names.is_member;
        charged = o.charged;
        lowest = no_lower wall has roll names.receiver names.contributor p o.dataset o.rival
            names.least names.is_member o.charged o.rivals held;
        beside = comes_beside wall has roll names.receiver names.contributor p o.dataset o.rival
            names.least names.is_member o.charged o.rivals held;
      },
    )

---- and the calls find it

module _ (wall : ChineseWall) (has : History) (roll : Roll) (p : ℕ) (label : Label) (j i d : ℕ)
    (f : IsFound wall has roll p label j i d) where
  pub dataset_same : (e : ℕ) → label ≡ Of e → e ≡ d
  dataset_same e is = let both : Of e ≡ Of d = sym is ∙ f.names in cc

  pub rank_same : (to : ℕ) → IsGroup roll.members → rank_in roll.members p ≡ Some to → to ≡ j
  rank_same to group is =
      let both : Some to ≡ Some j = sym is ∙ ranked roll.members j p group f.receiver in cc

  pub gives_it : GivesTo roll i j d
  gives_it = (f.charged.routed, f.charged.label)

  pub giver_same : (from : ℕ) → GivesTo roll from j d
      → ((m : ℕ) → m < from → ¬ (GivesTo roll m j d)) → from ≡ i
  giver_same from gives lowest = elim (cases_lt from i) [
    | inl low ↦ absurd (f.lowest from low gives)
    | inr over ↦ elim (cases_lt i from) [
      | inl high ↦ absurd (lowest i high gives_it)
      | inr under ↦ omega (arith, over, under)
    ]
  ]
