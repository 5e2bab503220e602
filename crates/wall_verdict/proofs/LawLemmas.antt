-- What verdicts say, and what a grant means.
use Rattle.std.proofs.Common.{◌≡◌, ℕ, zero, suc, ◌+◌, ◌<◌, Bool, true, false, List, length}
use Rattle.std.proofs.Common.{Option, Some, None, refl, sym, ap, ◌∙◌, subst, arith, ◌||◌, ◌&&◌, not}
use Rattle.std.proofs.Common.{slice_get, ⊎_elim, inl, inr, ◌⊎◌, IsSome, add-one}
use Rattle.std.specs.Prelude.{is_some, unwrap_or, ◌↔◌}
use Rattle.std.proofs.lemmas.Bool.{cases_Bool, false≢true, or_cases, or_left, or_right}
use Rattle.std.proofs.lemmas.Option.{slice_get_within, slice_get-get_or}
use Rattle.wall_labels.specs.declared.label.Label.{Label}
use Rattle.wall_policy.specs.Policy.{ChineseWall}
use Rattle.wall_rules.specs.Histories.{History, NobodyHoldsRivals}
use Rattle.wall_rules.specs.Rules.{HoldsNoRivals, first_rival}
use Rattle.wall_rules.proofs.WallRulesLemmas.{first_rival-none, no_rivals-grows, no_rivals-part}
use Rattle.coll_routes.specs.declared.roll.Roll.{Roll}
use Rattle.coll_routes.specs.declared.statement.Stated.{Stated}
use Rattle.coll_routes.specs.Rolls.{stated_by, label_in, label_of, barred_in, is_barred}
use Rattle.coll_routes.specs.Fit.{IsFit}
use Rattle.wall_verdict.specs.declared.verdict.Verdict.TheVariants.{Granted}
use Rattle.wall_verdict.specs.Charges.{is_that, contribution, contributed_below, contributed}
use Rattle.wall_verdict.specs.Charges.{charged, sanitised}
use Rattle.wall_verdict.specs.Verdicts.{member, meets, meets_rival, offends, first_barred}
use Rattle.wall_verdict.specs.Verdicts.{first_offence, stated_label, verdict, verdict_by}
use Rattle.wall_verdict.specs.Meanings.{IsVerdict, NamesBarred, NamesOffence, NobodyIsBarred}
use Rattle.wall_verdict.specs.Meanings.{MembersStayApart}
use Rattle.mpi_cart.proofs.MpiCartLemmas.{any_more}
use Rattle.wall_verdict.proofs.PairLemmas.{none_at, none_below, IsFirst, Searched, search_below}
use Rattle.wall_verdict.proofs.PairLemmas.{spared, none_found, IsFirstPair, SearchedPairs}
use Rattle.wall_verdict.proofs.PairLemmas.{search_pairs}
use Rattle.wall_verdict.proofs.MeetLemmas.{sanitised_charges_none, unsanitised_charges}
use Rattle.wall_verdict.proofs.MeaningLemmas.{charges_are_labels, offence_opens, no_offence}

---- What a fit roll has at a rank.

pub member_at : (roll : Roll) (j : ℕ) → IsFit roll → j < roll.shape.size →
    slice_get roll.members j ≡ Some (member roll j)
member_at roll j fit h =
    let long = fit.sound.members in
    let within : j < length roll.members = omega (arith, long) in
    let e = slice_get-get_or roll.members j 0 within in
    e ∙ ap (λ (p : ℕ). Some p) (sym (ap (λ o. unwrap_or o 0) e))

stated_is : (o : Option Label) → IsSome o → o ≡ Some (stated_label o)
stated_is (Some label) h = refl
stated_is None h = absurd (false≢true h)

labelled : (roll : Roll) (i : ℕ) → IsFit roll → (o : Option Stated) → stated_by roll i ≡ o →
    barred_in o ≡ true → IsSome (label_in o)
labelled roll i fit (Some s) e b = (fit.sound.statements i s e).labelled b
labelled roll i fit None e b = absurd (false≢true b)

---- What a verdict says.

module _ (wall : ChineseWall) (has : History) (roll : Roll) (fit : IsFit roll) where
  names_barred : (i : ℕ) → IsFirst (is_barred roll) roll.shape.size i →
      NamesBarred roll (member roll i) (stated_label (label_of roll i))
  names_barred i first = record {
    rank = i;
    lowest = record {
      within = first.within;
      barred = first.passes;
      lowest = λ k h. none_at (is_barred roll) i k h first.none;
    };
    is_member = member_at roll i fit first.within;
    is_label = stated_is (label_of roll i)
        (labelled roll i fit (stated_by roll i) refl first.passes);
  }

  names_offence : (j i : ℕ) →
      IsFirstPair (offends wall has roll) roll.shape.size roll.shape.size j i →
      NamesOffence wall has roll (member roll j) (stated_label (label_of roll i))
  names_offence j i first =
      let o = offence_opens wall has roll j i (member roll j) (member_at roll j fit first.receiver)
      first.passes in
      record {
        receiver = j;
        contributor = i;
        least = record {
          receiver = first.receiver;
          contributor = first.giver;
          offends = o;
          least = λ k m hk hm before. no_offence wall has roll k m (⊎_elim
              (λ low. spared (offends wall has roll) roll.shape.size j first.rows k m low hm)
              (λ same. subst (λ z. offends wall has roll z m ≡ false) (sym same.0)
              (none_at (offends wall has roll j) i m same.1 first.row))
              before);
        };
        is_member = member_at roll j fit first.receiver;
        is_label = stated_is (label_of roll i) (ap is_some o.charged.label);
      }

  nobody : first_barred roll ≡ None → NobodyIsBarred roll
  nobody none i h = none_at (is_barred roll) roll.shape.size i h none

  unbarred : (b : Option ℕ) → first_barred roll ≡ None →
      SearchedPairs (offends wall has roll) roll.shape.size roll.shape.size →
      IsVerdict wall has roll (verdict_by roll None (first_offence wall has roll))
  unbarred b none (inl nothing) = subst (λ o. IsVerdict wall has roll (verdict_by roll None o))
      (sym nothing) (
        nobody none,
        λ j i hj hi. no_offence wall has roll j i
            (spared (offends wall has roll) roll.shape.size roll.shape.size nothing j i hj hi),
      )
  unbarred b none (inr found) = subst (λ o. IsVerdict wall has roll (verdict_by roll None o))
      (sym found.2.here) (nobody none, names_offence found.0 found.1 found.2)

  by_barred : Searched (is_barred roll) roll.shape.size →
      IsVerdict wall has roll (verdict_by roll (first_barred roll) (first_offence wall has roll))
  by_barred (inl none) = subst
      (λ b. IsVerdict wall has roll (verdict_by roll b (first_offence wall has roll))) (sym none)
      (unbarred None none (search_pairs (offends wall has roll) roll.shape.size roll.shape.size))
  by_barred (inr found) = subst
      (λ b. IsVerdict wall has roll (verdict_by roll b (first_offence wall has roll)))
      (sym found.1.here) (names_barred found.0 found.1)

pub verdicts_name_the_least : (wall : ChineseWall) (has : History) (roll : Roll) → IsFit roll →
    IsVerdict wall has roll (verdict wall has roll)
unfolding verdict
verdicts_name_the_least wall has roll fit =
    by_barred wall has roll fit (search_below (is_barred roll) roll.shape.size)

---- Where no pair of a receiver offends, it may hold all that is charged to it.

that_one : (o : Option ℕ) (d e : ℕ) → o ≡ Some d → is_that o e ≡ true → e ≡ d
that_one None d e is h = absurd (cc)
that_one (Some c) d e is h =
    let same : c ≡ d = cc in sym (Rattle.std.proofs.Common.eqb-true c e h) ∙ same

that_none : (o : Option ℕ) (e : ℕ) → o ≡ None → is_that o e ≡ true → ⊥
that_none None e is h = false≢true h
that_none (Some c) e is h = absurd (cc)

not_some : (o : Option ℕ) → is_some o ≡ false → o ≡ None
not_some None f = refl
not_some (Some x) f = absurd (false≢true (sym f))

module _ (classes : List ℕ) (has : History) (roll : Roll) (j p : ℕ)
    (at : slice_get roll.members j ≡ Some p) where
  -- what p has had access to, and what ranks below n contribute to it
  under : ℕ → ℕ → Bool
  under n d = has p d || contributed_below roll j n d

  more : (n d : ℕ) → contributed_below roll j (n + 1) d ≡ true →
      (contributed_below roll j n d ≡ true) ⊎ (is_that (contribution roll n j) d ≡ true)
  more n d h = or_cases (contributed_below roll j n d) _
      (sym (any_more (λ i. is_that (contribution roll i j) d) n) ∙ h)

  step : (n : ℕ) → meets classes has roll j n ≡ false → HoldsNoRivals classes (under n) →
      (o : Option ℕ) → contribution roll n j ≡ o → HoldsNoRivals classes (under (n + 1))
  unfolding under
  step n spare before None e = no_rivals-part classes (under n) (under (n + 1)) before (λ d h.
      ⊎_elim (λ old. or_left (has p d) _ old)
      (λ new. ⊎_elim (λ low. or_right (has p d) _ low)
      (λ here. absurd (that_none (contribution roll n j) d e here)) (more n d new))
      (or_cases (has p d) _ h))
  step n spare before (Some own) e =
      let is_p : member roll j ≡ p = ap (λ o. unwrap_or o 0) at in
      let clear : is_some (first_rival classes (under n) own) ≡ false = sym
      (ap (λ o. meets_rival classes (λ q. has (member roll j) q || contributed_below roll j n q)
      o) e
      ∙ ap (λ m. is_some
      (first_rival classes (λ q. has m q || contributed_below roll j n q) own)) is_p)
      ∙ spare in
      no_rivals-grows classes (under n) (under (n + 1)) own before
      (first_rival-none classes (under n) own (not_some _ clear)) (λ d h.
      ⊎_elim (λ old. inl (or_left (has p d) _ old))
      (λ new. ⊎_elim (λ low. inl (or_right (has p d) _ low))
      (λ here. inr (that_one (contribution roll n j) own d e here)) (more n d new))
      (or_cases (has p d) _ h))

  under_apart : HoldsNoRivals classes (has p) → (n : ℕ) →
      ((i : ℕ) → i < n → meets classes has roll j i ≡ false) → HoldsNoRivals classes (under n)
  unfolding under
  under_apart before zero none = no_rivals-part classes (has p) (under 0) before
      (λ d h. ⊎_elim (λ old. old) (λ new. absurd (false≢true new)) (or_cases (has p d) _ h))
  under_apart before (suc n) none = subst (λ m. HoldsNoRivals classes (under m)) (add-one n)
      (step n (none n (omega arith)) (under_apart before n (λ i h. none i (omega arith)))
      (contribution roll n j) refl)

  pub contributed_apart : HoldsNoRivals classes (has p) →
      ((i : ℕ) → i < roll.shape.size → meets classes has roll j i ≡ false) →
      HoldsNoRivals classes (λ d. has p d || contributed roll j d)
  unfolding under
  contributed_apart before none = under_apart before roll.shape.size none

charged_apart : (wall : ChineseWall) (has : History) (roll : Roll) (j p : ℕ) →
    slice_get roll.members j ≡ Some p → HoldsNoRivals wall.classes (has p) →
    ((i : ℕ) → i < roll.shape.size → offends wall has roll j i ≡ false) →
    HoldsNoRivals wall.classes (λ d. has p d || charged wall roll j d)
charged_apart wall has roll j p at before none = ⊎_elim
    (λ t. no_rivals-part wall.classes (has p) _ before (λ d h.
    ⊎_elim (λ old. old)
    (λ new. absurd (false≢true (sym (sanitised_charges_none wall roll j d t) ∙ new)))
    (or_cases (has p d) _ h)))
    (λ f. no_rivals-part wall.classes (λ d. has p d || contributed roll j d) _
    (contributed_apart wall.classes has roll j p at before
    (λ i h. sym (ap (λ b. not b && meets wall.classes has roll j i) f) ∙ none i h))
    (λ d h. subst (λ b. (has p d || b) ≡ true) (unsanitised_charges wall roll j d f) h))
    (cases_Bool (sanitised wall roll j))

---- The meaning of a grant.

granted_parts : (roll : Roll) (b : Option ℕ) (o : Option (ℕ × ℕ)) → verdict_by roll b o ≡ Granted →
    (b ≡ None) × (o ≡ None)
granted_parts roll (Some i) o e = absurd (cc)
granted_parts roll None (Some pair) e = absurd (cc)
granted_parts roll None None e = (refl, refl)

granted_spares : (wall : ChineseWall) (has : History) (roll : Roll) →
    verdict wall has roll ≡ Granted →
    (first_barred roll ≡ None) × (first_offence wall has roll ≡ None)
unfolding verdict
granted_spares wall has roll e =
    granted_parts roll (first_barred roll) (first_offence wall has roll) e

spares_grant : (wall : ChineseWall) (has : History) (roll : Roll) → first_barred roll ≡ None →
    first_offence wall has roll ≡ None → verdict wall has roll ≡ Granted
unfolding verdict
spares_grant wall has roll b o =
    ap (λ x. verdict_by roll x (first_offence wall has roll)) b ∙ ap (λ x. verdict_by roll None x) o

pub granted_apart : (wall : ChineseWall) (has : History) (roll : Roll) → IsFit roll →
    NobodyHoldsRivals wall.classes has → verdict wall has roll ≡ Granted →
    MembersStayApart wall has roll
granted_apart wall has roll fit before e j p at =
    let long = fit.sound.members in
    let within : j < length roll.members = slice_get_within roll.members j p at in
    let low : j < roll.shape.size = omega (arith, long) in
    charged_apart wall has roll j p at (before p) (λ i h. spared (offends wall has roll)
    roll.shape.size roll.shape.size (granted_spares wall has roll e).1 j i low h)

-- members that may hold all that is charged to them are in no pair that offends
apart_spares : (wall : ChineseWall) (has : History) (roll : Roll) → IsFit roll →
    MembersStayApart wall has roll → (j i : ℕ) → j < roll.shape.size → i < roll.shape.size →
    offends wall has roll j i ≡ false
apart_spares wall has roll fit apart j i hj hi =
    ⊎_elim (λ t. absurd (none t)) (λ f. f) (cases_Bool (offends wall has roll j i))
  where
    none : offends wall has roll j i ≡ true → ⊥
    none t =
        let o = offence_opens wall has roll j i (member roll j) (member_at roll j fit hj) t in
        let mine : (has o.process o.dataset || charged wall roll j o.dataset) ≡ true = or_right
        (has o.process o.dataset) _
        ((charges_are_labels wall roll j o.dataset).1 (i, hi, o.charged)) in
        let theirs : (has o.process o.rival || charged wall roll j o.rival) ≡ true = ⊎_elim
        (λ old. or_left (has o.process o.rival) _ old)
        (λ new. or_right (has o.process o.rival) _
        ((charges_are_labels wall roll j o.rival).1 (new.0, omega (arith, new.1, hi), new.2)))
        o.held in
        apart j o.process o.receiver o.dataset o.rival mine theirs o.rivals

pub grants_are_joint : (wall : ChineseWall) (has : History) (roll : Roll) → IsFit roll →
    NobodyHoldsRivals wall.classes has → (verdict wall has roll ≡ Granted) ↔
    (NobodyIsBarred roll × MembersStayApart wall has roll)
grants_are_joint wall has roll fit before = (
  λ e. (
    (λ i h. none_at (is_barred roll) roll.shape.size i h (granted_spares wall has roll e).0),
    granted_apart wall has roll fit before e,
  ),
  λ both. spares_grant wall has roll (none_below (is_barred roll) roll.shape.size both.0)
      (none_found (offends wall has roll) roll.shape.size roll.shape.size
      (apart_spares wall has roll fit both.1)),
)
