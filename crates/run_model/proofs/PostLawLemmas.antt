-- Histories grow, and posts that count keep the wall.
use Rattle.std.proofs.Common.{◌≡◌, ◌≢◌, ℕ, ◌<◌, ◌≤◌, Bool, true, false, not, List, [], ◌∷◌, ◌++◌}
use Rattle.std.proofs.Common.{length, Option, Some, None, refl, sym, ap, ◌∙◌, subst, arith, ◌&&◌}
use Rattle.std.proofs.Common.{slice_get, inl, inr, ◌⊎◌, ⊎_elim, eqb-true, eq-eqb}
use Rattle.std.specs.Prelude.{is_none, ◌==◌, nat_eq}
use Rattle.std.proofs.lemmas.Bool.{cases_Bool, cond-true, cond-false, false≢true, and_parts}
use Rattle.std.proofs.lemmas.Bool.{and_from, or_cases, or_left, or_right, not-true}
use Rattle.std.proofs.lemmas.Option.{slice_get_within}
use Rattle.wall_labels.specs.declared.ids.TheConstants.{DATASET_LIMIT}
use Rattle.wall_labels.specs.declared.label.Label.{Label}
use Rattle.wall_labels.specs.declared.label.Label.TheVariants.{Public, Of}
use Rattle.wall_labels.proofs.WallLabelsLemmas.{is_none-None}
use Rattle.wall_policy.specs.Policy.{ChineseWall, IsPolicy}
use Rattle.wall_policy.specs.Rivals.{are_rivals}
use Rattle.wall_policy.proofs.WallPolicyLemmas.{are_rivals-Decides}
use Rattle.wall_rules.specs.Rules.{HoldsNoRivals, PassesSimple, first_other, is_held_other}
use Rattle.wall_rules.specs.Rules.{passes_star}
use Rattle.wall_rules.specs.Histories.{History, NobodyHoldsRivals}
use Rattle.wall_rules.proofs.WallRulesLemmas.{least-none, no_rivals-grows, no_rivals-part}
use Rattle.wall_rules.proofs.WallRulesLemmas.{opening-apart, second_class}
use Rattle.mpi_group.specs.Groups.{rank_in}
use Rattle.coll_routes.specs.declared.roll.Roll.{Roll}
use Rattle.coll_routes.specs.Signatures.{is_constructor}
use Rattle.coll_routes.specs.Fit.{IsFit}
use Rattle.wall_verdict.specs.declared.verdict.Verdict.{Verdict}
use Rattle.wall_verdict.specs.declared.verdict.Verdict.TheVariants as verdicts
use Rattle.wall_verdict.specs.Charges.{dataset_in, is_that}
use Rattle.wall_verdict.specs.Star.{star}
use Rattle.wall_verdict.specs.Grants.{charged_at, charged_to}
use Rattle.wall_verdict.specs.Verdicts.{verdict}
use Rattle.wall_verdict.proofs.WallVerdictLemmas.{granted_apart}
use Rattle.run_model.specs.declared.outcome.Outcome.{Outcome}
use Rattle.run_model.specs.declared.outcome.Outcome.TheVariants.{Granted, Denied, Made, NoRoom}
use Rattle.run_model.specs.Comms.{Comm, new_comms}
use Rattle.run_model.specs.Posts.{Post, filled, comms, constructor_outcome, by_verdict, outcome_of}
use Rattle.run_model.specs.Posts.{labelled, is_granted, with_delivery, histories}
use Rattle.run_model.specs.Books.{IsCounted}
use Rattle.run_model.specs.PostLaws.{HistoriesGrow, CommunicatorsStay, PostsKeepTheWall}
use Rattle.mpi_group.proofs.MpiGroupLemmas.{rank_is}
use Rattle.run_model.proofs.CountedLemmas.{comms_stay}
use Rattle.run_model.proofs.FitLemmas.{filled_is_fit}

pub communicators_stay : CommunicatorsStay
communicators_stay wall later past = comms_stay wall later past

---- Histories only grow.

pub delivery_keeps :
    (wall : ChineseWall) (has : History) (before : ℕ) (roll : Option Roll) (p d : ℕ) →
    has p d ≡ true → with_delivery wall has before roll p d ≡ true
delivery_keeps wall has before None p d h = h
delivery_keeps wall has before (Some roll) p d h = or_left (has p d) _ h

pub grow : (wall : ChineseWall) (later past : List Post) (p d : ℕ) →
    histories wall past p d ≡ true → histories wall (later ++ past) p d ≡ true
grow wall [] past p d h = h
grow wall (x ∷ later) past p d h = delivery_keeps wall (labelled (histories wall (later ++ past)) x)
    (length (comms wall (later ++ past))) (filled (comms wall (later ++ past)) x (later ++ past)) p
    d (or_left (histories wall (later ++ past) p d) _ (grow wall later past p d h))

pub histories_grow : HistoriesGrow
histories_grow wall later past p d h = grow wall later past p d h

---- A label that passed the star rule.

that_one : (o : Option ℕ) (own d : ℕ) → o ≡ Some own → is_that o d ≡ true → d ≡ own
that_one o own d is h = sym (eqb-true own d (subst (λ q. is_that q d ≡ true) is h))

pub rival_parts : (classes : List ℕ) (d e : ℕ) → are_rivals classes d e ≡ true →
    (d ≢ e) × (e < length classes)
unfolding are_rivals
rival_parts classes d e h =
    let parts = and_parts (not (nat_eq d e)) _ h in
    let class = second_class (slice_get classes d) (slice_get classes e) parts.1 in (
      (λ same. false≢true (sym (not-true (nat_eq d e) parts.0) ∙ eq-eqb d e same)),
      slice_get_within classes e class.0 class.1,
    )

pub none_other : (n : ℕ) (held : ℕ → Bool) (label : Label) → passes_star n held label ≡ true →
    (e : ℕ) → e < n → is_held_other held label e ≡ false
unfolding first_other
none_other n held label h e low = least-none (is_held_other held label) n (is_none-None _ h) e low

-- what the poster has had access to has no rival of its label
passes_simple : (wall : ChineseWall) → IsPolicy wall → (held : ℕ → Bool) (own : ℕ) →
    passes_star DATASET_LIMIT held (Of own) ≡ true → PassesSimple wall.classes held own
passes_simple wall policy held own h e both =
    let parts = rival_parts wall.classes own e ((are_rivals-Decides wall.classes own e).1 both.1) in
    let few : length wall.classes ≤ DATASET_LIMIT = subst (λ n. n ≤ DATASET_LIMIT)
    (sym policy.class_for_each) policy.few_datasets in
    let low : e < DATASET_LIMIT = omega (arith, parts.1, few) in
    let spared = none_other DATASET_LIMIT held (Of own) h e low in
    ⊎_elim
    (λ t. parts.0 (eqb-true own e t))
    (λ f. false≢true (sym spared ∙ and_from (held e) (not (nat_eq own e)) both.0 (ap not f)))
    (cases_Bool (nat_eq own e))

-- one label more
label_keeps : (wall : ChineseWall) → IsPolicy wall → (has : History) (x : Post) →
    NobodyHoldsRivals wall.classes has →
    (x.stated.barred ≡ false → star has x.process x.stated.label ≡ true) →
    NobodyHoldsRivals wall.classes (labelled has x)
label_keeps wall policy has x before passed p = by_label x.stated.label refl
  where
    mine : (d : ℕ) → labelled has x p d ≡ true → (has p d ≡ true)
        ⊎ ((p ≡ x.process) × (x.stated.barred ≡ false)
        × (is_that (dataset_in x.stated.label) d ≡ true))
    mine d h = ⊎_elim (λ old. inl old)
        (λ new.
        let outer = and_parts (p == x.process && not x.stated.barred)
        (is_that (dataset_in x.stated.label) d) new in
        let inner = and_parts (p == x.process) (not x.stated.barred) outer.0 in
        inr (eqb-true p x.process inner.0, not-true x.stated.barred inner.1, outer.1))
        (or_cases (has p d) _ h)

    nothing_new : dataset_in x.stated.label ≡ None → HoldsNoRivals wall.classes (labelled has x p)
    nothing_new none = no_rivals-part wall.classes (has p) (labelled has x p) (before p)
        (λ d h. ⊎_elim (λ old. old) (λ (new : (p ≡ x.process) × (x.stated.barred ≡ false)
        × (is_that (dataset_in x.stated.label) d ≡ true)).
        absurd (false≢true (sym (ap (λ o. is_that o d) none) ∙ new.2))) (mine d h))

    one_more : (own : ℕ) → x.stated.label ≡ Some (Of own) → p ≡ x.process →
        x.stated.barred ≡ false → HoldsNoRivals wall.classes (labelled has x p)
    one_more own is same unbarred =
        let rule : passes_star DATASET_LIMIT (has p) (Of own) ≡ true = subst
        (λ q. passes_star DATASET_LIMIT (has q) (Of own) ≡ true) (sym same)
        (subst (λ l. star has x.process l ≡ true) is (passed unbarred)) in
        no_rivals-grows wall.classes (has p) (labelled has x p) own (before p)
        (passes_simple wall policy (has p) own rule) (λ d h.
        ⊎_elim (λ old. inl old) (λ (new : (p ≡ x.process) × (x.stated.barred ≡ false)
        × (is_that (dataset_in x.stated.label) d ≡ true)).
        inr (that_one (dataset_in x.stated.label) own d (ap dataset_in is) new.2))
        (mine d h))

    not_mine : (p ≡ x.process → x.stated.barred ≡ false → ⊥) →
        HoldsNoRivals wall.classes (labelled has x p)
    not_mine other = no_rivals-part wall.classes (has p) (labelled has x p) (before p)
        (λ d h. ⊎_elim (λ old. old) (λ (new : (p ≡ x.process) × (x.stated.barred ≡ false)
        × (is_that (dataset_in x.stated.label) d ≡ true)). absurd (other new.0 new.1))
        (mine d h))

    by_poster : (own : ℕ) → x.stated.label ≡ Some (Of own) →
        HoldsNoRivals wall.classes (labelled has x p)
    by_poster own is = ⊎_elim
        (λ t. ⊎_elim
        (λ b. not_mine (λ _ unbarred. false≢true (sym unbarred ∙ b)))
        (λ b. one_more own is (eqb-true p x.process t) b)
        (cases_Bool x.stated.barred))
        (λ f. not_mine (λ same _. false≢true (sym f ∙ eq-eqb p x.process same)))
        (cases_Bool (p == x.process))

    by_label : (l : Option Label) → x.stated.label ≡ l →
        HoldsNoRivals wall.classes (labelled has x p)
    by_label None is = nothing_new (ap dataset_in is)
    by_label (Some Public) is = nothing_new (ap dataset_in is)
    by_label (Some (Of own)) is = by_poster own is

---- One instance more.

verdict_granted : (v : Verdict) → is_granted (by_verdict v) ≡ true → v ≡ verdicts.Granted
verdict_granted verdicts.Granted h = refl
verdict_granted (verdicts.Denied rule p label) h = absurd (false≢true h)

none_made : (before : ℕ) (new : List Comm) → is_granted (constructor_outcome before new) ≡ true → ⊥
none_made before new h = ⊎_elim
    (λ t. false≢true (sym (ap is_granted (cond-true
    (Rattle.mpi_comm.specs.Comms.fits before (length new))
    (Made before (length new)) NoRoom t)) ∙ h))
    (λ f. false≢true (sym (ap is_granted (cond-false
    (Rattle.mpi_comm.specs.Comms.fits before (length new))
    (Made before (length new)) NoRoom f)) ∙ h))
    (cases_Bool (Rattle.mpi_comm.specs.Comms.fits before (length new)))

-- what was granted is a collective, by its verdict
pub outcome_granted : (wall : ChineseWall) (has : History) (before : ℕ) (roll : Roll) →
    is_granted (outcome_of wall has before roll) ≡ true →
    (is_constructor roll.sig ≡ false) × (verdict wall has roll ≡ verdicts.Granted)
outcome_granted wall has before roll h = ⊎_elim
    (λ t. absurd (none_made before (new_comms roll) (sym (ap is_granted
    (cond-true (is_constructor roll.sig)
    (constructor_outcome before (new_comms roll))
    (by_verdict (verdict wall has roll)) t)) ∙ h)))
    (λ f. (
      f,
      verdict_granted (verdict wall has roll) (sym (ap is_granted (cond-false
          (is_constructor roll.sig) (constructor_outcome before (new_comms roll))
          (by_verdict (verdict wall has roll)) f)) ∙ h),
    ))
    (cases_Bool (is_constructor roll.sig))

pub granted_is : (o : Outcome) → is_granted o ≡ true → o ≡ Granted
granted_is Granted h = refl
granted_is (Denied rule p label) h = absurd (false≢true h)
granted_is (Made first number) h = absurd (false≢true h)
granted_is NoRoom h = absurd (false≢true h)

delivery_apart : (wall : ChineseWall) (has : History) (before : ℕ) (o : Option Roll) →
    ((roll : Roll) → o ≡ Some roll → IsFit roll) → NobodyHoldsRivals wall.classes has →
    NobodyHoldsRivals wall.classes (with_delivery wall has before o)
delivery_apart wall has before None fit apart p = apart p
delivery_apart wall has before (Some roll) fit apart p = ⊎_elim
    (λ t. granted_at t (rank_in roll.members p) refl)
    (λ f. no_rivals-part wall.classes (has p) _ (apart p) (λ d h. ⊎_elim (λ old. old)
    (λ new. absurd (false≢true (sym f
    ∙ (and_parts (is_granted (outcome_of wall has before roll))
    (charged_to wall roll p d) new).0)))
    (or_cases (has p d) _ h)))
    (cases_Bool (is_granted (outcome_of wall has before roll)))
  where
    granted_at : is_granted (outcome_of wall has before roll) ≡ true → (r : Option ℕ) →
        rank_in roll.members p ≡ r →
        HoldsNoRivals wall.classes (with_delivery wall has before (Some roll) p)
    granted_at t None e =
        no_rivals-part wall.classes (has p) _ (apart p) (λ d h. ⊎_elim (λ old. old)
        (λ new. absurd (false≢true (sym (ap (λ r. charged_at wall roll r d) e)
        ∙ (and_parts (is_granted (outcome_of wall has before roll))
        (charged_to wall roll p d) new).1)))
        (or_cases (has p d) _ h))
    granted_at t (Some j) e =
        let together = granted_apart wall has roll (fit roll refl) apart
        (outcome_granted wall has before roll t).1 j p (rank_is roll.members p j e).0 in
        no_rivals-part wall.classes _ _ together (λ d h. ⊎_elim (λ old. or_left (has p d) _ old)
        (λ new. or_right (has p d) _ (sym (ap (λ r. charged_at wall roll r d) e)
        ∙ (and_parts (is_granted (outcome_of wall has before roll))
        (charged_to wall roll p d) new).1))
        (or_cases (has p d) _ h))

---- Whole lists.

pub passed : (wall : ChineseWall) (x : Post) (past : List Post) → IsCounted wall x past →
    x.stated.barred ≡ false → star (histories wall past) x.process x.stated.label ≡ true
passed wall x past taken unbarred = ⊎_elim (λ t. t)
    (λ f. absurd (false≢true (sym unbarred ∙ (taken.word ∙ ap not f))))
    (cases_Bool (star (histories wall past) x.process x.stated.label))

pub posts_keep_the_wall : PostsKeepTheWall
posts_keep_the_wall wall [] policy taken = opening-apart wall policy
posts_keep_the_wall wall (x ∷ past) policy taken =
    delivery_apart wall (labelled (histories wall past) x) (length (comms wall past))
    (filled (comms wall past) x past)
    (λ roll e. filled_is_fit wall x past roll policy taken e)
    (label_keeps wall policy (histories wall past) x (posts_keep_the_wall wall past policy taken.0)
    (passed wall x past taken.1))
