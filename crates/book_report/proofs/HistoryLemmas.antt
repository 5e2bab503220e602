-- The histories that a book gives, entry by entry.
use Rattle.std.proofs.Common.{◌≡◌, ◌⊎◌, ℕ, ◌+◌, ◌<◌, ◌≤◌, Bool, true, false, ◌&&◌}
use Rattle.std.proofs.Common.{◌||◌}
use Rattle.std.proofs.Common.{not, List, [], ◌∷◌, ◌++◌, length, take, drop, Option, Some, None}
use Rattle.std.proofs.Common.{refl}
use Rattle.std.proofs.Common.{sym, ap, ◌∙◌, subst, arith, slice_get, nat_eq, inl, inr}
use Rattle.std.specs.Option.{option_map}
use Rattle.std.proofs.lemmas.Bool.{or_left, or_right, or_cases, and_parts, cases_Bool, false≢true}
use Rattle.std.proofs.lemmas.Bool.{eqb-true, eq-eqb}
use Rattle.std.proofs.lemmas.List.{take-take, take-append-drop}
use Rattle.wall_labels.specs.declared.label.Label.{Label}
use Rattle.wall_labels.specs.declared.label.Label.TheVariants.{Public, Of}
use Rattle.wall_policy.specs.Policy.{ChineseWall}
use Rattle.wall_rules.specs.Histories.{History, opening}
use Rattle.coll_routes.specs.declared.roll.Roll.{Roll}
use Rattle.wall_verdict.specs.Charges.{dataset_in, is_that}
use Rattle.wall_verdict.specs.Star.{with_label}
use Rattle.wall_verdict.specs.Grants.{charged_to}
use Rattle.run_model.specs.declared.outcome.Outcome.{Outcome}
use Rattle.run_model.specs.declared.outcome.Outcome.TheVariants.{Granted}
use Rattle.run_model.specs.declared.entry.Entry.{Entry}
use Rattle.run_model.specs.declared.entry.Entry.TheVariants.{Settled}
use Rattle.run_model.specs.Posts.{Post, comms, filled, histories, outcome, outcome_of, labelled}
use Rattle.run_model.specs.Posts.{is_granted, with_delivery}
use Rattle.run_model.specs.Books.{posted, posts_in}
use Rattle.run_model.proofs.RunModelLemmas.{posts_in-append, granted_is, grow}
use Rattle.audit_book.proofs.AuditBookLemmas.{take_more}
use Rattle.book_report.specs.Held.{posts_to, histories_after, IsFirstAfter}

---- before the first entry

pub no_posts : (entries : List Entry) → posts_to entries 0 ≡ []
no_posts [] = refl
no_posts (e ∷ entries) = refl

-- what is held at first is held after no entry
pub first_at_start : (wall : ChineseWall) (entries : List Entry) (p d : ℕ) →
    opening wall p d ≡ true → IsFirstAfter wall entries p d 0
first_at_start wall entries p d held = record {
  within = omega arith;
  held = ap (λ past. histories wall past p d) (no_posts entries) ∙ held;
  new = λ m low. absurd (omega arith);
}

---- the posts of one entry more

pub posts_posted : (entries : List Entry) (n : ℕ) (x : Post) →
    slice_get entries n ≡ Some (posted x) → posts_to entries (n + 1) ≡ x ∷ posts_to entries n
posts_posted entries n x at =
    ap (λ es. posts_in es) (take_more entries n (posted x) at)
    ∙ posts_in-append (take n entries) (posted x ∷ [])

pub posts_settled : (entries : List Entry) (n c k : ℕ) (o : Outcome) →
    slice_get entries n ≡ Some (Settled c k o) → posts_to entries (n + 1) ≡ posts_to entries n
posts_settled entries n c k o at =
    ap (λ es. posts_in es) (take_more entries n (Settled c k o) at)
    ∙ posts_in-append (take n entries) (Settled c k o ∷ [])

---- histories only grow

delivery_keeps : (wall : ChineseWall) (has : History) (before : ℕ) (roll : Option Roll) (p d : ℕ) →
    has p d ≡ true → with_delivery wall has before roll p d ≡ true
delivery_keeps wall has before None p d h = h
delivery_keeps wall has before (Some roll) p d h = or_left (has p d) _ h

pub take_drop : (n : ℕ) (es : List Entry) → es ≡ take n es ++ drop n es
take_drop n es = sym (take-append-drop n es)

-- what is held after n entries is held after more
pub held_later : (wall : ChineseWall) (entries : List Entry) (n m p d : ℕ) → n ≤ m →
    histories_after wall entries n p d ≡ true → histories_after wall entries m p d ≡ true
held_later wall entries n m p d later h =
    let prefix : take n (take m entries) ≡ take n entries = take-take n m entries later in
    let parts : posts_to entries m ≡ posts_in (drop n (take m entries)) ++ posts_to entries n =
    ap (λ es. posts_in es) (take_drop n (take m entries))
    ∙ posts_in-append (take n (take m entries)) (drop n (take m entries))
    ∙ ap (λ es. posts_in (drop n (take m entries)) ++ posts_in es) prefix in
    ap (λ past. histories wall past p d) parts
    ∙ grow wall (posts_in (drop n (take m entries))) (posts_to entries n) p d h

-- a pair that entry n brings is held after it first
pub first_after : (wall : ChineseWall) (entries : List Entry) (n p d : ℕ) → n < length entries →
    histories_after wall entries n p d ≡ false → histories_after wall entries (n + 1) p d ≡ true →
    IsFirstAfter wall entries p d (n + 1)
first_after wall entries n p d low before after = record {
  within = omega arith;
  held = after;
  new = λ m earlier. elim (cases_Bool (histories_after wall entries m p d)) [
    | inl t ↦ absurd (false≢true (sym before
        ∙ held_later wall entries m n p d (omega arith) t))
    | inr f ↦ f
  ];
}

---- what a post makes of the histories

-- the pairs that a label enters
pub label_cases : (has : History) (p : ℕ) (label : Option Label) (passed : Bool) (q d : ℕ) →
    with_label has p label passed q d ≡ true →
    (has q d ≡ true) ⊎ ((q ≡ p) × (passed ≡ true) × (label ≡ Some (Of d)))
label_cases has p label passed q d h =
    elim (or_cases (has q d) (nat_eq q p && passed && is_that (dataset_in label) d) h) [
      | inl old ↦ inl old
      | inr new ↦
          let parts = and_parts (nat_eq q p && passed) (is_that (dataset_in label) d) new in
          let prefix = and_parts (nat_eq q p) passed parts.0 in
          inr (eqb-true q p prefix.0, prefix.1, label_of_that label d parts.1)
    ]
  where
    label_of_that : (label : Option Label) (d : ℕ) → is_that (dataset_in label) d ≡ true →
        label ≡ Some (Of d)
    label_of_that None d h = absurd (false≢true h)
    label_of_that (Some Public) d h = absurd (false≢true h)
    label_of_that (Some (Of e)) d h = ap (λ (k : ℕ). Some (Of k)) (eqb-true e d h)

module _ (wall : ChineseWall) (x : Post) (past : List Post) where
  abbrev before : ℕ
  before = length (comms wall past)

  abbrev written : History
  written = labelled (histories wall past) x

  -- its own label is entered
  pub own_is_written : (d : ℕ) → x.stated.barred ≡ false → x.stated.label ≡ Some (Of d) →
      written x.process d ≡ true
  own_is_written d passed label =
      let names : dataset_in x.stated.label ≡ Some d = ap dataset_in label in
      or_right (histories wall past x.process d) _
      (λ i. (eq-eqb x.process x.process refl i && not (passed i))
      && (ap (λ o. is_that o d) names ∙ eq-eqb d d refl) i)

  pub written_stays : (p d : ℕ) → written p d ≡ true → histories wall (x ∷ past) p d ≡ true
  written_stays p d h = delivery_keeps wall written before (filled (comms wall past) x past) p d h

  outcome_is : (roll : Roll) (o : Outcome) → filled (comms wall past) x past ≡ Some roll →
      outcome wall x past ≡ Some o → outcome_of wall written before roll ≡ o
  outcome_is roll o fills came =
      let both : Some (outcome_of wall written before roll) ≡ Some o =
      sym (ap (λ f. option_map (outcome_of wall written before) f) fills)
      ∙ came in cc

  -- where it fills nothing, nothing else is
  pub unfilled : filled (comms wall past) x past ≡ None → (p d : ℕ) →
      histories wall (x ∷ past) p d ≡ true → written p d ≡ true
  unfilled none p d h =
      subst (λ o. with_delivery wall written before o p d ≡ true) none h

  delivered_by : (roll : Roll) → filled (comms wall past) x past ≡ Some roll → (p d : ℕ) →
      histories wall (x ∷ past) p d
      ≡ (written p d
      || (is_granted (outcome_of wall written before roll) && charged_to wall roll p d))
  delivered_by roll fills p d = ap (λ o. with_delivery wall written before o p d) fills

  -- a grant enters what is charged
  pub granted_enters : (roll : Roll) → filled (comms wall past) x past ≡ Some roll →
      outcome wall x past ≡ Some Granted → (p d : ℕ) → charged_to wall roll p d ≡ true →
      histories wall (x ∷ past) p d ≡ true
  granted_enters roll fills came p d charge =
      delivered_by roll fills p d
      ∙ or_right (written p d) _
      (λ i. is_granted (outcome_is roll Granted fills came i) && charge i)

  -- and nothing else is entered
  pub granted_only : (roll : Roll) → filled (comms wall past) x past ≡ Some roll → (p d : ℕ) →
      histories wall (x ∷ past) p d ≡ true →
      (written p d ≡ true) ⊎ (charged_to wall roll p d ≡ true)
  granted_only roll fills p d h =
      elim (or_cases (written p d)
      (is_granted (outcome_of wall written before roll) && charged_to wall roll p d)
      (sym (delivered_by roll fills p d) ∙ h)) [
        | inl old ↦ inl old
        | inr new ↦ inr (and_parts (is_granted (outcome_of wall written before roll))
            (charged_to wall roll p d) new).1
      ]

  -- any other outcome enters nothing
  pub ungranted : (roll : Roll) (o : Outcome) → filled (comms wall past) x past ≡ Some roll →
      outcome wall x past ≡ Some o → is_granted o ≡ false → (p d : ℕ) →
      histories wall (x ∷ past) p d ≡ true → written p d ≡ true
  ungranted roll o fills came not_granted p d h =
      elim (or_cases (written p d)
      (is_granted (outcome_of wall written before roll) && charged_to wall roll p d)
      (sym (delivered_by roll fills p d) ∙ h)) [
        | inl old ↦ old
        | inr new ↦
            let yes = (and_parts (is_granted (outcome_of wall written before roll))
            (charged_to wall roll p d) new).0 in
            absurd (false≢true (sym not_granted
            ∙ ap is_granted (sym (outcome_is roll o fills came)) ∙ yes))
      ]

pub granted_came : (o : Outcome) (v : Option Outcome) → is_granted o ≡ true → v ≡ Some o →
    v ≡ Some Granted
granted_came o v h came = came ∙ ap (λ (w : Outcome). Some w) (granted_is o h)
