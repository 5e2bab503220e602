-- The two rules and their tests, and which steps keep rivals apart.
use Rattle.std.proofs.Common.{◌≡◌, ◌≢◌, ℕ, ◌<◌, Bool, true, false, not, List, length}
use Rattle.std.proofs.Common.{Option, Some, None, refl, sym, ap, ◌∙◌, ◌⊎◌, inl, inr, nat_eq}
use Rattle.std.proofs.Common.{slice_get, ◌≤◌, arith}
use Rattle.std.specs.Prelude.{IsTrue, IfSome, IfNone}
use Rattle.std.proofs.lemmas.Bool.{eq-eqb, and_parts, or_cases, or_left, or_right}
use Rattle.std.proofs.lemmas.Bool.Decides.{eqb_tells}
use Rattle.std.proofs.lemmas.Option.{slice_get_within}
use Rattle.std.specs.Ordering.{nat_cmp, eq_by_cmp}
use Rattle.std.specs.Cmp.{nat_cmp_total, unsigned_tied}
use Rattle.std.specs.FinSet.{FinSet, empty, insert, contains, contains-empty, contains-insert}
use Rattle.wall_labels.specs.declared.label.Label.{Label}
use Rattle.wall_labels.specs.Labels.{dataset_of}
use Rattle.wall_labels.proofs.WallLabelsLemmas.{is_none-None}
use Rattle.wall_policy.specs.Rivals.{are_rivals, is_one_class}
use Rattle.wall_policy.proofs.WallPolicyLemmas.{are_rivals-Decides, rivals_turned}
use Rattle.wall_rules.specs.Rules.{IsLowest, IsHeldRival, PassesSimple, HoldsNoRivals}
use Rattle.wall_rules.specs.Rules.{is_held_rival, first_rival, IsHeldOther, PassesStar, is_other}
use Rattle.wall_rules.specs.Rules.{is_held_other, first_other, passes_star, joined}
use Rattle.wall_rules.proofs.LeastLemmas.{least-none, none-least, least-some, some-least}

---- truth values

true_or_false : (b : Bool) → (b ≡ true) ⊎ (b ≡ false)
true_or_false true = inl refl
true_or_false false = inr refl

true-false : (b : Bool) → b ≡ true → b ≡ false → ⊥
true-false b yes_ no_ = let bad : true ≡ false = sym yes_ ∙ no_ in cc

not_true : (b : Bool) → ¬ (b ≡ true) → b ≡ false
not_true true h = absurd (h refl)
not_true false h = refl

pub same_number : (a b : ℕ) → nat_eq a b ≡ true → a ≡ b
same_number a b h = elim (eqb_tells a b) [ inl e ↦ e.1 | inr e ↦ absurd (true-false _ h e.0) ]

---- simple security

pub second_class : (a b : Option ℕ) → is_one_class a b ≡ true → (class : ℕ) × (b ≡ Some class)
second_class (Some c) (Some k) h = (k, refl)
second_class (Some c) None h = absurd cc
second_class None b h = absurd cc

-- rivals stand in the list of classes
rival_within : (classes : List ℕ) (d e : ℕ) → are_rivals classes d e ≡ true → e < length classes
unfolding are_rivals
rival_within classes d e h =
    let found = second_class (slice_get classes d) (slice_get classes e)
    (and_parts (not (nat_eq d e)) _ h).1 in
    slice_get_within classes e found.0 found.1

held_rival : (classes : List ℕ) (held : ℕ → Bool) (d e : ℕ) →
    is_held_rival classes held d e ≡ true → IsHeldRival classes held d e
held_rival classes held d e h =
    let parts = and_parts (held e) (are_rivals classes d e) h in
    (parts.0, (are_rivals-Decides classes d e).0 parts.1)

no_held_rival : (classes : List ℕ) (held : ℕ → Bool) (d e : ℕ) → ¬ (IsHeldRival classes held d e) →
    is_held_rival classes held d e ≡ false
no_held_rival classes held d e h = not_true _ (λ is. h (held_rival classes held d e is))

rival_held : (classes : List ℕ) (held : ℕ → Bool) (d e : ℕ) → IsHeldRival classes held d e →
    is_held_rival classes held d e ≡ true
rival_held classes held d e h = rw (h.0, (are_rivals-Decides classes d e).1 h.1) refl

pub first_rival-none : (classes : List ℕ) (held : ℕ → Bool) (d : ℕ) →
    first_rival classes held d ≡ None → PassesSimple classes held d
unfolding first_rival
first_rival-none classes held d none e h =
    let is : is_held_rival classes held d e ≡ true = rival_held classes held d e h in
    let within : e < length classes = rival_within classes d e (and_parts _ _ is).1 in
    true-false _ is (least-none (is_held_rival classes held d) (length classes) none e within)

pub none-first_rival : (classes : List ℕ) (held : ℕ → Bool) (d : ℕ) → PassesSimple classes held d →
    first_rival classes held d ≡ None
unfolding first_rival
none-first_rival classes held d passes = none-least (is_held_rival classes held d) (length classes)
    (λ e lt. no_held_rival classes held d e (passes e))

pub first_rival-some : (classes : List ℕ) (held : ℕ → Bool) (d e : ℕ) →
    first_rival classes held d ≡ Some e → IsLowest (IsHeldRival classes held d) e
unfolding first_rival
first_rival-some classes held d e some =
    let found = least-some (is_held_rival classes held d) (length classes) e some in (
      held_rival classes held d e found.0,
      λ j lt h. true-false _ (rival_held classes held d j h) (found.2 j lt),
    )

pub some-first_rival : (classes : List ℕ) (held : ℕ → Bool) (d e : ℕ) →
    IsLowest (IsHeldRival classes held d) e → first_rival classes held d ≡ Some e
unfolding first_rival
some-first_rival classes held d e lowest =
    let is : is_held_rival classes held d e ≡ true = rival_held classes held d e lowest.0 in
    some-least (is_held_rival classes held d) (length classes) e is
    (rival_within classes d e (and_parts _ _ is).1)
    (λ j lt. no_held_rival classes held d j (lowest.1 j lt))

pub first_rival-alike : (classes : List ℕ) (f g : ℕ → Bool) (d : ℕ) → ((e : ℕ) → f e ≡ g e) →
    first_rival classes f d ≡ first_rival classes g d
first_rival-alike classes f g d same = λ i. first_rival classes (λ e. same e i) d

-- the same of an answer
pub lowest_if_some : (classes : List ℕ) (held : ℕ → Bool) (d : ℕ) (o : Option ℕ) →
    o ≡ first_rival classes held d → IfSome o (IsLowest (IsHeldRival classes held d))
lowest_if_some classes held d None is = tt
lowest_if_some classes held d (Some e) is = first_rival-some classes held d e (sym is)

pub passes_if_none : (classes : List ℕ) (held : ℕ → Bool) (d : ℕ) (o : Option ℕ) →
    o ≡ first_rival classes held d → IfNone o (PassesSimple classes held d)
passes_if_none classes held d None is = first_rival-none classes held d (sym is)
passes_if_none classes held d (Some e) is = tt

---- the star rule

other : (o : Option ℕ) (d : ℕ) → is_other o d ≡ true → o ≢ Some d
other None d h = λ same. cc
other (Some own) d h = λ same.
    let equal : own ≡ d = cc in let bad : not true ≡ true = rw (eq-eqb own d equal) at h in cc

not_other : (o : Option ℕ) (d : ℕ) → is_other o d ≡ false → o ≡ Some d
not_other None d h = absurd cc
not_other (Some own) d h = elim (eqb_tells own d) [
  | inl e ↦ ap (λ (x : ℕ). Some x) e.1
  | inr e
      ↦ let bad : not false ≡ false = rw e.0 at h in absurd cc
]

held_other : (held : ℕ → Bool) (label : Label) (d : ℕ) → is_held_other held label d ≡ true →
    IsHeldOther held label d
held_other held label d h =
    let parts = and_parts (held d) (is_other (dataset_of label) d) h in
    (parts.0, other (dataset_of label) d parts.1)

other_held : (held : ℕ → Bool) (label : Label) (d : ℕ) → IsHeldOther held label d →
    is_held_other held label d ≡ true
other_held held label d h = elim (true_or_false (is_other (dataset_of label) d)) [
  | inl is ↦ rw (h.0, is) refl
  | inr is_not ↦ absurd (h.1 (not_other (dataset_of label) d is_not))
]

pub first_other-none : (n : ℕ) (held : ℕ → Bool) (label : Label) → PassesStar held label →
    first_other n held label ≡ None
unfolding first_other
first_other-none n held label passes =
    none-least (is_held_other held label) n
    (λ d lt. not_true _ (λ is. let h = held_other held label d is in h.1 (passes d h.0)))

pub first_other-some : (n : ℕ) (held : ℕ → Bool) (label : Label) (d : ℕ) →
    IsLowest (IsHeldOther held label) d → d < n → first_other n held label ≡ Some d
unfolding first_other
first_other-some n held label d lowest lt =
    some-least (is_held_other held label) n d (other_held held label d lowest.0) lt
    (λ e below. not_true _ (λ is. lowest.1 e below (held_other held label e is)))

-- what is held of those that the test looks at is the label's
star_of_test : (n : ℕ) (held : ℕ → Bool) (label : Label) (d : ℕ) →
    first_other n held label ≡ None → IsTrue (held d) → d < n → dataset_of label ≡ Some d
unfolding first_other
star_of_test n held label d none is lt =
    let no_other : is_held_other held label d ≡ false = least-none (is_held_other held label) n none
    d lt in
    not_other (dataset_of label) d (rw is at no_other)

pub passes_star-Decides : (n : ℕ) (held : ℕ → Bool) (label : Label) →
    ((d : ℕ) → IsTrue (held d) → d < n) → (passes_star n held label ≡ true → PassesStar held label)
    × (PassesStar held label → passes_star n held label ≡ true)
passes_star-Decides n held label within = (
  λ h d is. star_of_test n held label d (is_none-None _ h) is (within d is),
  λ passes. rw (first_other-none n held label passes) refl,
)

---- which sets hold no rivals

pub no_rivals-part : (classes : List ℕ) (held part : ℕ → Bool) → HoldsNoRivals classes held →
    ((e : ℕ) → IsTrue (part e) → IsTrue (held e)) → HoldsNoRivals classes part
no_rivals-part classes held part apart within d e hd he = apart d e (within d hd) (within e he)

-- one dataset alone
pub no_rivals-one : (classes : List ℕ) (held : ℕ → Bool) (own : ℕ) →
    ((e : ℕ) → IsTrue (held e) → e ≡ own) → HoldsNoRivals classes held
no_rivals-one classes held own one d e hd he rivals = rivals.0 (one d hd ∙ sym (one e he))

-- one dataset more, to which the simple rule permits access
pub no_rivals-grows : (classes : List ℕ) (held new : ℕ → Bool) (own : ℕ) →
    HoldsNoRivals classes held → PassesSimple classes held own →
    ((e : ℕ) → IsTrue (new e) → IsTrue (held e) ⊎ (e ≡ own)) → HoldsNoRivals classes new
no_rivals-grows classes held new own apart passes grows d e hd he rivals =
    elim (grows d hd) [
      | inl old_d ↦ elim (grows e he) [
        | inl old_e ↦ apart d e old_d old_e rivals
        | inr is_e ↦ passes d (old_d, rivals_turned classes d own (rw is_e at rivals))
      ]
      | inr is_d ↦ elim (grows e he) [
        | inl old_e ↦ passes e (old_e, rw is_d at rivals)
        | inr is_e ↦ rivals.0 (is_d ∙ sym is_e)
      ]
    ]

-- a member of a set with one more
pub member-insert : (s : FinSet nat_cmp) (d e : ℕ) → contains (insert s d) e ≡ true →
    (contains s e ≡ true) ⊎ (e ≡ d)
member-insert s d e h = elim (or_cases (eq_by_cmp nat_cmp e d) (contains s e)
    (sym (contains-insert nat_cmp_total s d e) ∙ h)) [
      | inl same ↦ inr (same_number e d (sym (unsigned_tied e d) ∙ same))
      | inr old ↦ inl old
    ]

pub no_rivals-insert : (classes : List ℕ) (held : ℕ → Bool) (s : FinSet nat_cmp) (d : ℕ) →
    HoldsNoRivals classes (joined held s) → first_rival classes (joined held s) d ≡ None →
    HoldsNoRivals classes (joined held (insert s d))
no_rivals-insert classes held s d apart none =
    no_rivals-grows classes (joined held s) (joined held (insert s d)) d apart
    (first_rival-none classes (joined held s) d none) (
    λ e h. elim (or_cases (held e) (contains (insert s d) e) h) [
      | inl old ↦ inl (or_left (held e) (contains s e) old)
      | inr new
          ↦ elim (member-insert s d e new)
          [ inl old ↦ inl (or_right (held e) (contains s e) old) | inr is ↦ inr is ]
    ]
    )

pub no_rivals-empty : (classes : List ℕ) (held : ℕ → Bool) → HoldsNoRivals classes held →
    HoldsNoRivals classes (joined held empty)
no_rivals-empty classes held apart = no_rivals-part classes held (joined held empty) apart (
    λ e h. elim (or_cases (held e) (contains empty e) h)
    [ inl old ↦ old | inr new ↦ absurd (true-false _ new (contains-empty nat_cmp e)) ]
    )

-- where the test of the star rule passed for all datasets of the policy, the label's dataset has no
-- rival in the history
pub no_rivals-star : (classes : List ℕ) (n : ℕ) (held : ℕ → Bool) (label : Label) (d : ℕ) →
    length classes ≤ n → HoldsNoRivals classes held → passes_star n held label ≡ true →
    dataset_of label ≡ Some d → HoldsNoRivals classes (joined held (insert empty d))
no_rivals-star classes n held label d few apart passed is =
    no_rivals-insert classes held empty d (no_rivals-empty classes held apart)
    (none-first_rival classes (joined held empty) d (
    λ e h.
    let there : held e ≡ true = elim (or_cases (held e) (contains empty e) h.0)
    [ inl old ↦ old | inr new ↦ absurd (true-false _ new (contains-empty nat_cmp e)) ] in
    let low : e < length classes = rival_within classes d e ((are_rivals-Decides classes d e).1 h.1)
    in
    let own : dataset_of label ≡ Some e = star_of_test n held label e (is_none-None _ passed) there
    (omega (arith, low, few)) in
    let same : Some d ≡ Some e = sym is ∙ own in
    h.1.0 cc
    ))
