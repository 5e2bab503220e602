-- Rows of rivals, and what they tell of a clash.
use Rattle.std.proofs.Common.{◌≡◌, ◌≢◌, ℕ, ◌+◌, ◌<◌, ◌≤◌, Bool, true, false, ◌&&◌, ◌||◌, List}
use Rattle.std.proofs.Common.{length, get_or, Option, Some, None, refl, sym, ap, ◌∙◌, inl, inr}
use Rattle.std.proofs.Common.{arith, nat_eq, not}
use Rattle.std.specs.Prelude.{IfSome, IfNone}
use Rattle.std.proofs.lemmas.List.{get_or_past}
use Rattle.std.proofs.lemmas.Option.{slice_get_past}
use Rattle.std.proofs.lemmas.Bool.{ne_eqb, false≢true, or_cases, or_left, or_right}
use Rattle.std.proofs.lemmas.Bool.Decides.{leb_tells, eqb_tells}
use Rattle.std.specs.Ordering.{nat_cmp}
use Rattle.std.specs.Cmp.{nat_cmp_total, unsigned_tied}
use Rattle.std.specs.FinSet.{FinSet, empty, insert, contains, contains-empty, contains-insert}
use Rattle.wall_labels.specs.Rows.{IsShared, IsLowestShared, SharesNone}
use Rattle.wall_policy.specs.Rivals.{are_rivals}
use Rattle.wall_policy.proofs.WallPolicyLemmas.{are_rivals-Decides, are_rivals-symmetric}
use Rattle.wall_rules.specs.Rules.{IsHeldRival, first_rival, joined}
use Rattle.wall_rules.specs.Histories.{AreRivalRows}
use Rattle.wall_rules.proofs.RuleLemmas.{some-first_rival}
use Rattle.wall_rules.proofs.RuleLemmas.{none-first_rival}

-- no number past the list has a rival
pub no_rival_past : (classes : List ℕ) (d e : ℕ) → length classes ≤ d →
    are_rivals classes d e ≡ false
unfolding are_rivals
no_rival_past classes d e past = rw (slice_get_past classes d past) (and_false (not (nat_eq d e)))
  where
    and_false : (b : Bool) → (b && false) ≡ false
    and_false true = refl
    and_false false = refl

-- of the numbers below n the row has the rivals of d, and it has no other number
pub record IsRowBelow (classes : List ℕ) (d n : ℕ) (row : FinSet nat_cmp) : Type 0 where
  pub below : (e : ℕ) → e < n → contains row e ≡ are_rivals classes d e
  pub rest : (e : ℕ) → n ≤ e → contains row e ≡ false

pub row_empty : (classes : List ℕ) (d : ℕ) → IsRowBelow classes d 0 empty
row_empty classes d = record {
  below = λ e lt. absurd (omega arith);
  rest = λ e le. contains-empty nat_cmp e;
}

inserted : (row : FinSet nat_cmp) (n e : ℕ) →
    contains (insert row n) e ≡ (nat_eq e n || contains row e)
inserted row n e =
    contains-insert nat_cmp_total row n e ∙ ap (λ b. b || contains row e) (unsigned_tied e n)

pub row_more : (classes : List ℕ) (d n : ℕ) (row : FinSet nat_cmp) → are_rivals classes d n ≡ true
    → IsRowBelow classes d n row → IsRowBelow classes d (n + 1) (insert row n)
row_more classes d n row is before = record {
  below = λ e lt. inserted row n e ∙ elim (eqb_tells e n) [
    | inl same ↦ rw (same.0, same.1) (sym is)
    | inr other ↦ rw other.0 (before.below e (omega (arith, other.1)))
  ];
  rest = λ e le.
      inserted row n e
      ∙ (let other : e ≢ n = omega arith in rw (ne_eqb e n other) (before.rest e (omega arith)));
}

pub row_same : (classes : List ℕ) (d n : ℕ) (row : FinSet nat_cmp) → are_rivals classes d n ≡ false
    → IsRowBelow classes d n row → IsRowBelow classes d (n + 1) row
row_same classes d n row is before = record {
  below = λ e lt. elim (eqb_tells e n) [
    | inl same ↦ rw same.1 (before.rest n (omega arith) ∙ sym is)
    | inr other ↦ before.below e (omega (arith, other.1))
  ];
  rest = λ e le. before.rest e (omega arith);
}

pub row_whole : (classes : List ℕ) (d : ℕ) (row : FinSet nat_cmp) →
    IsRowBelow classes d (length classes) row
    → (e : ℕ) → contains row e ≡ are_rivals classes d e
row_whole classes d row whole e = elim (leb_tells (length classes) e) [
  | inl past ↦
      whole.rest e past.1
      ∙ sym (are_rivals-symmetric classes d e ∙ no_rival_past classes e d past.1)
  | inr within ↦ whole.below e (omega (arith, within.1))
]

pub rows_whole : (classes : List ℕ) (rows : List (FinSet nat_cmp)) → length rows ≡ length classes
    → ((d e : ℕ) → d < length classes → contains (get_or rows d empty) e ≡ are_rivals classes d e)
    → AreRivalRows classes rows
rows_whole classes rows long below d e = elim (leb_tells (length classes) d) [
  | inl past ↦
      ap (λ s. contains s e) (get_or_past rows d empty (omega (arith, past.1)))
      ∙ contains-empty nat_cmp e ∙ sym (no_rival_past classes d e past.1)
  | inr within ↦ below d e (omega (arith, within.1))
]

-- the row that stands at the number of a dataset
pub row_of :
    (classes : List ℕ) (rows items : List (FinSet nat_cmp)) (n d : ℕ) (row : FinSet nat_cmp) →
    AreRivalRows classes rows
    → items ≡ rows → n ≡ d → row ≡ get_or items n empty → (e : ℕ) →
    contains row e ≡ are_rivals classes d e
row_of classes rows items n d row are same at is e =
    (λ i. contains (is i) e) ∙ (λ i. contains (get_or (same i) (at i) empty) e) ∙ are d e

-- where none stands there, the dataset has no rival
pub no_row : (classes : List ℕ) (rows items : List (FinSet nat_cmp)) (n d : ℕ) →
    AreRivalRows classes rows
    → items ≡ rows → n ≡ d → length items ≤ n → (e : ℕ) → are_rivals classes d e ≡ false
no_row classes rows items n d are same at past e =
    sym (row_of classes rows items n d (get_or items n empty) are same at refl e)
    ∙ ap (λ s. contains s e) (get_or_past items n empty past) ∙ contains-empty nat_cmp e

---- a clash by rows

module _ (classes : List ℕ) (d : ℕ) (rivals row extra : FinSet nat_cmp)
    (are : (e : ℕ) → contains rivals e ≡ are_rivals classes d e) where
  held_if_shared : (e : ℕ) → IsShared rivals row extra e →
      IsHeldRival classes (joined (contains row) extra) d e
  held_if_shared e is = (
    elim is.1 [
      | inl left ↦ or_left (contains row e) (contains extra e) left
      | inr right ↦ or_right (contains row e) (contains extra e) right
    ],
    (are_rivals-Decides classes d e).0 (sym (are e) ∙ is.0),
  )

  shared_if_held : (e : ℕ) → IsHeldRival classes (joined (contains row) extra) d e →
      IsShared rivals row extra e
  shared_if_held e is = (
    are e ∙ (are_rivals-Decides classes d e).1 is.1,
    or_cases (contains row e) (contains extra e) is.0,
  )

  pub clash_is : (o : Option ℕ) → IfSome o (IsLowestShared rivals row extra) →
      IfNone o (SharesNone rivals row extra)
      → o ≡ first_rival classes (joined (contains row) extra) d
  clash_is None found none = sym (none-first_rival classes (joined (contains row) extra) d
      (λ e h. none e (shared_if_held e h)))
  clash_is (Some e) found none = sym (some-first_rival classes (joined (contains row) extra) d e (
    held_if_shared e found.0,
    λ k lt h. found.1 k lt (shared_if_held k h),
  ))

-- a dataset without rivals clashes with nothing
pub no_clash : (classes : List ℕ) (held : ℕ → Bool) (d : ℕ) →
    ((e : ℕ) → are_rivals classes d e ≡ false) → first_rival classes held d ≡ None
no_clash classes held d none = none-first_rival classes held d
    (λ e h. false≢true (sym (none e) ∙ (are_rivals-Decides classes d e).1 h.1))
