-- The pairs of a list, beside rows: rows that pairs are added to, and pairs that rows are made to.
use Rattle.std.proofs.Common.{◌≡◌, ◌≢◌, ℕ, ◌+◌, ◌<◌, ◌≤◌, Bool, true, false, ◌&&◌, ◌||◌, List}
use Rattle.std.proofs.Common.{length, get_or, take, refl, sym, ap, ◌∙◌, inl, inr}
use Rattle.std.proofs.Common.{nat_eq, get_or-set_same, get_or-set_other}
use Rattle.std.proofs.Math.ListN.{set}
use Rattle.std.proofs.lemmas.List.{get_or_default}
use Rattle.std.proofs.lemmas.List.Folds.{list_any_more}
use Rattle.std.proofs.lemmas.Bool.Decides.{eqb_tells, leb_tells}
use Rattle.std.specs.Ordering.{nat_cmp}
use Rattle.std.specs.Cmp.{nat_cmp_total, unsigned_tied}
use Rattle.std.specs.FinSet.{FinSet, empty, insert, contains, contains-insert}
use Rattle.wall_policy.specs.Policy.{has_pair}
use Rattle.wall_rules.specs.Histories.{entered, has_in, AddsPairs, ArePairsOf}
use Rattle.wall_rules.proofs.HistoryLemmas.{eq-symmetric}

---- Rows that pairs are added to.

in_turn : (a b c : Bool) → (a || (b || c)) ≡ ((b || a) || c)
in_turn true true c = refl
in_turn true false c = refl
in_turn false true c = refl
in_turn false false c = refl

-- a row that a dataset was added to
insert_at : (sets : List (FinSet nat_cmp)) (p d : ℕ) (row new : FinSet nat_cmp) →
    p < length sets → row ≡ get_or sets p row → new ≡ insert row d → (q e : ℕ) →
    has_in (set sets p new) q e ≡ ((nat_eq p q && nat_eq d e) || has_in sets q e)
insert_at sets p d row new lt at is q e = elim (eqb_tells p q) [
  | inl same ↦
      let here : get_or sets p empty ≡ row =
      sym (at ∙ get_or_default sets p row empty lt) in
      let there : get_or (set sets p new) q empty ≡ insert row d =
      ap (λ n. get_or (set sets p new) n empty) (sym same.1)
      ∙ (get_or-set_same sets p new empty lt ∙ is) in
      let old : get_or sets q empty ≡ row =
      ap (λ n. get_or sets n empty) (sym same.1) ∙ here in
      ap (λ s. contains s e) there ∙ contains-insert nat_cmp_total row d e
      ∙ (λ i. (unsigned_tied e d ∙ eq-symmetric e d) i || contains row e)
      ∙ (λ i. (sym same.0 i && nat_eq d e) || contains (sym old i) e)
  | inr other ↦
      let apart : q ≢ p = λ h. other.1 (sym h) in
      ap (λ s. contains s e) (get_or-set_other sets p q new empty apart)
      ∙ (λ i. (sym other.0 i && nat_eq d e) || has_in sets q e)
]

-- one pair more
pub joined_more : (pairs : List (ℕ × ℕ)) (old sets : List (FinSet nat_cmp)) (k n p d : ℕ)
    (row new : FinSet nat_cmp) → k < length pairs → (p, d) ≡ get_or pairs k (p, d) → n ≡ p →
    n < length sets → row ≡ get_or sets n row → new ≡ insert row d →
    AddsPairs (take k pairs) old sets → AddsPairs (take (k + 1) pairs) old (set sets n new)
joined_more pairs old sets k n p d row new lt pair same within at is so_far q e =
    let more : has_pair (take (k + 1) pairs) q e ≡
    (has_pair (take k pairs) q e || (nat_eq n q && nat_eq d e)) =
    list_any_more (λ (h : ℕ × ℕ). nat_eq h.0 q && nat_eq h.1 e) pairs k (p, d) lt
    ∙ ap (λ (h : ℕ × ℕ). has_pair (take k pairs) q e || (nat_eq h.0 q && nat_eq h.1 e)) (sym pair)
    ∙ ap (λ m. has_pair (take k pairs) q e || (nat_eq m q && nat_eq d e)) (sym same) in
    insert_at sets n d row new within at is q e
    ∙ ap (λ b. (nat_eq n q && nat_eq d e) || b) (so_far q e)
    ∙ in_turn (nat_eq n q && nat_eq d e) (has_pair (take k pairs) q e) (has_in old q e)
    ∙ ap (λ b. b || has_in old q e) (sym more)

---- Pairs of one row.

-- the pairs of p and the datasets of its row that are below n were added
pub record HasPairsBelow (old : List (ℕ × ℕ)) (p : ℕ) (row : FinSet nat_cmp) (n : ℕ)
    (new : List (ℕ × ℕ)) : Type 0 where
  pub below : (q d : ℕ) → d < n → has_pair new q d ≡ entered (has_pair old) p row q d
  pub above : (q d : ℕ) → n ≤ d → has_pair new q d ≡ has_pair old q d

---- Pairs of all rows.

-- the pairs of the first n rows, and no others
pub record HasRowsBelow (sets : List (FinSet nat_cmp)) (n : ℕ) (pairs : List (ℕ × ℕ)) : Type 0 where
  pub below : (p d : ℕ) → p < n → has_pair pairs p d ≡ has_in sets p d
  pub above : (p d : ℕ) → n ≤ p → has_pair pairs p d ≡ false

-- there is no row past the limit
pub rows_whole : (sets : List (FinSet nat_cmp)) (pairs : List (ℕ × ℕ)) (n : ℕ) →
    ((p d : ℕ) → n ≤ p → has_in sets p d ≡ false) → HasRowsBelow sets n pairs →
    ArePairsOf (has_in sets) pairs
rows_whole sets pairs n none so_far p d = elim (leb_tells n p) [
  | inl past ↦ so_far.above p d past.1 ∙ sym (none p d past.1)
  | inr low ↦ so_far.below p d low.1
]
