-- The histories at the start, and after an entry.
use Rattle.std.proofs.Common.{◌≡◌, ◌≢◌, ℕ, ◌<◌, ◌≤◌, Bool, true, false, ◌&&◌, ◌||◌, List, length}
use Rattle.std.proofs.Common.{get_or, Option, Some, None, refl, sym, subst, ap, slice_get, ◌∙◌, inl}
use Rattle.std.proofs.Common.{inr, arith, nat_eq, get_or-set_same, get_or-set_other}
use Rattle.std.specs.Prelude.{IsTrue}
use Rattle.std.proofs.Math.ListN.{set}
use Rattle.std.proofs.lemmas.List.{get_or_default, get_or_past, length-set}
use Rattle.std.proofs.lemmas.Option.{slice_get_past}
use Rattle.std.proofs.lemmas.Bool.{ne_eqb, eq-eqb, and_parts, or_cases, or_left, or_right}
use Rattle.std.proofs.lemmas.Bool.Decides.{leb_tells, eqb_tells}
use Rattle.std.specs.Ordering.{nat_cmp}
use Rattle.std.specs.Cmp.{nat_cmp_total, unsigned_tied}
use Rattle.std.specs.FinSet.{FinSet, empty, insert, union, contains, contains-empty}
use Rattle.std.specs.FinSet.{contains-insert, contains-union}
use Rattle.wall_labels.specs.Limits.{process_limit}
use Rattle.wall_policy.specs.Policy.{ChineseWall, IsPolicy, home_if_any, home_of, held_of, has_pair}
use Rattle.wall_policy.specs.Policy.{HasAtFirst}
use Rattle.wall_rules.specs.Rules.{HoldsNoRivals, joined}
use Rattle.wall_rules.specs.Histories.{History, entered, is_home, at_home, opening}
use Rattle.wall_rules.specs.Histories.{NobodyHoldsRivals, Accesses, has_in, has, KeepsWall}
use Rattle.wall_rules.specs.Histories.{AddsPairs}
use Rattle.wall_rules.proofs.RuleLemmas.{no_rivals-part, same_number}

pub or_false : (a : Bool) → a ≡ (a || false)
or_false true = refl
or_false false = refl

pub eq-symmetric : (a b : ℕ) → nat_eq a b ≡ nat_eq b a
eq-symmetric a b = elim (eqb_tells a b) [
  | inl e ↦ e.0 ∙ sym (eq-eqb b a (sym e.1))
  | inr e ↦ let back : b ≢ a = λ h. e.1 (sym h) in e.0 ∙ sym (ne_eqb b a back)
]

home_is : (home : Option ℕ) (d : ℕ) → is_home home d ≡ true → home ≡ Some d
home_is None d h = absurd cc
home_is (Some own) d h = ap (λ (x : ℕ). Some x) (same_number own d h)

is_home_of : (home : Option ℕ) (d : ℕ) → home ≡ Some d → is_home home d ≡ true
is_home_of home d is = rw is (eq-eqb d d refl)

opening_first : (w : ChineseWall) (p d : ℕ) → IsTrue (opening w p d) → HasAtFirst w p d
opening_first w p d h = elim (or_cases (held_of w p d) (at_home w p d) h) [
  | inl before ↦ inr before
  | inr home ↦ inl (home_is (home_of w p) d home)
]

first_opening : (w : ChineseWall) (p d : ℕ) → HasAtFirst w p d → IsTrue (opening w p d)
first_opening w p d (inl home) =
    or_right (held_of w p d) (at_home w p d) (is_home_of (home_of w p) d home)
first_opening w p d (inr before) = or_left (held_of w p d) (at_home w p d) before

-- at the start each process has had access to exactly what it begins with
pub opening-Decides : (w : ChineseWall) (p d : ℕ) → (IsTrue (opening w p d) → HasAtFirst w p d)
    × (HasAtFirst w p d → IsTrue (opening w p d))
opening-Decides w p d = (opening_first w p d, first_opening w p d)

-- the set of one home
pub contains-home : (own d : ℕ) →
    contains (insert (empty {R = nat_cmp}) own) d ≡ is_home (Some own) d
contains-home own d = contains-insert nat_cmp_total empty own d
    ∙ (λ i. unsigned_tied d own i || contains-empty nat_cmp d i) ∙ sym (or_false (nat_eq d own))
    ∙ eq-symmetric d own

-- at the start nobody has had access to two rivals
pub opening-apart : (w : ChineseWall) → IsPolicy w → NobodyHoldsRivals w.classes (opening w)
opening-apart w policy p d e has_d has_e =
    policy.apart p d e (opening_first w p d has_d) (opening_first w p e has_e)

-- an entry that fits the rule keeps rivals apart
pub entered-apart : (classes : List ℕ) (history : History) (p : ℕ) (s : FinSet nat_cmp) →
    NobodyHoldsRivals classes history → HoldsNoRivals classes (joined (history p) s) →
    NobodyHoldsRivals classes (entered history p s)
entered-apart classes history p s apart joint q = elim (eqb_tells q p) [
  | inl e ↦ no_rivals-part classes (joined (history p) s) (entered history p s q) joint (
      λ d h. elim (or_cases (history q d) (nat_eq q p && contains s d) h) [
        | inl old ↦ or_left (history p d) (contains s d) (rw e.1 at old)
        | inr new
            ↦ or_right (history p d) (contains s d) (and_parts (nat_eq q p) (contains s d) new).1
      ]
      )
  | inr e ↦ no_rivals-part classes (history q) (entered history p s q) (apart q) (
      λ d h. elim (or_cases (history q d) (nat_eq q p && contains s d) h) [
        | inl old ↦ old
        | inr new ↦ absurd (e.1 (same_number q p (and_parts (nat_eq q p) (contains s d) new).0))
      ]
      )
]

-- a row that a set was joined to
set_at : (sets : List (FinSet nat_cmp)) (p : ℕ) (row new s : FinSet nat_cmp) → p < length sets →
    row ≡ get_or sets p row → new ≡ union row s → (q d : ℕ) →
    has_in (set sets p new) q d ≡ entered (has_in sets) p s q d
set_at sets p row new s lt at is q d = elim (eqb_tells q p) [
  | inl e ↦
      let here : row ≡ get_or sets p empty = at ∙ get_or_default sets p row empty lt in
      rw (e.0, e.1, get_or-set_same sets p new empty lt, is, ← here)
      (contains-union nat_cmp_total row s d)
  | inr e
      ↦ rw (e.0, get_or-set_other sets p q new empty e.1)
      (or_false (contains (get_or sets q empty) d))
]

pub has_in-set : (sets : List (FinSet nat_cmp)) (p : ℕ) (row new s : FinSet nat_cmp) →
    p < length sets → row ≡ get_or sets p row → new ≡ union row s →
    has_in (set sets p new) ≡ entered (has_in sets) p s
has_in-set sets p row new s lt at is = λ i q d. set_at sets p row new s lt at is q d i

-- the same of the whole value, where what is entered fits the rule
pub keeps_wall-set : (h v : Accesses) (p n : ℕ) (row new s : FinSet nat_cmp) → h ≡ v → n ≡ p →
    KeepsWall h → n < process_limit → row ≡ get_or h.sets n row → new ≡ union row s →
    HoldsNoRivals v.classes (joined (has v p) s)
    → KeepsWall (record { processes = h.processes; classes = h.classes; sets = set h.sets n new })
keeps_wall-set h v p n row new s same is kept lt at joint fits =
    let within : n < length h.sets = omega (arith, kept.set_for_each) in
    let fits_h : HoldsNoRivals h.classes (joined (has h p) s) = subst
    (λ (v : Accesses). HoldsNoRivals v.classes (joined (has v p) s)) (sym same) fits in
    let fits_n : HoldsNoRivals h.classes (joined (has h n) s) = subst
    (λ (p : ℕ). HoldsNoRivals h.classes (joined (has h p) s)) (sym is) fits_h in
    record {
      set_for_each = length-set h.sets n new ∙ kept.set_for_each;
      few_datasets = kept.few_datasets;
      apart = subst (λ (g : History). NobodyHoldsRivals h.classes g)
          (sym (has_in-set h.sets n row new s within at joint))
          (entered-apart h.classes (has h) n s kept.apart fits_n);
    }

no_home : (homes : List (Option ℕ)) (p d : ℕ) → length homes ≤ p →
    is_home (home_if_any (slice_get homes p)) d ≡ false
no_home homes p d past = rw (slice_get_past homes p past) refl

past_homes : (w : ChineseWall) (sets : List (FinSet nat_cmp)) (p d : ℕ) → IsPolicy w →
    length sets ≡ process_limit → process_limit ≤ p → has_in sets p d ≡ at_home w p d
past_homes w sets p d policy many past =
    let past_sets : length sets ≤ p = omega arith in
    let past_homes : length w.homes ≤ p = omega (arith, policy.home_for_each, policy.few_processes)
    in
    ap (λ s. contains s d) (get_or_past sets p empty past_sets) ∙ contains-empty nat_cmp d
    ∙ sym (no_home w.homes p d past_homes)

pair_at : (w : ChineseWall) (sets : List (FinSet nat_cmp)) (p d : ℕ) → IsPolicy w →
    length sets ≡ process_limit → (p < process_limit → has_in sets p d ≡ at_home w p d) →
    has_in sets p d ≡ at_home w p d
pair_at w sets p d policy many below = elim (leb_tells process_limit p)
    [ inl e ↦ past_homes w sets p d policy many e.1 | inr e ↦ below e.1 ]

-- a row for each number that a process can have
pub has_in-at_home : (w : ChineseWall) (sets : List (FinSet nat_cmp)) → IsPolicy w →
    length sets ≡ process_limit →
    ((p d : ℕ) → p < process_limit → has_in sets p d ≡ at_home w p d) → has_in sets ≡ at_home w
has_in-at_home w sets policy many below = λ i p d. pair_at w sets p d policy many (below p d) i

-- with what was held before, the homes are the opening
pub opened : (w : ChineseWall) (homes sets : List (FinSet nat_cmp)) (pairs : List (ℕ × ℕ)) →
    has_in homes ≡ at_home w → pairs ≡ w.held → AddsPairs pairs homes sets →
    has_in sets ≡ opening w
opened w homes sets pairs at same adds =
    (λ i p d. adds p d i) ∙ (λ i p d. has_pair (same i) p d || at i p d)

-- no row is there past the limit
pub no_row_past : (sets : List (FinSet nat_cmp)) (p d : ℕ) → length sets ≤ p →
    has_in sets p d ≡ false
no_row_past sets p d past =
    ap (λ s. contains s d) (get_or_past sets p empty past) ∙ contains-empty nat_cmp d

-- what the fields keep, said of the value
pub apart_in : (h v : Accesses) → h ≡ v → KeepsWall h → NobodyHoldsRivals v.classes (has v)
apart_in h v same kept =
    subst (λ (v : Accesses). NobodyHoldsRivals v.classes (has v)) same kept.apart
