-- What is known of who holds what grows by one pair.
use Rattle.std.proofs.Common.{◌≡◌, ℕ, zero, suc, ◌<◌, ◌≤◌, Bool, true, false, ◌&&◌}
use Rattle.std.proofs.Common.{◌||◌, nat_eq}
use Rattle.std.proofs.Common.{List, [], ◌∷◌, ◌++◌, length, get_or, refl, sym, ap, ◌∙◌, subst, arith}
use Rattle.std.proofs.Common.{inl, inr, get_or-set_same, get_or-set_other, replicate}
use Rattle.std.specs.Prelude.{All, AllPairs, Result, Ok, Err, OnOk}
use Rattle.std.proofs.Math.ListN.{set}
use Rattle.std.proofs.lemmas.Bool.{eq-eqb, and_parts, false≢true, or_cases, or_left}
use Rattle.std.proofs.lemmas.Bool.{or_right, cases_Bool, eqb-true}
use Rattle.std.proofs.lemmas.Bool.Decides.{eqb_tells}
use Rattle.std.proofs.lemmas.List.{get_or_default}
use Rattle.std.proofs.lemmas.List.Elements.{All-push, All-weaker, All-get_or, Contains-push}
use Rattle.std.proofs.lemmas.List.Elements.{Contains-append_left}
use Rattle.std.proofs.lemmas.List.Quantifiers.{all_pairs_push}
use Rattle.std.specs.Ordering.{nat_cmp}
use Rattle.std.specs.Cmp.{nat_cmp_total, unsigned_tied}
use Rattle.std.specs.FinSet.{FinSet, empty, insert, contains, contains-insert}
use Rattle.std.specs.FinSet.{contains-empty}
use Rattle.wall_policy.specs.Policy.{ChineseWall}
use Rattle.wall_rules.specs.Histories.{has_in}
use Rattle.run_model.specs.declared.entry.Entry.{Entry}
use Rattle.book_report.specs.declared.row.Row.{Row}
use Rattle.book_report.specs.declared.known.Known.{Known}
use Rattle.book_report.specs.Held.{IsRow, HasRow, Follows}
use Rattle.book_report.specs.Walk.{AreKnown, AddsPair, Grows, is_pair, knows}

-- what a call gave, said otherwise
pub ok_then : {X E : Type 0} (r : Result X E) (P Q : Type 0) → (P → Q) → OnOk r P → OnOk r Q
ok_then (Ok x) P Q more h = more h
ok_then (Err e) P Q more h = h

pub ok_both : {X E : Type 0} (r : Result X E) (P Q S : Type 0) → (P → Q → S) → OnOk r P →
    OnOk r Q → OnOk r S
ok_both (Ok x) P Q S more h k = more h k
ok_both (Err e) P Q S more h k = h

pub ok_three : {X E : Type 0} (r : Result X E) (P Q S T : Type 0) → (P → Q → S → T) → OnOk r P →
    OnOk r Q → OnOk r S → OnOk r T
ok_three (Ok x) P Q S T more h k l = more h k l
ok_three (Err e) P Q S T more h k l = h

---- the sets

or_false : (a : Bool) → a ≡ (a || false)
or_false true = refl
or_false false = refl

or_turned : (a b : Bool) → (a || b) ≡ (b || a)
or_turned true true = refl
or_turned true false = refl
or_turned false true = refl
or_turned false false = refl

-- sets of nothing
pub none_in : (n p d : ℕ) → has_in (replicate n (empty {R = nat_cmp})) p d ≡ false
none_in zero p d = contains-empty nat_cmp d
none_in (suc n) zero d = contains-empty nat_cmp d
none_in (suc n) (suc p) d = none_in n p d

-- a pair that is not known was not known before
pub fresh_before : (old new : Known) (p d : ℕ) → Grows old new → knows new p d ≡ false →
    knows old p d ≡ false
fresh_before old new p d grows fresh = elim (cases_Bool (knows old p d)) [
  | inl t ↦ absurd (false≢true (sym fresh ∙ grows p d t))
  | inr f ↦ f
]

-- the sets with one dataset more at one process
pub pair_in : (sets : List (FinSet nat_cmp)) (p d : ℕ) (row new : FinSet nat_cmp) →
    p < length sets → row ≡ get_or sets p row → new ≡ insert row d → (q e : ℕ) →
    has_in (set sets p new) q e ≡ (has_in sets q e || is_pair p d q e)
pair_in sets p d row new lt at is q e = elim (eqb_tells q p) [
  | inl t ↦
      let here : row ≡ get_or sets p empty = at ∙ get_or_default sets p row empty lt in
      rw (t.0, t.1, get_or-set_same sets p new empty lt, is, ← here)
      (contains-insert nat_cmp_total row d e
      ∙ (λ i. unsigned_tied e d i || contains row e)
      ∙ or_turned (nat_eq e d) (contains row e))
  | inr f ↦ rw (f.0, get_or-set_other sets p q new empty f.1)
      (or_false (contains (get_or sets q empty) e))
]

---- the rows

pub pair_grows : (old : Known) (p d : ℕ) (new : Known) → AddsPair old p d new → (q e : ℕ) →
    knows old q e ≡ true → knows new q e ≡ true
pair_grows old p d new adds q e h = adds q e ∙ or_left (knows old q e) _ h

pub pair_there : (old : Known) (p d : ℕ) (new : Known) → AddsPair old p d new →
    knows new p d ≡ true
pair_there old p d new adds = adds p d
    ∙ or_right (knows old p d) _ (λ i. eq-eqb p p refl i && eq-eqb d d refl i)

nothing_is : (k : ℕ) → k < 0 → ⊥
nothing_is k low = omega arith

pub added_pair : (old mid new : Known) (p d : ℕ) → mid.sets.items ≡ old.sets.items →
    AddsPair mid p d new →
    AddsPair old p d new
added_pair old mid new p d kept adds q e =
    adds q e ∙ ap (λ sets. has_in sets q e || is_pair p d q e) kept

module _ (wall : ChineseWall) (entries : List Entry) where
  pub known_none : (known : Known) → known.rows.items ≡ [] →
      ((p d : ℕ) → knows known p d ≡ false) → AreKnown wall entries 0 known
  known_none known empties none = record {
    sound = subst (λ rs. All (IsRow wall entries) rs) (sym empties)
        (λ k d low. absurd (nothing_is k low));
    early = subst (λ rs. All (λ (r : Row). r.entry ≤ 0) rs) (sym empties)
        (λ k d low. absurd (nothing_is k low));
    told = subst (λ rs. All (λ (r : Row). knows known r.process r.dataset ≡ true) rs)
        (sym empties) (λ k d low. absurd (nothing_is k low));
    whole = λ p d h. absurd (false≢true (sym (none p d) ∙ h));
    once = subst (λ rs. AllPairs Follows rs) (sym empties)
        (λ i j d earlier low. absurd (nothing_is j low));
  }

  pub known_later : (n m : ℕ) (known : Known) → n ≤ m → AreKnown wall entries n known →
      AreKnown wall entries m known
  known_later n m known later k = record {
    sound = k.sound;
    early = All-weaker (λ (r : Row). r.entry ≤ n) (λ (r : Row). r.entry ≤ m) (λ r le. omega arith)
        known.rows.items k.early;
    told = k.told;
    whole = k.whole;
    once = k.once;
  }

  module _ (old : Known) (row : Row) (new : Known) (known : AreKnown wall entries row.entry old)
      (rows : new.rows.items ≡ old.rows.items ++ row ∷ [])
      (adds : AddsPair old row.process row.dataset new)
      (fresh : knows old row.process row.dataset ≡ false) (is : IsRow wall entries row) where
    abbrev longer : List Row
    longer = old.rows.items ++ row ∷ []

    -- another pair than those of the rows
    other : (r : Row) → r.entry ≤ row.entry → knows old r.process r.dataset ≡ true → Follows r row
    other r early told = (
      early,
      elim (eqb_tells r.process row.process) [
        | inr f ↦ inl f.1
        | inl t ↦ inr (λ same.
            false≢true (sym fresh ∙ (λ i. knows old (sym t.1 i) (sym same i)) ∙ told))
      ],
    )

    all_told : All (λ (r : Row). knows new r.process r.dataset ≡ true) longer
    all_told = All-push (λ (r : Row). knows new r.process r.dataset ≡ true) old.rows.items row
        (All-weaker (λ (r : Row). knows old r.process r.dataset ≡ true)
        (λ (r : Row). knows new r.process r.dataset ≡ true)
        (λ r t. pair_grows old row.process row.dataset new adds r.process r.dataset t)
        old.rows.items known.told)
        (pair_there old row.process row.dataset new adds)

    all_whole : (p d : ℕ) → knows new p d ≡ true → HasRow longer p d
    all_whole p d h =
        elim (or_cases (knows old p d) (is_pair row.process row.dataset p d) (sym (adds p d) ∙ h)) [
          | inl before ↦
              let one = known.whole p d before in
              (one.0, Contains-append_left old.rows.items (row ∷ []) one.0 one.1, one.2, one.3)
          | inr last ↦
              let parts = and_parts (nat_eq p row.process) (nat_eq d row.dataset) last in (
                row,
                Contains-push old.rows.items row,
                sym (eqb-true p row.process parts.0),
                sym (eqb-true d row.dataset parts.1),
              )
        ]

    all_once : AllPairs Follows longer
    all_once = all_pairs_push Follows old.rows.items row known.once
        (λ k d within.
        other (get_or old.rows.items k d)
        (All-get_or (λ (r : Row). r.entry ≤ row.entry) old.rows.items k d within known.early)
        (All-get_or (λ (r : Row). knows old r.process r.dataset ≡ true) old.rows.items k d within
        known.told))

    pub known_more : AreKnown wall entries row.entry new
    known_more = record {
      sound = subst (λ rs. All (IsRow wall entries) rs) (sym rows)
          (All-push (IsRow wall entries) old.rows.items row known.sound is);
      early = subst (λ rs. All (λ (r : Row). r.entry ≤ row.entry) rs) (sym rows)
          (All-push (λ (r : Row). r.entry ≤ row.entry) old.rows.items row known.early
          (omega arith));
      told = subst (λ rs. All (λ (r : Row). knows new r.process r.dataset ≡ true) rs) (sym rows)
          all_told;
      whole = λ p d h. subst (λ rs. HasRow rs p d) (sym rows) (all_whole p d h);
      once = subst (λ rs. AllPairs Follows rs) (sym rows) all_once;
    }

  -- a row was added, and its pair noted
  pub added : (old mid new : Known) (row : Row) →
      mid.rows.items ≡ old.rows.items ++ row ∷ [] → mid.sets.items ≡ old.sets.items →
      new.rows.items ≡ mid.rows.items →
      AddsPair mid row.process row.dataset new → knows old row.process row.dataset ≡ false →
      AreKnown wall entries row.entry old →
      (knows old row.process row.dataset ≡ false → IsRow wall entries row) →
      AreKnown wall entries row.entry new
  added old mid new row pushed kept rows adds fresh known is =
      known_more old row new known (rows ∙ pushed)
      (added_pair old mid new row.process row.dataset kept adds) fresh (is fresh)
