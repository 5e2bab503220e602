-- The rows of a reduction: those of the first ranks are of one length, and the others are empty.
use Rattle.std.proofs.Common.{◌≡◌, ℕ, zero, suc, ◌+◌, ◌-◌, ◌<◌, ◌≤◌, List, [], ◌∷◌, length, ◌∙◌, ap}
use Rattle.std.proofs.Common.{sym, refl, arith, Bool, true, false, ◌&&◌, max, nat_le, nat_lt}
use Rattle.std.proofs.Common.{add-one, subst, ⊎_elim}
use Rattle.std.proofs.lemmas.Bool.{lt-ltb, le-ltb, ltb-true, ltb-false, cases_Bool}
use Rattle.mpi_elems.specs.Elements.{Element}
use Rattle.mpi_elems.specs.Contents.{Contents}
use Rattle.coll_routes.specs.Rolls.{goes, given}
use Rattle.coll_values.specs.declared.full.Full.{Full}
use Rattle.coll_values.specs.Instances.{IsWhole}
use Rattle.coll_values.specs.Values.{sent, breadth}
use Rattle.coll_values.proofs.FoldLemmas.{IsFold, fold_more, broadest, broadest_more}
use Rattle.coll_values.proofs.SentLemmas.{size_some, size_none, merged_nil}

both_true : (b c g : Bool) → (b && c) ≡ g → b ≡ true → c ≡ g
both_true true c g e t = e
both_true false c g e t = absurd (cc)

first_false : (b c g : Bool) → (b && c) ≡ g → b ≡ false → false ≡ g
first_false true c g e t = absurd (cc)
first_false false c g e t = e

no_items : {E : Type 0} (xs : List E) → 0 ≡ length xs → xs ≡ []
no_items [] e = refl
no_items (x ∷ xs) e = absurd (omega arith)

-- ## lists of rows

module _ {E : Type 0} (rows : ℕ → List E) where
  broad_none : (n : ℕ) → ((i : ℕ) → i < n → length (rows i) ≡ 0) → broadest n rows ≡ 0
  broad_none zero h = refl
  broad_none (suc n) h =
      let more : broadest (suc n) rows ≡ max (broadest n rows) (length (rows n)) =
      ap (λ m. broadest m rows) (sym (add-one n)) ∙ broadest_more n rows in
      let before = broad_none n (λ i low. h i (omega arith)) in
      let here = h n (omega arith) in
      omega arith

  broad_within : (len n : ℕ) → ((i : ℕ) → i < n → length (rows i) ≤ len) → broadest n rows ≤ len
  broad_within len zero h = omega arith
  broad_within len (suc n) h =
      let more : broadest (suc n) rows ≡ max (broadest n rows) (length (rows n)) =
      ap (λ m. broadest m rows) (sym (add-one n)) ∙ broadest_more n rows in
      let before = broad_within len n (λ i low. h i (omega arith)) in
      let here = h n (omega arith) in
      omega arith

  broad_some : (len n : ℕ) → 0 < n → length (rows 0) ≡ len → len ≤ broadest n rows
  broad_some len zero h e = absurd (omega arith)
  broad_some len (suc zero) h e =
      let more : broadest (suc zero) rows ≡ max (broadest zero rows) (length (rows zero)) =
      ap (λ m. broadest m rows) (sym (add-one zero)) ∙ broadest_more zero rows in
      omega arith
  broad_some len (suc (suc n)) h e =
      let more : broadest (suc (suc n)) rows ≡ max (broadest (suc n) rows) (length (rows (suc n))) =
      ap (λ m. broadest m rows) (sym (add-one (suc n))) ∙ broadest_more (suc n) rows in
      let before = broad_some len (suc n) (omega arith) e in
      omega arith

  -- rows past the last that isn't empty add nothing to a fold
  pub fold_rest : (f : E → E → E) (d m : ℕ) (acc : List E)
      → ((i : ℕ) → m ≤ i → i < m + d → rows i ≡ []) → IsFold f m rows acc
      → IsFold f (m + d) rows acc
  fold_rest f zero m acc h is =
      subst (λ k. IsFold f k rows acc) (let e : m ≡ m + 0 = omega arith in e) is
  fold_rest f (suc d) m acc h is =
      let next : IsFold f (m + 1) rows acc =
      fold_more f m rows acc acc is
      (merged_nil f acc (rows m) (sym (h m (omega arith) (omega arith)))) in
      subst (λ k. IsFold f k rows acc) (let e : m + 1 + d ≡ m + suc d =
      omega arith in
      e) (fold_rest f d (m + 1) acc (λ i low high. h i (omega arith) (omega arith)) next)

-- ## what a reduction gathers

module _ (F : Full Contents) (j until start len : ℕ) (whole : IsWhole F) (senders : (i x : ℕ)
    → i < F.roll.shape.size → x < given F.roll i
    → (nat_lt i until && (nat_le start x && nat_lt x (start + len))) ≡ goes F.roll i x j 0) where
  -- what a rank below the last sends
  pub row_covers : (i : ℕ) → i < F.roll.shape.size → i < until → (x : ℕ) → x < given F.roll i
      → (nat_le start x && nat_lt x (start + len)) ≡ goes F.roll i x j 0
  row_covers i h low x inside =
      both_true (nat_lt i until) (nat_le start x && nat_lt x (start + len)) (goes F.roll i x j 0)
      (senders i x h inside) (lt-ltb i until low)

  row_empty : (i : ℕ) → i < F.roll.shape.size → until ≤ i → sent F i j 0 ≡ []
  row_empty i h past =
      no_items (sent F i j 0)
      (size_none F i j 0 whole h
      (λ x inside. first_false (nat_lt i until) (nat_le start x && nat_lt x (start + len))
      (goes F.roll i x j 0) (senders i x h inside) (le-ltb i until past)))

  -- the fold over the senders is the fold over all
  pub fold_over_all : (f : Element → Element → Element) (acc : List Element)
      → until ≤ F.roll.shape.size → IsFold f until (λ i. sent F i j 0) acc
      → IsFold f F.roll.shape.size (λ i. sent F i j 0) acc
  fold_over_all f acc few is =
      subst (λ n. IsFold f n (λ i. sent F i j 0) acc) (let e : until + (F.roll.shape.size - until)
      ≡ F.roll.shape.size = omega arith in e)
      (fold_rest (λ i. sent F i j 0) f (F.roll.shape.size - until) until acc
      (λ i past low. row_empty i (omega arith) past) is)

  module _ (within : (i : ℕ) → i < F.roll.shape.size → start + len ≤ given F.roll i) where
    row_long : (i : ℕ) → i < F.roll.shape.size → i < until → length (sent F i j 0) ≡ len
    row_long i h low = sym (size_some F i j 0 whole h start len (row_covers i h low) (within i h))

    pub breadth_some : 0 < F.roll.shape.size → 0 < until → len
        ≡ breadth F.roll (λ i t. sent F i j t)
    breadth_some some low =
        let least =
        broad_some (λ i. sent F i j 0) len F.roll.shape.size some (row_long 0 some low) in
        let most = broad_within (λ i. sent F i j 0) len F.roll.shape.size (λ i h. ⊎_elim
        (λ t. let same = row_long i h (ltb-true i until t) in omega arith)
        (λ t. let none = ap length (row_empty i h (ltb-false i until t)) in omega arith)
        (cases_Bool (nat_lt i until))) in
        omega arith

  pub breadth_none : until ≤ 0 → 0 ≡ breadth F.roll (λ i t. sent F i j t)
  breadth_none past =
      sym (broad_none (λ i. sent F i j 0) F.roll.shape.size
      (λ i h. ap length (row_empty i h (omega arith))))
