-- A stable sort has one answer: whatever is in ascending order and keeps ties in theirs is
-- `sorted_by`.
use Rattle.std.proofs.Common.{◌≡◌, ℕ, zero, suc, ◌+◌, ◌<◌, ◌≤◌, Bool, true, false, not, ◌&&◌, ◌||◌}
use Rattle.std.proofs.Common.{cond, eqb, List, [], ◌∷◌, map, length, get_or, refl, sym, ap, ◌∙◌}
use Rattle.std.proofs.Common.{arith, inl, inr, add-one}
use Rattle.std.specs.List.{filter, list_all, list_any}
use Rattle.std.specs.List.Sorted.{IsSortedBy, IsStableBy, ties}
use Rattle.std.specs.Cmp.{IsStrictWeakOrder, nat_eq_equiv}
use Rattle.mpi_group.specs.Groups.{is_member, is_distinct}
use Rattle.std.proofs.lemmas.Bool.{cases_Bool, and_parts, and_from, both_ways, not-true}
use Rattle.std.proofs.lemmas.Bool.{not_from_false, false_from_ne_true}
use Rattle.std.proofs.lemmas.List.Sorted.{sorted_far}
use Rattle.mpi_comm.specs.Sorting.{put, sorted_by}

module _ {X : Type 0} (less : X → X → Bool) where
  -- none of them is less than x
  abbrev is_floor : X → List X → Bool
  is_floor x ys = list_all (λ y. not (less y x)) ys

  abbrev ascends : List X → Bool
  ascends [] = true
  ascends (x ∷ xs) = is_floor x xs && ascends xs

  is_floor-put : (z x : X) (ys : List X) → less x z ≡ false → is_floor z ys ≡ true →
      is_floor z (put less x ys) ≡ true
  is_floor-put z x [] h all = rw h refl
  is_floor-put z x (y ∷ ys) h all =
      let parts = and_parts (not (less y z)) (is_floor z ys) all in
      elim (cases_Bool (less y x)) as (λ _. is_floor z (put less x (y ∷ ys)) ≡ true) [
        | inl e ↦ rw (e, not-true _ parts.0) (is_floor-put z x ys h parts.1)
        | inr e ↦ rw (e, h) all
      ]

module _ {X : Type 0} (less : X → X → Bool) (o : IsStrictWeakOrder less) where
  never_itself : (x : X) → less x x ≡ false
  never_itself x = false_from_ne_true (less x x) (λ h. both_ways (less x x) (o.one_way x x h) h)

  -- what isn't below a floor isn't below what lies no higher
  is_floor-down : (x y : X) (zs : List X) → less y x ≡ false → is_floor less y zs ≡ true →
      is_floor less x zs ≡ true
  is_floor-down x y [] h all = refl
  is_floor-down x y (z ∷ zs) h all =
      let parts = and_parts (not (less z y)) (is_floor less y zs) all in
      let above : less z x ≡ false = o.chain z y x (not-true _ parts.0) h in
      rw above (is_floor-down x y zs h parts.1)

  ascends-put : (x : X) (ys : List X) → ascends less ys ≡ true → ascends less (put less x ys) ≡ true
  ascends-put x [] up = refl
  ascends-put x (y ∷ ys) up =
      let parts = and_parts (is_floor less y ys) (ascends less ys) up in
      elim (cases_Bool (less y x)) as (λ _. ascends less (put less x (y ∷ ys)) ≡ true) [
        | inl e
            ↦ rw e (and_from (is_floor less y (put less x ys)) (ascends less (put less x ys))
            (is_floor-put less y x ys (o.one_way y x e) parts.0) (ascends-put x ys parts.1))
        | inr e
            ↦ rw e (and_from (is_floor less x (y ∷ ys)) (ascends less (y ∷ ys))
            (rw e (is_floor-down x y ys e parts.0)) up)
      ]

  ascends-sorted_by : (xs : List X) → ascends less (sorted_by less xs) ≡ true
  ascends-sorted_by [] = refl
  ascends-sorted_by (x ∷ xs) = ascends-put x (sorted_by less xs) (ascends-sorted_by xs)

  -- two that tie with one tie with each other
  tied : (x y z : X) → ties less x y ≡ true → ties less x z ≡ true → less z y ≡ false
  tied x y z one two =
      let first = and_parts (not (less x y)) (not (less y x)) one in
      let second = and_parts (not (less x z)) (not (less z x)) two in
      o.chain z x y (not-true _ second.1) (not-true _ first.0)

  filter-put : (x y : X) (zs : List X) →
      filter (ties less x) (put less y zs) ≡ filter (ties less x) (y ∷ zs)
  filter-put x y [] = refl
  filter-put x y (z ∷ zs) =
      elim (cases_Bool (less z y)) as
      (λ _. filter (ties less x) (put less y (z ∷ zs)) ≡ filter (ties less x) (y ∷ z ∷ zs)) [
        | inr e ↦ rw e refl
        | inl e
            ↦ rw (e, filter-put x y zs) (elim (cases_Bool (ties less x z)) as
            (λ _. cond (ties less x z) (z
            ∷ cond (ties less x y) (y ∷ filter (ties less x) zs)
            (filter (ties less x) zs))
            (cond (ties less x y) (y ∷ filter (ties less x) zs) (filter (ties less x) zs))
            ≡ filter (ties less x) (y ∷ z ∷ zs)) [
              | inr apart ↦ rw apart refl
              | inl together
                  ↦ elim (cases_Bool (ties less x y)) as (λ _. cond (ties less x z)
                  (z
                  ∷ cond (ties less x y) (y ∷ filter (ties less x) zs)
                  (filter (ties less x) zs))
                  (cond (ties less x y) (y ∷ filter (ties less x) zs) (filter (ties less x) zs))
                  ≡ filter (ties less x) (y ∷ z ∷ zs)) [
                    | inr other ↦ rw (together, other) refl
                    | inl both ↦ absurd (both_ways (less z y) (tied x y z both together) e)
                  ]
            ])
      ]

  pub filter-sorted_by : (x : X) (xs : List X) →
      filter (ties less x) (sorted_by less xs) ≡ filter (ties less x) xs
  filter-sorted_by x [] = refl
  filter-sorted_by x (y ∷ ys) = filter-put x y (sorted_by less ys)
      ∙ ap (λ (t : List X). cond (ties less x y) (y ∷ t) t) (filter-sorted_by x ys)

  ties_itself : (x : X) → ties less x x ≡ true
  ties_itself x = rw (never_itself x) refl

  -- where one of the list ties with a, a isn't below the list's floor's owner
  found : (a b c : X) (bs cs : List X) → is_floor less b bs ≡ true →
      filter (ties less a) bs ≡ c ∷ cs → less a b ≡ false
  found a b c [] cs all h = cc
  found a b c (w ∷ ws) cs all h =
      let parts = and_parts (not (less w b)) (is_floor less b ws) all in
      elim (cases_Bool (ties less a w)) as (λ _. less a b ≡ false) [
        | inl e
            ↦
            let tie = and_parts (not (less a w)) (not (less w a)) e in
            o.chain a w b (not-true _ tie.0) (not-true _ parts.0)
        | inr e
            ↦
            let later : filter (ties less a) ws ≡ c ∷ cs = rw e at h in
            found a b c ws cs parts.1 later
      ]

  same_ascending : (as' bs : List X) → ascends less as' ≡ true → ascends less bs ≡ true →
      ((x : X) → filter (ties less x) as' ≡ filter (ties less x) bs) → as' ≡ bs
  same_ascending [] [] one two same = refl
  same_ascending [] (b ∷ bs) one two same =
      let here : filter (ties less b) (b ∷ bs) ≡ b ∷ filter (ties less b) bs = rw (ties_itself b)
      refl in
      let bad : [] ≡ b ∷ filter (ties less b) bs = same b ∙ here in cc
  same_ascending (a ∷ as') [] one two same =
      let here : filter (ties less a) (a ∷ as') ≡ a ∷ filter (ties less a) as' = rw (ties_itself a)
      refl in
      let bad : [] ≡ a ∷ filter (ties less a) as' = sym (same a) ∙ here in cc
  same_ascending (a ∷ as') (b ∷ bs) one two same =
      let first = and_parts (is_floor less a as') (ascends less as') one in
      let second = and_parts (is_floor less b bs) (ascends less bs) two in
      let of_a : filter (ties less a) (a ∷ as') ≡ a ∷ filter (ties less a) as' = rw (ties_itself a)
      refl in
      let of_b : filter (ties less b) (b ∷ bs) ≡ b ∷ filter (ties less b) bs = rw (ties_itself b)
      refl in
      let low_a : is_floor less a (a ∷ as') ≡ true = rw (never_itself a) first.0 in
      let low_b : is_floor less b (b ∷ bs) ≡ true = rw (never_itself b) second.0 in
      let not_above : less a b ≡ false = found a b a (b ∷ bs) (filter (ties less a) as') low_b
      (sym (same a) ∙ of_a) in
      let not_below : less b a ≡ false = found b a b (a ∷ as') (filter (ties less b) bs) low_a
      (same b ∙ of_b) in
      let tie : ties less a b ≡ true = rw (not_above, not_below) refl in
      let heads : a ∷ filter (ties less a) as' ≡ b ∷ filter (ties less a) bs = sym of_a ∙ same a ∙
      rw tie refl in
      let head : a ≡ b = cc in
      let rest : as' ≡ bs = same_ascending as' bs first.1 second.1 (λ x.
      let whole : filter (ties less x) (a ∷ as') ≡ filter (ties less x) (a ∷ bs) = same x ∙ ap
      (λ (h : X). filter (ties less x) (h ∷ bs)) (sym head) in
      elim (cases_Bool (ties less x a)) as (λ _. filter (ties less x) as' ≡ filter (ties less x)
      bs) [
        | inl e
            ↦
            let both : a ∷ filter (ties less x) as' ≡ a ∷ filter (ties less x) bs = rw e at
            whole in cc
        | inr e ↦ rw e at whole
      ]) in
      λ i. head i ∷ rest i

  pub sorted_places : (xs : List X) → ascends less xs ≡ true → (k : ℕ) (d : X) → k + 1 < length xs →
      less (get_or xs (k + 1) d) (get_or xs k d) ≡ false
  sorted_places [] up k d lt = absurd (omega arith)
  sorted_places (x ∷ []) up k d lt = absurd (omega arith)
  sorted_places (x ∷ y ∷ ys) up zero d lt =
      let parts = and_parts (is_floor less x (y ∷ ys)) (ascends less (y ∷ ys)) up in
      let first = and_parts (not (less y x)) (is_floor less x ys) parts.0 in
      not-true (less y x) first.0
  sorted_places (x ∷ y ∷ ys) up (suc k) d lt =
      let parts = and_parts (is_floor less x (y ∷ ys)) (ascends less (y ∷ ys)) up in
      let before : less (get_or (y ∷ ys) (suc k) d) (get_or (y ∷ ys) k d) ≡ false = rw add-one at
      (sorted_places (y ∷ ys) parts.1 k d (omega arith)) in
      rw add-one before

  pub IsSortedBy-sorted_by : (xs : List X) → IsSortedBy less (sorted_by less xs)
  IsSortedBy-sorted_by xs k d low lt =
      sorted_places (sorted_by less xs) (ascends-sorted_by xs) k d lt

  -- std's words by places
  far : List X → Type 0
  far xs = (i j : ℕ) (d : X) → i ≤ j → j < length xs → less (get_or xs j d) (get_or xs i d) ≡ false

  floor_by_places : (x : X) (xs : List X) →
      ((k : ℕ) (d : X) → k < length xs → less (get_or xs k d) x ≡ false) → is_floor less x xs ≡ true
  floor_by_places x [] all = refl
  floor_by_places x (y ∷ ys) all = and_from (not (less y x)) (is_floor less x ys)
      (not_from_false (less y x) (all 0 y (omega arith)))
      (floor_by_places x ys (λ k d h. all (suc k) d (omega arith)))

  ascends_by_places : (xs : List X) → far xs → ascends less xs ≡ true
  unfolding far
  ascends_by_places [] up = refl
  ascends_by_places (x ∷ xs) up = and_from (is_floor less x xs) (ascends less xs)
      (floor_by_places x xs (λ k d h. up 0 (suc k) d (omega arith) (omega arith)))
      (ascends_by_places xs (λ i j d le lt. up (suc i) (suc j) d (omega arith) (omega arith)))

  -- what a stable sort leaves is the sorted list
  pub sort_is : (xs ys : List X) → IsSortedBy less ys → IsStableBy less xs ys →
      ys ≡ sorted_by less xs
  unfolding far
  sort_is xs ys up stable = same_ascending ys (sorted_by less xs)
      (ascends_by_places ys (sorted_far less o ys up)) (ascends-sorted_by xs)
      (λ x. stable x ∙ sym (filter-sorted_by x xs))

-- a sort keeps what is there
or_swap : (a b c : Bool) → (a || (b || c)) ≡ (b || (a || c))
or_swap true true c = refl
or_swap true false c = refl
or_swap false b c = refl

and_swap : (a b c : Bool) → (a && (b && c)) ≡ (b && (a && c))
and_swap true b c = refl
and_swap false true c = refl
and_swap false false c = refl

module _ {X : Type 0} (less : X → X → Bool) (p : X → Bool) where
  any-put : (x : X) (ys : List X) → list_any p (put less x ys) ≡ (p x || list_any p ys)
  any-put x [] = refl
  any-put x (y ∷ ys) = elim (less y x) as
      (λ b. list_any p (cond b (y ∷ put less x ys) (x ∷ y ∷ ys)) ≡ (p x || (p y || list_any p
      ys))) [
        | true ↦ ap (λ b. p y || b) (any-put x ys) ∙ or_swap (p y) (p x) (list_any p ys)
        | false ↦ refl
      ]

  pub any-sorted_by : (xs : List X) → list_any p (sorted_by less xs) ≡ list_any p xs
  any-sorted_by [] = refl
  any-sorted_by (x ∷ xs) = any-put x (sorted_by less xs) ∙ ap (λ b. p x || b) (any-sorted_by xs)

  all-put : (x : X) (ys : List X) → list_all p (put less x ys) ≡ (p x && list_all p ys)
  all-put x [] = refl
  all-put x (y ∷ ys) = elim (less y x) as
      (λ b. list_all p (cond b (y ∷ put less x ys) (x ∷ y ∷ ys)) ≡ (p x && (p y && list_all p
      ys))) [
        | true ↦ ap (λ b. p y && b) (all-put x ys) ∙ and_swap (p y) (p x) (list_all p ys)
        | false ↦ refl
      ]

  pub all-sorted_by : (xs : List X) → list_all p (sorted_by less xs) ≡ list_all p xs
  all-sorted_by [] = refl
  all-sorted_by (x ∷ xs) = all-put x (sorted_by less xs) ∙ ap (λ b. p x && b) (all-sorted_by xs)

-- numbers that are distinct stay so
turned : (a m n d : Bool) → (not (a || m) && (not n && d)) ≡ (not (a || n) && (not m && d))
turned true m n d = refl
turned false true true d = refl
turned false true false d = refl
turned false false true d = refl
turned false false false d = refl

module _ {X : Type 0} (less : X → X → Bool) (f : X → ℕ) where
  member-put : (x : X) (ys : List X) (q : ℕ) →
      is_member (map f (put less x ys)) q ≡ (eqb (f x) q || is_member (map f ys) q)
  member-put x [] q = refl
  member-put x (y ∷ ys) q = elim (less y x) as (λ b. is_member
      (map f (cond b (y ∷ put less x ys) (x ∷ y ∷ ys))) q
      ≡ (eqb (f x) q || (eqb (f y) q || is_member (map f ys) q))) [
        | true
            ↦ ap (λ b. eqb (f y) q || b) (member-put x ys q)
            ∙ or_swap (eqb (f y) q) (eqb (f x) q) (is_member (map f ys) q)
        | false ↦ refl
      ]

  distinct-put : (x : X) (ys : List X) →
      is_distinct (map f (put less x ys))
      ≡ (not (is_member (map f ys) (f x)) && is_distinct (map f ys))
  distinct-put x [] = refl
  distinct-put x (y ∷ ys) = elim (less y x) as (λ b. is_distinct
      (map f (cond b (y ∷ put less x ys) (x ∷ y ∷ ys)))
      ≡ (not (eqb (f y) (f x) || is_member (map f ys) (f x))
      && (not (is_member (map f ys) (f y)) && is_distinct (map f ys)))) [
        | true ↦ (λ i. not (member-put x ys (f y) i) && distinct-put x ys i)
            ∙ ap (λ b. not (b || is_member (map f ys) (f y))
            && (not (is_member (map f ys) (f x)) && is_distinct (map f ys)))
            (nat_eq_equiv.symm (f x) (f y))
            ∙ turned (eqb (f y) (f x)) (is_member (map f ys) (f y)) (is_member (map f ys) (f x))
            (is_distinct (map f ys))
        | false ↦ refl
      ]

  member-sorted_by : (xs : List X) (q : ℕ) →
      is_member (map f (sorted_by less xs)) q ≡ is_member (map f xs) q
  member-sorted_by [] q = refl
  member-sorted_by (x ∷ xs) q =
      member-put x (sorted_by less xs) q ∙ ap (λ b. eqb (f x) q || b) (member-sorted_by xs q)

  pub distinct-sorted_by : (xs : List X) →
      is_distinct (map f (sorted_by less xs)) ≡ is_distinct (map f xs)
  distinct-sorted_by [] = refl
  distinct-sorted_by (x ∷ xs) = distinct-put x (sorted_by less xs)
      ∙ (λ i. not (member-sorted_by xs (f x) i) && distinct-sorted_by xs i)
