-- What is sent is the piece.
use Rattle.std.proofs.Common.{◌≡◌, ℕ, zero, suc, ◌+◌, ◌-◌, ◌<◌, ◌≤◌, List, [], ◌∷◌, ◌++◌, length}
use Rattle.std.proofs.Common.{take, drop, slice_range, ◌∙◌, ap, sym, refl, arith, Bool, true, false}
use Rattle.std.proofs.Common.{◌&&◌, cond, Option, Some, nat_le, nat_lt, slice_get, filter}
use Rattle.std.proofs.Common.{filter_map}
use Rattle.std.proofs.Common.{length-drop}
use Rattle.std.proofs.lemmas.List.{length-take-le, append-nil}
use Rattle.std.specs.List.{range_with_len, cons_option}
use Rattle.std.proofs.lemmas.Bool.{cond-true, cond-false, le-leb, lt-ltb, le-ltb, lt-leb}
use Rattle.mpi_elems.specs.declared.elem_type.ElemType.{ElemType}
use Rattle.mpi_elems.specs.Elements.{Element}
use Rattle.mpi_elems.specs.Lists.{merged}
use Rattle.mpi_elems.specs.Contents.{Contents, elements}
use Rattle.mpi_cart.specs.Grids.{below}
use Rattle.coll_routes.specs.Signatures.{elem_type}
use Rattle.coll_routes.specs.Rolls.{goes, given}
use Rattle.coll_values.specs.declared.full.Full.{Full}
use Rattle.coll_values.specs.Instances.{part, elements_in, IsWhole}
use Rattle.coll_values.specs.Values.{sent}

module _ {E : Type 0} (test : ℕ → Bool) where
  -- the elements whose numbers, from a on, pass the test
  abbrev kept : ℕ → List E → List E
  kept a [] = []
  kept a (x ∷ xs) = cond (test a) (x ∷ kept (a + 1) xs) (kept (a + 1) xs)

  kept_is : (get : ℕ → Option E) (a : ℕ) (xs : List E) → ((k : ℕ) → get (a + k) ≡ slice_get xs k) →
      filter_map get (filter test (range_with_len a (length xs))) ≡ kept a xs
  kept_is get a [] h = refl
  kept_is get a (x ∷ xs) h =
      let here : get a ≡ Some x = ap get (let e : a ≡ a + 0 = omega arith in e) ∙ h 0 in
      let there : (k : ℕ) → get (a + 1 + k) ≡ slice_get xs k = λ k. ap get
      (let e : a + 1 + k ≡ a + suc k = omega arith in e) ∙ h (suc k) in
      let rest = kept_is get (a + 1) xs there in
      go (test a) here rest
    where
      go : (b : Bool) → get a ≡ Some x →
          filter_map get (filter test (range_with_len (a + 1) (length xs))) ≡ kept (a + 1) xs →
          filter_map get (cond b (a ∷ filter test (range_with_len (a + 1) (length xs)))
          (filter test (range_with_len (a + 1) (length xs))))
          ≡ cond b (x ∷ kept (a + 1) xs) (kept (a + 1) xs)
      go true here rest = λ i. cons_option (here i) (rest i)
      go false here rest = rest

  kept_none : (a : ℕ) (xs : List E) → ((y : ℕ) → a ≤ y → y < a + length xs → test y ≡ false) →
      kept a xs ≡ []
  kept_none a [] h = refl
  kept_none a (x ∷ xs) h = cond-false (test a) (x ∷ kept (a + 1) xs) (kept (a + 1) xs)
      (h a (omega arith) (omega arith))
      ∙ kept_none (a + 1) xs (λ y low high. h y (omega arith) (omega arith))

  kept_prefix : (k a : ℕ) (xs : List E) →
      ((y : ℕ) → a ≤ y → y < a + length xs → test y ≡ nat_lt y (a + k)) → kept a xs ≡ take k xs
  kept_prefix zero a xs h =
      kept_none a xs (λ y low high. h y low high ∙ le-ltb y (a + 0) (omega arith))
  kept_prefix (suc k) a [] h = refl
  kept_prefix (suc k) a (x ∷ xs) h =
      cond-true (test a) (x ∷ kept (a + 1) xs) (kept (a + 1) xs)
      (h a (omega arith) (omega arith) ∙ lt-ltb a (a + suc k) (omega arith))
      ∙ ap (λ ys. x ∷ ys) (kept_prefix k (a + 1) xs (λ y low high.
      h y (omega arith) (omega arith)
      ∙ ap (nat_lt y) (let e : a + suc k ≡ a + 1 + k = omega arith in e)))

  kept_range : (d k a : ℕ) (xs : List E) →
      ((y : ℕ) → a ≤ y → y < a + length xs → test y ≡ (nat_le (a + d) y && nat_lt y (a + d + k))) →
      kept a xs ≡ take k (drop d xs)
  kept_range zero k a xs h = kept_prefix k a xs (λ y low high.
      h y low high
      ∙ (ap (λ b. b && nat_lt y (a + 0 + k)) (le-leb (a + 0) y (omega arith))
      ∙ ap (nat_lt y) (let e : a + 0 + k ≡ a + k = omega arith in e)))
  kept_range (suc d) zero a [] h = refl
  kept_range (suc d) (suc k) a [] h = refl
  kept_range (suc d) k a (x ∷ xs) h =
      cond-false (test a) (x ∷ kept (a + 1) xs) (kept (a + 1) xs) (h a (omega arith) (omega arith)
      ∙ ap (λ b. b && nat_lt a (a + suc d + k)) (lt-leb (a + suc d) a (omega arith)))
      ∙ kept_range d k (a + 1) xs (λ y low high.
      h y (omega arith) (omega arith) ∙ (λ i. nat_le (same i) y && nat_lt y (same i + k)))
    where
      same : a + suc d ≡ a + 1 + d
      same = omega arith

  -- the elements of a piece
  of_piece : (xs : List E) (start len : ℕ) →
      ((y : ℕ) → y < length xs → test y ≡ (nat_le start y && nat_lt y (start + len))) →
      filter_map (slice_get xs) (filter test (range_with_len 0 (length xs)))
      ≡ slice_range xs start (start + len)
  of_piece xs start len h =
      kept_is (slice_get xs) 0 xs (λ k. ap (slice_get xs) (let e : 0 + k ≡ k = omega arith in e))
      ∙ (kept_range start len 0 xs (λ y low high.
      h y (omega arith) ∙ (λ i. nat_le (zeroed i) y && nat_lt y (zeroed i + len)))
      ∙ ap (λ n. take n (drop start xs)) (let e : len ≡ start + len - start = omega arith in e))
    where
      zeroed : start ≡ 0 + start
      zeroed = omega arith

  of_none : (xs : List E) → ((y : ℕ) → y < length xs → test y ≡ false) →
      filter_map (slice_get xs) (filter test (range_with_len 0 (length xs))) ≡ []
  of_none xs h =
      kept_is (slice_get xs) 0 xs (λ k. ap (slice_get xs) (let e : 0 + k ≡ k = omega arith in e))
      ∙ kept_none 0 xs (λ y low high. h y (omega arith))

-- a rank that gave a part gave as much as it stated
pub part_has : (F : Full Contents) (i : ℕ) (p : Contents) → IsWhole F →
    slice_get F.parts i ≡ Some p → length (elements p) ≡ given F.roll i
part_has F i p whole there = (whole.each i p there).number

module _ (F : Full Contents) (i j t : ℕ) (p : Contents) (whole : IsWhole F)
    (there : slice_get F.parts i ≡ Some p) where
  abbrev over : ℕ → List Element → List Element
  over n ys = filter_map (slice_get ys) (filter (λ x. goes F.roll i x j t) (below n))

  sent_is : sent F i j t ≡ over (length (elements p)) (elements p)
  unfolding sent
  sent_is = λ k. over (sym (part_has F i p whole there) k) (elements_in (there k))

  pub sent_some : (start len : ℕ) → ((x : ℕ) → x < given F.roll i →
      (nat_le start x && nat_lt x (start + len)) ≡ goes F.roll i x j t) →
      slice_range (elements p) start (start + len) ≡ sent F i j t
  sent_some start len c = sym (sent_is
      ∙ of_piece (λ x. goes F.roll i x j t) (elements p) start len
      (λ y low. let has = part_has F i p whole there in sym (c y (omega arith))))

  pub sent_none : ((x : ℕ) → x < given F.roll i → false ≡ goes F.roll i x j t) → [] ≡ sent F i j t
  sent_none c = sym (sent_is
      ∙ of_none (λ x. goes F.roll i x j t) (elements p)
      (λ y low. let has = part_has F i p whole there in sym (c y (omega arith))))

there_is : {X : Type 0} (xs : List X) (i : ℕ) → i < length xs → (x : X) × (slice_get xs i ≡ Some x)
there_is [] i h = absurd (omega arith)
there_is (x ∷ xs) zero h = (x, refl)
there_is (x ∷ xs) (suc i) h = there_is xs i (omega arith)

pub length_range : {X : Type 0} (xs : List X) (start len : ℕ) → start + len ≤ length xs →
    length (slice_range xs start (start + len)) ≡ len
length_range xs start len h =
    let cut : length (take (start + len - start) (drop start xs)) ≡ start + len - start =
    length-take-le (start + len - start) (drop start xs) (omega (arith, length-drop start xs))
    in
    omega arith

module _ (F : Full Contents) (i j t : ℕ) (whole : IsWhole F) (h : i < F.roll.shape.size) where
  pub its_part : (p : Contents) × (slice_get F.parts i ≡ Some p)
  its_part = let long = whole.parts in there_is F.parts i (omega arith)

  -- how many elements are sent
  pub size_some : (start len : ℕ) → ((x : ℕ) → x < given F.roll i →
      (nat_le start x && nat_lt x (start + len)) ≡ goes F.roll i x j t) →
      start + len ≤ given F.roll i → len ≡ length (sent F i j t)
  size_some start len c within =
      let p = its_part in
      let has = part_has F i p.0 whole p.1 in
      sym (length_range (elements p.0) start len (omega arith))
      ∙ ap length (sent_some F i j t p.0 whole p.1 start len c)

  pub size_none : ((x : ℕ) → x < given F.roll i → false ≡ goes F.roll i x j t) →
      0 ≡ length (sent F i j t)
  size_none c = let p = its_part in ap length (sent_none F i j t p.0 whole p.1 c)

pub append_nil : {X : Type 0} (xs ys : List X) → [] ≡ ys → xs ≡ xs ++ ys
append_nil xs ys e = sym (append-nil xs) ∙ ap (λ zs. xs ++ zs) e

pub merged_nil : {E : Type 0} (f : E → E → E) (xs ys : List E) → [] ≡ ys → xs ≡ merged f xs ys
unfolding merged
merged_nil f [] ys e = e
merged_nil f (x ∷ xs) ys e = ap (merged f (x ∷ xs)) e

-- the part of a rank has the type of the buffer that takes it
pub type_of : (F : Full Contents) (i : ℕ) (p : Contents) (ty : ElemType) → IsWhole F →
    slice_get F.parts i ≡ Some p → elem_type F.roll.sig ≡ Some ty → ty ≡ p.elem_type
type_of F i p ty whole there typed = sym ((whole.each i p there).of_type ty typed)

module _ (F : Full Contents) (i j t : ℕ) (p : Contents) (whole : IsWhole F)
    (there : slice_get F.parts i ≡ Some p) (start len : ℕ) (within : start + len ≤ given F.roll i)
  where
    pub piece_within : start + len ≤ length (elements p)
    piece_within = let has = part_has F i p whole there in omega arith

    pub piece_length : ((x : ℕ) → x < given F.roll i →
        (nat_le start x && nat_lt x (start + len)) ≡ goes F.roll i x j t) →
        len ≡ length (sent F i j t)
    piece_length c = sym (length_range (elements p) start len piece_within)
        ∙ ap length (sent_some F i j t p whole there start len c)

-- a piece is what is sent
module _ (F : Full Contents) (i j t : ℕ) (whole : IsWhole F) (h : i < F.roll.shape.size) where
  pub all_sent : (start len : ℕ) → ((x : ℕ) → x < given F.roll i →
      (nat_le start x && nat_lt x (start + len)) ≡ goes F.roll i x j t) →
      slice_range (part F i) start (start + len) ≡ sent F i j t
  all_sent start len c =
      let p = its_part F i j t whole h in
      ap (λ o. slice_range (elements_in o) start (start + len)) p.1
      ∙ sent_some F i j t p.0 whole p.1 start len c

  pub none_sent : ((x : ℕ) → x < given F.roll i → false ≡ goes F.roll i x j t) → sent F i j t ≡ []
  none_sent c = let p = its_part F i j t whole h in sym (sent_none F i j t p.0 whole p.1 c)
