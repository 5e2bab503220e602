-- Numbers of consecutive elements are consecutive numbers.
use Rattle.std.proofs.Common.{◌≡◌, ℕ, zero, suc, ◌+◌, ◌-◌, ◌*◌, ◌<◌, ◌≤◌, List, [], ◌∷◌, length, map}
use Rattle.std.proofs.Common.{take, drop, slice_range, ℤ, refl, sym, ap, ◌∙◌, arith, true, false}
use Rattle.std.proofs.Common.{Some, Option, slice_get, if◌then◌else◌}
use Rattle.std.proofs.Math.Seq.{take-nil, drop-nil}
use Rattle.std.proofs.lemmas.List.{drop-take}
use Rattle.std.specs.List.{range_with_len}
use Rattle.mpi_elems.specs.Types.{is_pair}
use Rattle.mpi_elems.specs.Elements.{Element, single, numbers_of, pairs_of, elements_of}
use Rattle.mpi_elems.specs.Contents.{Contents, elements, IsFit}
use Rattle.coll_routes.specs.Rolls.{given, places}
use Rattle.coll_values.specs.declared.full.Full.{Full}
use Rattle.coll_values.specs.declared.stretch.Stretch.{Stretch}
use Rattle.coll_values.specs.Instances.{part, elements_in, IsWhole}
use Rattle.coll_values.specs.Stretches.{IsAlong, numbers_in, numbers_given, numbers_along}
use Rattle.coll_values.specs.Values.{block_of, value}
use Rattle.coll_values.proofs.RoomLemmas.{at_place, value_is}
use Rattle.coll_values.proofs.SentLemmas.{part_has}

-- ## single numbers

take_singles : (n : ℕ) (ns : List ℤ) → numbers_of (take n (map single ns)) ≡ take n ns
unfolding numbers_of
take_singles zero ns = refl
take_singles (suc n) [] = refl
take_singles (suc n) (a ∷ ns) = ap (λ (ms : List ℤ). a ∷ ms) (take_singles n ns)

cut_singles : (d n : ℕ) (ns : List ℤ) →
    numbers_of (take n (drop d (map single ns))) ≡ take n (drop d ns)
cut_singles zero n ns = take_singles n ns
cut_singles (suc d) n [] = take_singles n []
cut_singles (suc d) n (a ∷ ns) = cut_singles d n ns

-- ## pairs

twice : (n : ℕ) → 2 * suc n ≡ suc (suc (2 * n))
twice n = omega arith

take_pairs : (n : ℕ) (ns : List ℤ) →
    numbers_of (take n (pairs_of ns)) ≡ take (2 * n) (numbers_of (pairs_of ns))
unfolding numbers_of pairs_of
take_pairs zero ns = refl
take_pairs (suc n) [] = sym (take-nil (2 * suc n))
take_pairs (suc n) (a ∷ []) = sym (take-nil (2 * suc n))
take_pairs (suc n) (a ∷ i ∷ ns) =
    ap (λ (ms : List ℤ). a ∷ i ∷ ms) (take_pairs n ns)
    ∙ ap (λ m. take m (a ∷ i ∷ numbers_of (pairs_of ns))) (sym (twice n))

cut_pairs : (d n : ℕ) (ns : List ℤ) → numbers_of (take n (drop d (pairs_of ns)))
    ≡ take (2 * n) (drop (2 * d) (numbers_of (pairs_of ns)))
unfolding numbers_of pairs_of
cut_pairs zero n ns = take_pairs n ns
cut_pairs (suc d) n [] = take_pairs n []
    ∙ ap (take (2 * n)) (sym (drop-nil (2 * suc d)))
cut_pairs (suc d) n (a ∷ []) = take_pairs n []
    ∙ ap (take (2 * n)) (sym (drop-nil (2 * suc d)))
cut_pairs (suc d) n (a ∷ i ∷ ns) = cut_pairs d n ns
    ∙ ap (λ m. take (2 * n) (drop m (a ∷ i ∷ numbers_of (pairs_of ns)))) (sym (twice d))

length_pairs : (ns : List ℤ) → length (numbers_of (pairs_of ns)) ≡ 2 * length (pairs_of ns)
unfolding numbers_of pairs_of
length_pairs [] = refl
length_pairs (a ∷ []) = refl
length_pairs (a ∷ i ∷ ns) = omega (arith, length_pairs ns)

length_singles : (ns : List ℤ) → length (map single ns) ≡ length ns
length_singles [] = refl
length_singles (a ∷ ns) = ap suc (length_singles ns)

-- ## of a buffer

module _ (b : Contents) (fit : IsFit b) (start len : ℕ) where
  pub along_singles : is_pair b.elem_type ≡ false →
      drop start (take (start + len) b.numbers)
      ≡ numbers_of (slice_range (elements b) start (start + len))
  unfolding elements_of
  along_singles e =
      drop-take start len b.numbers
      ∙ (sym (cut_singles start len b.numbers)
      ∙ (λ k. numbers_of (take (same k) (drop start
      (if sym e k then pairs_of b.numbers else map single b.numbers)))))
    where
      same : len ≡ start + len - start
      same = omega arith

  pub along_pairs : is_pair b.elem_type ≡ true →
      drop (2 * start) (take (2 * (start + len)) b.numbers)
      ≡ numbers_of (slice_range (elements b) start (start + len))
  unfolding elements_of
  along_pairs e =
      ap (λ m. drop (2 * start) (take m b.numbers)) (let s : 2 * (start + len)
      ≡ 2 * start + 2 * len = omega arith in s)
      ∙ (drop-take (2 * start) (2 * len) b.numbers
      ∙ (ap (λ ns. take (2 * len) (drop (2 * start) ns)) (sym paired)
      ∙ (sym (cut_pairs start len b.numbers)
      ∙ (λ k. numbers_of (take (same k) (drop start
      (if sym e k then pairs_of b.numbers else map single b.numbers)))))))
    where
      same : len ≡ start + len - start
      same = omega arith

      paired : numbers_of (pairs_of b.numbers) ≡ b.numbers
      paired = (λ k. numbers_of (if sym e k then pairs_of b.numbers else map single b.numbers))
          ∙ fit.whole

  pub length_paired : is_pair b.elem_type ≡ true → length b.numbers ≡ 2 * length (elements b)
  unfolding elements_of
  length_paired e =
      ap length (sym fit.whole)
      ∙ ((λ k. length (numbers_of (if e k then pairs_of b.numbers else map single b.numbers)))
      ∙ (length_pairs b.numbers
      ∙ (λ k. 2 * length (if sym e k then pairs_of b.numbers else map single b.numbers))))

  pub length_single : is_pair b.elem_type ≡ false → length b.numbers ≡ length (elements b)
  unfolding elements_of
  length_single e =
      sym (length_singles b.numbers)
      ∙ (λ k. length (if sym e k then pairs_of b.numbers else map single b.numbers))

-- ## of what a rank gave

abbrev stretch : (source from to : ℕ) → Stretch
stretch source from to = record { source = source; from = from; to = to }

module _ (F : Full Contents) (i : ℕ) (p : Contents) (whole : IsWhole F)
    (low : i < F.roll.shape.size) (there : slice_get F.parts i ≡ Some p) (fit : IsFit p)
    (start len : ℕ) (within : start + len ≤ given F.roll i) where
  its_numbers : p.numbers ≡ numbers_given F i
  its_numbers = sym (ap numbers_in there)

  its_elements : elements p ≡ part F i
  its_elements = sym (ap elements_in there)

  pub single_is_along : is_pair p.elem_type ≡ false → IsAlong F (stretch i start (start + len))
  single_is_along e =
      let has = part_has F i p whole there in
      let long = length_single p fit start len e in
      let same = ap length its_numbers in
      record { source = low; order = omega arith; within = omega arith }

  pub pairs_are_along : is_pair p.elem_type ≡ true →
      IsAlong F (stretch i (2 * start) (2 * (start + len)))
  pairs_are_along e =
      let has = part_has F i p whole there in
      let long = length_paired p fit start len e in
      let same = ap length its_numbers in
      record { source = low; order = omega arith; within = omega arith }

  pub single_numbers : is_pair p.elem_type ≡ false →
      numbers_along F (stretch i start (start + len))
      ≡ numbers_of (slice_range (part F i) start (start + len))
  single_numbers e =
      ap (λ ns. drop start (take (start + len) ns)) (sym its_numbers)
      ∙ (along_singles p fit start len e
      ∙ ap (λ es. numbers_of (slice_range es start (start + len))) its_elements)

  pub pairs_numbers : is_pair p.elem_type ≡ true →
      numbers_along F (stretch i (2 * start) (2 * (start + len)))
      ≡ numbers_of (slice_range (part F i) start (start + len))
  pairs_numbers e =
      ap (λ ns. drop (2 * start) (take (2 * (start + len)) ns)) (sym its_numbers)
      ∙ (along_pairs p fit start len e
      ∙ ap (λ es. numbers_of (slice_range es start (start + len))) its_elements)

-- ## the block at a place

at_range : {X : Type 0} (f : ℕ → X) (a n k : ℕ) → k < n →
    slice_get (map f (range_with_len a n)) k ≡ Some (f (a + k))
at_range f a zero k h = absurd (omega arith)
at_range f a (suc n) zero h = ap (λ m. Some (f m)) (let e : a ≡ a + 0 = omega arith in e)
at_range f a (suc n) (suc k) h = at_range f (a + 1) n k (omega arith)
    ∙ ap (λ m. Some (f m)) (let e : a + 1 + k ≡ a + suc k = omega arith in e)

-- the block of that is told there
pub block_at : (F : Full Contents) (j t : ℕ) (o : Option (List Element)) → t < places F.roll j →
    at_place F j t ≡ o → slice_get (value F j) t ≡ Some (block_of o)
block_at F j t o low is =
    ap (λ bs. slice_get bs t) (value_is F j)
    ∙ (at_range (λ n. block_of (at_place F j n)) 0 (places F.roll j) t low
    ∙ (ap (λ n. Some (block_of (at_place F j n))) (let e : 0 + t ≡ t = omega arith in e)
    ∙ ap (λ p. Some (block_of p)) is))
