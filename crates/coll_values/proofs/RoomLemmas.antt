-- Lines and their places.
use Rattle.std.proofs.Common.{◌≡◌, ℕ, zero, suc, ◌+◌, ◌<◌, List, [], ◌∷◌, ◌++◌, length, ◌∙◌, ap}
use Rattle.std.proofs.Common.{sym, refl, arith, Option, Some, slice_get, map}
use Rattle.std.proofs.lemmas.List.FromFn.{length-range_with_len}
use Rattle.std.specs.List.{range_with_len}
use Rattle.std.proofs.lemmas.List.{length-map}
use Rattle.mpi_elems.specs.declared.elem_type.ElemType.{ElemType}
use Rattle.mpi_elems.specs.Elements.{Element}
use Rattle.mpi_elems.specs.Contents.{Contents, contents}
use Rattle.mpi_cart.specs.Grids.{below}
use Rattle.coll_routes.specs.Signatures.{reduction}
use Rattle.coll_routes.specs.Rolls.{places}
use Rattle.coll_values.specs.declared.full.Full.{Full}
use Rattle.coll_values.specs.Values.{sent, block_by, block_of, blocks, value}
use Rattle.coll_values.specs.Rooms.{size_of, sizes}
use Rattle.coll_values.specs.Lines.{AreLines}

-- ## lines of given sizes

pub lines_are : (ty : ElemType) (ns : List ℕ) → AreLines ty (map (λ n. contents ty [] n) ns)
lines_are ty [] = tt
lines_are ty (n ∷ ns) = (refl, refl, lines_are ty ns)

pub rooms_are : (ty : ElemType) (ns : List ℕ) →
    map (λ (line : Contents). line.room) (map (λ n. contents ty [] n) ns) ≡ ns
rooms_are ty [] = refl
rooms_are ty (n ∷ ns) = ap (λ ms. n ∷ ms) (rooms_are ty ns)

pub map_map : {X Y Z : Type 0} (f : Y → Z) (g : X → Y) (xs : List X) →
    map f (map g xs) ≡ map (λ x. f (g x)) xs
map_map f g [] = refl
map_map f g (x ∷ xs) = ap (λ zs. f (g x) ∷ zs) (map_map f g xs)

-- the item at a place
at_range : {X : Type 0} (f : ℕ → X) (a n k : ℕ) (x : X) →
    slice_get (map f (range_with_len a n)) k ≡ Some x → (k < n) × (f (a + k) ≡ x)
at_range f a zero k x e = absurd (cc)
at_range f a (suc n) zero x e =
    (omega arith, (let here : f a ≡ x = cc in ap f (let z : a + 0 ≡ a = omega arith in z) ∙ here))
at_range f a (suc n) (suc k) x e = let rest = at_range f (a + 1) n k x e in
    (omega (arith, rest.0), ap f (let z : a + suc k ≡ a + 1 + k = omega arith in z) ∙ rest.1)

-- the item after those of the first list
at_next : {X : Type 0} (xs ys : List X) (y : X) → slice_get (xs ++ y ∷ ys) (length xs) ≡ Some y
at_next [] ys y = refl
at_next (x ∷ xs) ys y = at_next xs ys y

slice_get_map : {X Y : Type 0} (f : X → Y) (xs : List X) (k : ℕ) (x : X) → slice_get xs k ≡ Some x →
    slice_get (map f xs) k ≡ Some (f x)
slice_get_map f [] k x e = absurd (cc)
slice_get_map f (y ∷ xs) zero x e = (let same : y ≡ x = cc in ap (λ z. Some (f z)) same)
slice_get_map f (y ∷ xs) (suc k) x e = slice_get_map f xs k x e

-- a line is empty, and for the type
pub line_is : (ty : ElemType) (xs ys lines : List Contents) (line : Contents) → AreLines ty lines →
    xs ++ line ∷ ys ≡ lines → (line.elem_type ≡ ty) × (line.numbers ≡ [])
line_is ty [] ys [] line are e = absurd (cc)
line_is ty [] ys (l ∷ lines) line are e = (let same : line ≡ l = cc in (
  ap (λ (z : Contents). z.elem_type) same ∙ are.0,
  ap (λ (z : Contents). z.numbers) same ∙ are.1,
))
line_is ty (x ∷ xs) ys [] line are e = absurd (cc)
line_is ty (x ∷ xs) ys (l ∷ lines) line are e =
    (let rest : xs ++ line ∷ ys ≡ lines = cc in line_is ty xs ys lines line are.2 rest)

module _ (F : Full Contents) (j : ℕ) where
  -- the block at a place
  abbrev pub at_place : ℕ → Option (List Element)
  at_place t = block_by (reduction F.roll.sig) F.roll (λ i t. sent F i j t) j t

  pub sizes_are : sizes F j ≡ map (λ t. size_of (at_place t)) (below (places F.roll j))
  unfolding blocks
  sizes_are = map_map size_of at_place (below (places F.roll j))

  pub value_is : value F j ≡ map (λ t. block_of (at_place t)) (below (places F.roll j))
  unfolding value blocks
  value_is = map_map block_of at_place (below (places F.roll j))

  pub lines_for_sizes : (ty : ElemType) →
      map (λ t. contents ty [] (size_of (at_place t))) (below (places F.roll j))
      ≡ map (λ n. contents ty [] n) (sizes F j)
  lines_for_sizes ty = sym
      (map_map (λ n. contents ty [] n) (λ t. size_of (at_place t)) (below (places F.roll j)))
      ∙ ap (map (λ n. contents ty [] n)) (sym sizes_are)

  -- a line has its place, and room for the block there
  pub line_has : (xs ys lines : List Contents) (line : Contents) (k : ℕ) →
      map (λ (l : Contents). l.room) lines ≡ sizes F j → xs ++ line ∷ ys ≡ lines → k ≡ length xs →
      (k < places F.roll j) × (size_of (at_place k) ≡ line.room)
  line_has xs ys lines line k rooms e here =
      let there : slice_get lines (length xs) ≡ Some line = ap (λ ls. slice_get ls (length xs))
      (sym e) ∙ at_next xs ys line in
      let room = slice_get_map (λ (l : Contents). l.room) lines (length xs) line there in
      let at = at_range (λ t. size_of (at_place t)) 0 (places F.roll j) (length xs) line.room
      (ap (λ ns. slice_get ns (length xs)) (sym (rooms ∙ sizes_are)) ∙ room) in (
        omega (arith, here, at.0),
        ap (λ t. size_of (at_place t)) (let z : k ≡ 0 + length xs = omega arith in z) ∙ at.1,
      )

  -- there are as many lines as places
  pub lines_fill : (lines : List Contents) → map (λ (l : Contents). l.room) lines ≡ sizes F j →
      length lines ≡ places F.roll j
  lines_fill lines rooms =
      sym (length-map lines (λ (l : Contents). l.room))
      ∙ (ap length (rooms ∙ sizes_are)
      ∙ (length-map (below (places F.roll j)) (λ t. size_of (at_place t))
      ∙ length-range_with_len 0 (places F.roll j)))

  pub count_lines : (ty : ElemType) →
      length (map (λ n. contents ty [] n) (sizes F j)) ≡ places F.roll j
  count_lines ty = length-map (sizes F j) (λ n. contents ty [] n)
      ∙ (ap length sizes_are
      ∙ (length-map (below (places F.roll j)) (λ t. size_of (at_place t))
      ∙ length-range_with_len 0 (places F.roll j)))

pub count_items : {X : Type 0} (f : ℕ → X) (n : ℕ) (xs : List X) → xs ≡ map f (below n) →
    length xs ≡ n
count_items f n xs e = ap length e ∙ (length-map (below n) f ∙ length-range_with_len 0 n)

pub some_place : (n k : ℕ) → n ≡ k → (n ≡ 0 → ⊥) → 0 < k
some_place zero k e h = absurd (h refl)
some_place (suc n) k e h = omega arith
