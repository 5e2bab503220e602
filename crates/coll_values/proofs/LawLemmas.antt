-- What holds of all values.
use Rattle.std.proofs.Common.{◌≡◌, ℕ, zero, suc, ◌+◌, ◌<◌, List, ◌∷◌, ◌++◌, length, ◌∙◌, ap}
use Rattle.std.proofs.Common.{refl, arith, Bool, true, false, cond, Option, Some, None, slice_get}
use Rattle.std.proofs.Common.{map, fold, max, filter, filter_map, flat_map}
use Rattle.std.proofs.lemmas.List.FromFn.{length-range_with_len}
use Rattle.std.specs.List.{range_with_len, cons_option}
use Rattle.std.proofs.lemmas.List.{length-map}
use Rattle.wall_labels.specs.declared.op.Op.{Op}
use Rattle.mpi_elems.specs.Elements.{combine, folded}
use Rattle.mpi_elems.specs.Contents.{Contents}
use Rattle.mpi_cart.specs.Grids.{below}
use Rattle.coll_routes.specs.declared.roll.Roll.{Roll}
use Rattle.coll_routes.specs.Signatures.{reduction}
use Rattle.coll_routes.specs.Rolls.{given, goes, places, is_missing}
use Rattle.coll_routes.specs.Faults.{stated_type}
use Rattle.coll_routes.specs.Laws.{RoutesAreJourneys}
use Rattle.coll_values.specs.declared.full.Full.{Full}
use Rattle.coll_values.specs.Instances.{element}
use Rattle.coll_values.specs.Values.{sent, Sendings, copied, breadth, folded_at, reduced, block_by}
use Rattle.coll_values.specs.Values.{block_of, blocks, value}
use Rattle.coll_values.specs.Laws.{AgreeOnRouted, ValuesAreOfRoutedElements, ValuesAreOfRoutedRanks}
use Rattle.coll_values.specs.Laws.{ValuesFillPlaces, MergedRowsAreFolds}
use Rattle.coll_values.proofs.FoldLemmas.{merged_rows}

-- ## functions that agree on a range

pub map_same : {X : Type 0} (f g : ℕ → X) (a n : ℕ) → ((k : ℕ) → k < a + n → f k ≡ g k) →
    map f (range_with_len a n) ≡ map g (range_with_len a n)
map_same f g a zero h = refl
map_same f g a (suc n) h =
    λ i. h a (omega arith) i ∷ map_same f g (a + 1) n (λ k low. h k (omega arith)) i

flat_map_same : {X : Type 0} (f g : ℕ → List X) (a n : ℕ) → ((k : ℕ) → k < a + n → f k ≡ g k) →
    flat_map f (range_with_len a n) ≡ flat_map g (range_with_len a n)
flat_map_same f g a zero h = refl
flat_map_same f g a (suc n) h =
    λ i. h a (omega arith) i ++ flat_map_same f g (a + 1) n (λ k low. h k (omega arith)) i

pub filter_map_same : {X : Type 0} (f g : ℕ → Option X) (a n : ℕ) →
    ((k : ℕ) → k < a + n → f k ≡ g k) →
    filter_map f (range_with_len a n) ≡ filter_map g (range_with_len a n)
filter_map_same f g a zero h = refl
filter_map_same f g a (suc n) h = λ i.
    cons_option (h a (omega arith) i) (filter_map_same f g (a + 1) n (λ k low. h k (omega arith)) i)

-- two functions that agree where a test holds
filtered_same : {X : Type 0} (test : ℕ → Bool) (f g : ℕ → Option X) (a n : ℕ) →
    ((k : ℕ) → k < a + n → test k ≡ true → f k ≡ g k) →
    filter_map f (filter test (range_with_len a n))
    ≡ filter_map g (filter test (range_with_len a n))
filtered_same test f g a zero h = refl
filtered_same test f g a (suc n) h = go (test a) (λ t. h a (omega arith) t)
    (filtered_same test f g (a + 1) n (λ k low. h k (omega arith)))
  where
    go : (b : Bool) → (b ≡ true → f a ≡ g a) →
        filter_map f (filter test (range_with_len (a + 1) n))
        ≡ filter_map g (filter test (range_with_len (a + 1) n)) →
        filter_map f (cond b (a ∷ filter test (range_with_len (a + 1) n))
        (filter test (range_with_len (a + 1) n)))
        ≡ filter_map g (cond b (a ∷ filter test (range_with_len (a + 1) n))
        (filter test (range_with_len (a + 1) n)))
    go true here rest = λ i. cons_option (here refl i) (rest i)
    go false here rest = rest

-- ## the value is of what is sent

module _ (roll : Roll) (s r : Sendings) (same : (i t : ℕ) → i < roll.shape.size → s i t ≡ r i t)
  where
    copied_same : (t : ℕ) → copied roll s t ≡ copied roll r t
    copied_same t =
        flat_map_same (λ i. s i t) (λ i. r i t) 0 roll.shape.size (λ i low. same i t (omega arith))

    breadth_same : breadth roll s ≡ breadth roll r
    breadth_same = ap (fold max 0) (map_same (λ i. length (s i 0)) (λ i. length (r i 0)) 0
        roll.shape.size (λ i low. ap length (same i 0 (omega arith))))

    folded_same : (op : Op) (y : ℕ) → folded_at op roll s y ≡ folded_at op roll r y
    unfolding folded_at
    folded_same op y = ap (folded op (stated_type roll.sig)) (filter_map_same
        (λ i. slice_get (s i 0) y) (λ i. slice_get (r i 0) y) 0 roll.shape.size
        (λ i low. ap (λ xs. slice_get xs y) (same i 0 (omega arith))))

    reduced_same : (op : Op) → reduced op roll s ≡ reduced op roll r
    reduced_same op = λ i. filter_map (λ y. folded_same op y i) (below (breadth_same i))

    missing_or : (b : Bool) (t : ℕ) →
        cond b None (Some (copied roll s t)) ≡ cond b None (Some (copied roll r t))
    missing_or true t = refl
    missing_or false t = ap (λ es. Some es) (copied_same t)

    block_same : (o : Option Op) (j t : ℕ) → block_by o roll s j t ≡ block_by o roll r j t
    block_same (Some op) j t = ap (λ es. Some es) (reduced_same op)
    block_same None j t = missing_or (is_missing roll j t) t

    blocks_same : (o : Option Op) (j n : ℕ) →
        map (block_by o roll s j) (below n) ≡ map (block_by o roll r j) (below n)
    blocks_same o j n =
        map_same (block_by o roll s j) (block_by o roll r j) 0 n (λ t low. block_same o j t)

sent_same : (F G : Full Contents) (i j t : ℕ) → F.roll ≡ G.roll →
    ((x : ℕ) → x < given F.roll i → goes F.roll i x j t ≡ true → element F i x ≡ element G i x) →
    sent F i j t ≡ sent G i j t
unfolding sent
sent_same F G i j t one same =
    filtered_same (λ x. goes F.roll i x j t) (element F i) (element G i) 0 (given F.roll i)
    (λ x low g. same x (omega arith) g)
    ∙ ap (λ (r : Roll). filter_map (element G i) (filter (λ x. goes r i x j t) (below (given r i))))
    one

pub values_are_of_routed_elements : ValuesAreOfRoutedElements
unfolding value blocks
values_are_of_routed_elements F G j agree =
    ap (map block_of) (
    blocks_same F.roll (λ i t. sent F i j t) (λ i t. sent G i j t)
    (λ i t low. sent_same F G i j t agree.roll (λ x less g. agree.elements i x t low less g))
    (reduction F.roll.sig) j (places F.roll j)
    ∙ ap (λ (r : Roll).
    map (block_by (reduction r.sig) r (λ i t. sent G i j t) j) (below (places r j)))
    agree.roll)

module _ (routes : RoutesAreJourneys) (F G : Full Contents) (j : ℕ) (agree : AgreeOnRouted F G j)
  where
    routed_element : (i x t : ℕ) → i < F.roll.shape.size → x < given F.roll i →
        goes F.roll i x j t ≡ true → element F i x ≡ element G i x
    routed_element i x t low less g =
        ap (λ xs. slice_get xs x) (agree.parts i low ((routes F.roll i j low).1 (x, t, less, g)))

pub values_are_of_routed_ranks : RoutesAreJourneys → ValuesAreOfRoutedRanks
values_are_of_routed_ranks routes F G j agree = values_are_of_routed_elements F G j
    (record { roll = agree.roll; elements = routed_element routes F G j agree })

pub values_fill_places : ValuesFillPlaces
unfolding value blocks
values_fill_places F j = length-map _ block_of
    ∙ (length-map (below (places F.roll j)) _ ∙ length-range_with_len 0 (places F.roll j))

pub merged_rows_are_folds : MergedRowsAreFolds
merged_rows_are_folds op ty rows y = merged_rows (combine op ty) rows y
