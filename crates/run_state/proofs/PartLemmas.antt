-- The parts of a grid: lists of ranks, each as long as the grid of the dimensions kept has cells.
use Rattle.std.proofs.Common.{◌≡◌, ◌≢◌, ℕ, zero, suc, ◌+◌, ◌*◌, ◌<◌, ◌≤◌, List, [], ◌∷◌, ◌++◌}
use Rattle.std.proofs.Common.{length, refl, sym, ap, ◌∙◌, subst, arith, Bool, true, false, not}
use Rattle.std.proofs.Common.{◌&&◌, Some, slice_get, map, cond, eq-eqb, ne_eqb, take, get_or, ◌%◌}
use Rattle.std.specs.Prelude.{◌==◌, nat_lt, filter, flat_map, unwrap_or}
use Rattle.std.specs.List.{list_all, range_with_len, items_where_true}
use Rattle.std.proofs.lemmas.Bool.{cond-true, cond-false, and_from, and_parts, and_left}
use Rattle.std.proofs.lemmas.Bool.{lt-ltb}
use Rattle.std.proofs.lemmas.Option.{slice_get_within}
use Rattle.std.proofs.lemmas.List.{append-nil, map-append, length-map}
use Rattle.std.proofs.lemmas.List.FromFn.{length-range_with_len}
use Rattle.std.proofs.lemmas.List.Elements.{filter-append}
use Rattle.mpi_group.specs.Groups.{is_distinct, are_ranks}
use Rattle.mpi_group.proofs.MpiGroupLemmas.{is_distinct-filter}
use Rattle.mpi_comm.specs.Comms.{is_subgroup}
use Rattle.mpi_cart.specs.Grids.{Topology, volume, below, cells, coords, same_list, dropped, kept}
use Rattle.mpi_cart.specs.Laws.{IsCell}
use Rattle.mpi_cart.proofs.MpiCartLemmas.{length-cells, cell_has_digits, digits, digits_in_range}
use Rattle.run_model.specs.Comms.{grid_parts, ranks_apart}
use Rattle.run_model.proofs.RunModelLemmas.{length_ranks_apart}
use Rattle.run_state.specs.Parts.{apart_of}
use Rattle.run_state.proofs.BelowLemmas.{map_more}
use Rattle.mpi_cart.proofs.MpiCartLemmas.{below_more}
use Rattle.coll_values.proofs.CollValuesLemmas.{map_map}
use Rattle.mpi_comm.proofs.MpiCommLemmas.{is_distinct-range_with_len}

-- ## the numbers below one are a subgroup

pub distinct_below : (n : ℕ) → is_distinct (below n) ≡ true
distinct_below n = is_distinct-range_with_len 0 n

ranks_in_range : (size a n : ℕ) → a + n ≤ size → are_ranks size (range_with_len a n) ≡ true
ranks_in_range size a zero le = refl
ranks_in_range size a (suc n) le = and_from (nat_lt a size)
    (are_ranks size (range_with_len (a + 1) n)) (lt-ltb a size (omega (arith, le)))
    (ranks_in_range size (a + 1) n (omega (arith, le)))

pub lowest_subgroup : (size n : ℕ) → n ≤ size → is_subgroup size (below n) ≡ true
lowest_subgroup size n le = and_from (are_ranks size (below n)) (is_distinct (below n))
    (ranks_in_range size 0 n (omega (arith, le))) (distinct_below n)

all_filter : {A : Type 0} (test keep : A → Bool) (xs : List A) → list_all test xs ≡ true →
    list_all test (filter keep xs) ≡ true
all_filter test keep [] h = refl
all_filter test keep (x ∷ xs) h =
    let parts = and_parts (test x) (list_all test xs) h in
    by (keep x) parts.0 (all_filter test keep xs parts.1)
  where
    by : (b : Bool) → test x ≡ true → list_all test (filter keep xs) ≡ true →
        list_all test (cond b (x ∷ filter keep xs) (filter keep xs)) ≡ true
    by true own rest = and_from (test x) (list_all test (filter keep xs)) own rest
    by false own rest = rest

pub some_subgroup : (size n : ℕ) (keep : ℕ → Bool) → n ≤ size →
    is_subgroup size (filter keep (below n)) ≡ true
some_subgroup size n keep le =
    and_from (are_ranks size (filter keep (below n))) (is_distinct (filter keep (below n)))
    (all_filter (λ rank. nat_lt rank size) keep (below n)
    (ranks_in_range size 0 n (omega (arith, le))))
    (is_distinct-filter keep (below n) (distinct_below n))

pub parts_subgroups : (g : Topology) (keep : List Bool) (size : ℕ) → volume g.dims ≤ size →
    list_all (is_subgroup size) (grid_parts g keep) ≡ true
parts_subgroups g keep size le = all (cells (dropped keep g.dims))
  where
    all : (values : List (List ℕ)) →
        list_all (is_subgroup size) (map (λ apart. ranks_apart g keep apart) values) ≡ true
    all [] = refl
    all (v ∷ values) = and_from (is_subgroup size (ranks_apart g keep v))
        (list_all (is_subgroup size) (map (λ apart. ranks_apart g keep apart) values))
        (some_subgroup size (volume g.dims) (λ r. same_list (dropped keep (coords g r)) v) le)
        (all values)

-- ## how many ranks a part has

-- each value of the coordinates apart is a cell
all_cells : (test : List ℕ → Bool) (dims : List ℕ) →
    ((cs : List ℕ) → IsCell dims cs → test cs ≡ true) → list_all test (cells dims) ≡ true
all_cells test dims each = all (cells dims) (λ k cs at. each cs (cell k cs at))
  where
    cell : (k : ℕ) (cs : List ℕ) → slice_get (cells dims) k ≡ Some cs → IsCell dims cs
    cell k cs at =
        let lt : k < volume dims = subst (λ n. k < n) (length-cells dims)
        (slice_get_within (cells dims) k cs at) in
        let same : Some (digits dims k) ≡ Some cs = sym (cell_has_digits dims k lt) ∙ at in
        let is : digits dims k ≡ cs = cc in
        subst (IsCell dims) is (digits_in_range dims k lt)

    all : (xs : List (List ℕ)) →
        ((k : ℕ) (cs : List ℕ) → slice_get xs k ≡ Some cs → test cs ≡ true) →
        list_all test xs ≡ true
    all [] h = refl
    all (x ∷ xs) h =
        and_from (test x) (list_all test xs) (h 0 x refl) (all xs (λ k cs at. h (suc k) cs at))

all_map : {A B : Type 0} (test : B → Bool) (f : A → B) (xs : List A) →
    list_all (λ x. test (f x)) xs ≡ true → list_all test (map f xs) ≡ true
all_map test f [] h = refl
all_map test f (x ∷ xs) h = (let parts = and_parts (test (f x)) (list_all (λ z. test (f z)) xs) h in
    and_from (test (f x)) (list_all test (map f xs)) parts.0 (all_map test f xs parts.1))

pub part_sizes : (g : Topology) (keep : List Bool) → length keep ≡ length g.dims →
    list_all (λ list. length list == volume (kept keep g).dims) (grid_parts g keep) ≡ true
part_sizes g keep e =
    all_map (λ list. length list == volume (kept keep g).dims) (λ apart. ranks_apart g keep apart)
    (cells (dropped keep g.dims))
    (all_cells (λ apart. length (ranks_apart g keep apart) == volume (kept keep g).dims)
    (dropped keep g.dims) (λ cs is. eq-eqb (length (ranks_apart g keep cs))
    (volume (kept keep g).dims) (length_ranks_apart g keep cs e is)))

-- ## coordinates, one after another

pub take_next : {A : Type 0} (xs : List A) (k : ℕ) (x : A) → slice_get xs k ≡ Some x →
    take (k + 1) xs ≡ take k xs ++ x ∷ []
take_next [] k x at = absurd (cc)
take_next (y ∷ xs) zero x at = ap (λ z. z ∷ []) (let is : y ≡ x = cc in is)
take_next (y ∷ xs) (suc k) x at = ap (λ n. take n (y ∷ xs))
    (let z : suc k + 1 ≡ suc (k + 1) = omega arith in z)
    ∙ ap (λ zs. y ∷ zs) (take_next xs k x at)

take_whole : {A : Type 0} (xs : List A) (n : ℕ) → length xs ≤ n → take n xs ≡ xs
take_whole [] zero h = refl
take_whole [] (suc n) h = refl
take_whole (x ∷ xs) zero h = absurd (omega (arith, h))
take_whole (x ∷ xs) (suc n) h = ap (λ zs. x ∷ zs) (take_whole xs n (omega (arith, h)))

digits_length : (dims : List ℕ) (r : ℕ) → length (digits dims r) ≡ length dims
unfolding digits
digits_length [] r = refl
digits_length (n ∷ dims) r = ap suc (digits_length dims (r % volume dims))

pub coords_length : (g : Topology) (r : ℕ) → r < volume g.dims → length (coords g r) ≡ length g.dims
coords_length g r lt =
    ap (λ o. length (unwrap_or o [])) (cell_has_digits g.dims r lt) ∙ digits_length g.dims r

pub all_coords : (g : Topology) (r n : ℕ) → r < volume g.dims → length g.dims ≤ n →
    take n (coords g r) ≡ coords g r
all_coords g r n lt le =
    take_whole (coords g r) n (let e = coords_length g r lt in omega (arith, le, e))

-- ## those of the numbers below one that pass a test

filter_takes : (test : ℕ → Bool) (n : ℕ) → test n ≡ true →
    filter test (below (n + 1)) ≡ filter test (below n) ++ n ∷ []
filter_takes test n t = ap (λ xs. filter test xs) (below_more n)
    ∙ (filter-append test (below n) (n ∷ [])
    ∙ ap (λ xs. filter test (below n) ++ xs) (cond-true (test n) (n ∷ []) [] t))

filter_leaves : (test : ℕ → Bool) (n : ℕ) → test n ≡ false →
    filter test (below (n + 1)) ≡ filter test (below n)
filter_leaves test n f = ap (λ xs. filter test xs) (below_more n)
    ∙ (filter-append test (below n) (n ∷ [])
    ∙ (ap (λ xs. filter test (below n) ++ xs) (cond-false (test n) (n ∷ []) [] f)
    ∙ append-nil (filter test (below n))))

filter_range : (test other : ℕ → Bool) (a n : ℕ) →
    ((k : ℕ) → k < n → test (a + k) ≡ other (a + k)) →
    filter test (range_with_len a n) ≡ filter other (range_with_len a n)
filter_range test other a zero same = refl
filter_range test other a (suc n) same =
    by (test a) (other a) (subst (λ m. test m ≡ other m) (let z : a + 0 ≡ a = omega arith in z)
    (same 0 (omega arith)))
    (filter_range test other (a + 1) n (λ k lt. subst (λ m. test m ≡ other m)
    (let z : a + suc k ≡ (a + 1) + k = omega arith in z)
    (same (suc k) (omega (arith, lt)))))
  where
    by : (b d : Bool) → b ≡ d →
        filter test (range_with_len (a + 1) n) ≡ filter other (range_with_len (a + 1) n) →
        cond b (a ∷ filter test (range_with_len (a + 1) n)) (filter test (range_with_len (a + 1) n))
        ≡ cond d (a ∷ filter other (range_with_len (a + 1) n))
        (filter other (range_with_len (a + 1) n))
    by true true e rest = ap (λ xs. a ∷ xs) rest
    by false false e rest = rest
    by true false e rest = absurd (cc)
    by false true e rest = absurd (cc)

filter_alike : (test other : ℕ → Bool) (n : ℕ) → ((k : ℕ) → k < n → test k ≡ other k) →
    filter test (below n) ≡ filter other (below n)
filter_alike test other n same = filter_range test other 0 n
    (λ k lt. subst (λ m. test m ≡ other m) (let z : k ≡ 0 + k = omega arith in z) (same k lt))

-- ## a table by numbers

get_range : {A : Type 0} (f : ℕ → A) (a n k : ℕ) → k < n →
    slice_get (map f (range_with_len a n)) k ≡ Some (f (a + k))
get_range f a zero k lt = absurd (omega (arith, lt))
get_range f a (suc n) zero lt = ap (λ m. Some (f m)) (let z : a ≡ a + 0 = omega arith in z)
get_range f a (suc n) (suc k) lt = get_range f (a + 1) n k (omega (arith, lt))
    ∙ ap (λ m. Some (f m)) (let z : (a + 1) + k ≡ a + suc k = omega arith in z)

get_below : {A : Type 0} (f : ℕ → A) (n k : ℕ) → k < n → slice_get (map f (below n)) k ≡ Some (f k)
get_below f n k lt =
    get_range f 0 n k lt ∙ ap (λ m. Some (f m)) (let z : 0 + k ≡ k = omega arith in z)

-- the ranks whose coordinates apart are these, by a table of the coordinates apart of all
pub ranks_by_table :
    (g : Topology) (keep gone : List Bool) (each : List (List ℕ)) (size : ℕ) (value : List ℕ) →
    gone ≡ map not keep → size ≡ volume g.dims →
    each ≡ map (apart_of g gone) (below (volume g.dims)) →
    filter (λ r. same_list (unwrap_or (slice_get each r) []) value) (below size)
    ≡ ranks_apart g keep value
ranks_by_table g keep gone each size value others sized table =
    ap (λ n. filter (λ r. same_list (unwrap_or (slice_get each r) []) value) (below n)) sized
    ∙ filter_alike (λ r. same_list (unwrap_or (slice_get each r) []) value)
    (λ r. same_list (dropped keep (coords g r)) value) (volume g.dims)
    (λ r lt. ap (λ o. same_list (unwrap_or o []) value)
    (ap (λ xs. slice_get xs r) table ∙ get_below (apart_of g gone) (volume g.dims) r lt)
    ∙ ap (λ bs. same_list (items_where_true bs (coords g r)) value) others)

-- the list by its places
places_range : {A : Type 0} (xs : List A) (f : ℕ → A) (a : ℕ) →
    ((k : ℕ) (x : A) → slice_get xs k ≡ Some x → f (a + k) ≡ x) →
    map f (range_with_len a (length xs)) ≡ xs
places_range [] f a at = refl
places_range (x ∷ xs) f a at =
    λ i. (ap f (let z : a ≡ a + 0 = omega arith in z) ∙ at 0 x refl) i
    ∷ places_range xs f (a + 1)
    (λ k y e. ap f (let z : (a + 1) + k ≡ a + suc k = omega arith in z) ∙ at (suc k) y e) i

-- the parts of a grid, by the ranks of the grid of the dimensions that are not kept
pub parts_by_rank : (g : Topology) (keep : List Bool) (apart : Topology) →
    apart.dims ≡ dropped keep g.dims →
    map (λ r. ranks_apart g keep (coords apart r)) (below (volume apart.dims)) ≡ grid_parts g keep
parts_by_rank g keep apart dims =
    sym (map_map (ranks_apart g keep) (coords apart) (below (volume apart.dims)))
    ∙ ap (λ values. map (ranks_apart g keep) values)
    (ap (λ n. map (coords apart) (below n)) (sym (length-cells apart.dims))
    ∙ (places_range (cells apart.dims) (coords apart) 0 (λ k x at.
    ap (coords apart) (let z : 0 + k ≡ k = omega arith in z) ∙ ap (λ o. unwrap_or o []) at)
    ∙ ap cells dims))

-- ## steps of loops

-- what is read does not depend on the default
pub read_again : (xs : List ℕ) (k x : ℕ) → k < length xs → get_or xs k 0 ≡ get_or xs k x
read_again [] k x lt = absurd (omega (arith, lt))
read_again (y ∷ xs) zero x lt = refl
read_again (y ∷ xs) (suc k) x lt = read_again xs k x (omega (arith, lt))

pub read_map : {A B : Type 0} (f : A → B) (xs : List A) (k : ℕ) (x : A) → k < length xs →
    x ≡ get_or xs k x → slice_get (map f xs) k ≡ Some (f x)
read_map f [] k x lt e = absurd (omega (arith, lt))
read_map f (y ∷ xs) zero x lt e = ap (λ z. Some (f z)) (sym e)
read_map f (y ∷ xs) (suc k) x lt e = read_map f xs k x (omega (arith, lt)) e

-- one more of a table by numbers
pub table_next : {A B : Type 0} (f : A → B) (h : ℕ → B) (n : ℕ) (xs now : List A) (x : A) →
    map f xs ≡ map h (below n) → f x ≡ h n → now ≡ xs ++ x ∷ [] → map f now ≡ map h (below (n + 1))
table_next f h n xs now x before same more =
    ap (λ ys. map f ys) more ∙ (map-append f xs (x ∷ [])
    ∙ ((λ i. before i ++ same i ∷ []) ∙ sym (map_more h n)))

-- one more number that passes, and one that does not
pub filter_next : (test : ℕ → Bool) (n : ℕ) (made now : List ℕ) → test n ≡ true →
    made ≡ filter test (below n) → now ≡ made ++ n ∷ [] → now ≡ filter test (below (n + 1))
filter_next test n made now t before more =
    more ∙ (ap (λ xs. xs ++ n ∷ []) before ∙ sym (filter_takes test n t))

pub filter_past : (test : ℕ → Bool) (n : ℕ) (made now : List ℕ) → test n ≡ false →
    made ≡ filter test (below n) → now ≡ made → now ≡ filter test (below (n + 1))
filter_past test n made now f before same = same ∙ (before ∙ sym (filter_leaves test n f))

-- a table of so many
pub table_length : {A B : Type 0} (f : A → B) (h : ℕ → B) (n : ℕ) (xs : List A) →
    map f xs ≡ map h (below n) → length xs ≡ n
table_length f h n xs e =
    sym (length-map xs f)
    ∙ (ap length e ∙ (length-map (below n) h ∙ length-range_with_len 0 n))

pub table_same : {A B : Type 0} (f : A → B) (h : ℕ → B) (n : ℕ) (xs ys : List A) → ys ≡ xs →
    map f xs ≡ map h (below n) → map f ys ≡ map h (below n)
table_same f h n xs ys same e = ap (λ zs. map f zs) same ∙ e
