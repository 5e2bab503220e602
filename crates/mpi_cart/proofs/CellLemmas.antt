-- The row-major number of coordinates is their place in the list of all cells.
use Rattle.std.proofs.Common.{◌≡◌, ◌≢◌, ℕ, zero, suc, ◌+◌, ◌*◌, ◌/◌, ◌%◌, ◌<◌, ◌≤◌, List, [], ◌∷◌}
use Rattle.std.proofs.Common.{◌++◌, length, set, get_or, ◌∙◌, ap, sym, refl, arith, Bool, true}
use Rattle.std.proofs.Common.{false, ◌&&◌, cond, Option, Some, None, slice_get, map, flat_map}
use Rattle.std.proofs.Common.{unwrap_or, nat_eq, ⊎_elim, drop}
use Rattle.std.specs.List.{range_with_len}
use Rattle.std.proofs.lemmas.Bool.{eqb-true, eq-eqb, cases_Bool}
use Rattle.std.proofs.lemmas.Nat.{div-add-mod', div_below}
use Rattle.std.proofs.Math.Nat.{mul-le-mul_right}
use Rattle.mpi_cart.specs.Grids.{cells, volume, same_list}
use Rattle.mpi_cart.specs.Laws.{IsCell, row_major}

-- the coordinates of a rank, one after another
unfoldable pub digits : List ℕ → ℕ → List ℕ
digits [] r = []
digits (n ∷ dims) r = (r / volume dims) ∷ digits dims (r % volume dims)

abbrev pub one_later : Option ℕ → Option ℕ
one_later (Some k) = Some (1 + k)
one_later None = None

-- the first place that passes the test
abbrev pub place_of : {X : Type 0} → (X → Bool) → List X → Option ℕ
place_of test [] = None
place_of test (x ∷ xs) = cond (test x) (Some 0) (one_later (place_of test xs))

length-append' : {X : Type 0} (xs ys : List X) → length (xs ++ ys) ≡ length xs + length ys
length-append' [] ys = omega arith
length-append' (x ∷ xs) ys = omega (arith, length-append' xs ys)

get_before : {X : Type 0} (xs ys : List X) (i : ℕ) → i < length xs →
    slice_get (xs ++ ys) i ≡ slice_get xs i
get_before [] ys i h = absurd (omega arith)
get_before (x ∷ xs) ys zero h = refl
get_before (x ∷ xs) ys (suc i) h = get_before xs ys i (omega arith)

get_after : {X : Type 0} (xs ys : List X) (i k : ℕ) → i ≡ length xs + k →
    slice_get (xs ++ ys) i ≡ slice_get ys k
get_after [] ys i k e = ap (slice_get ys) (let z : i ≡ k = omega arith in z)
get_after (x ∷ xs) ys zero k e = absurd (omega arith)
get_after (x ∷ xs) ys (suc i) k e = get_after xs ys i k (omega arith)

length-map' : {X Y : Type 0} (f : X → Y) (xs : List X) → length (map f xs) ≡ length xs
length-map' f [] = refl
length-map' f (x ∷ xs) = ap suc (length-map' f xs)

get-map : {X Y : Type 0} (f : X → Y) (xs : List X) (i : ℕ) (x : X) → slice_get xs i ≡ Some x →
    slice_get (map f xs) i ≡ Some (f x)
get-map f [] i x e = absurd (cc)
get-map f (y ∷ ys) zero x e = (let same : y ≡ x = cc in ap (λ z. Some (f z)) same)
get-map f (y ∷ ys) (suc i) x e = get-map f ys i x e

module _ {X : Type 0} (f : ℕ → List X) (size : ℕ) (even : (c : ℕ) → length (f c) ≡ size) where
  length-rows : (a n : ℕ) → length (flat_map f (range_with_len a n)) ≡ n * size
  length-rows a zero = omega arith
  length-rows a (suc n) = length-append' (f a) (flat_map f (range_with_len (a + 1) n))
      ∙ (let rest = length-rows (a + 1) n in let first = even a in omega arith)

  -- element s of row q
  get-rows : (a n q s i : ℕ) → q < n → s < size → i ≡ q * size + s →
      slice_get (flat_map f (range_with_len a n)) i ≡ slice_get (f (a + q)) s
  get-rows a zero q s i h g e = absurd (omega arith)
  get-rows a (suc n) zero s i h g e = get_before (f a) (flat_map f (range_with_len (a + 1) n)) i
      (let first = even a in omega arith) ∙ (λ k. slice_get (f (same k)) (at k))
    where
      same : a ≡ a + 0
      same = omega arith

      at : i ≡ s
      at = omega arith
  get-rows a (suc n) (suc q) s i h g e =
      get_after (f a) (flat_map f (range_with_len (a + 1) n)) i (q * size + s)
      (let first = even a in omega arith)
      ∙ (get-rows (a + 1) n q s (q * size + s) (omega arith) g refl
      ∙ ap (λ c. slice_get (f c) s) (let z : a + 1 + q ≡ a + suc q = omega arith in z))

pub length-cells : (dims : List ℕ) → length (cells dims) ≡ volume dims
unfolding cells
length-cells [] = refl
length-cells (n ∷ dims) = length-rows (λ c. map (λ rest. c ∷ rest) (cells dims)) (volume dims)
    (λ c. length-map' (λ rest. c ∷ rest) (cells dims) ∙ length-cells dims) 0 n

pub positive : (n p r : ℕ) → r < n * p → 0 < p
positive n zero r h = absurd (omega arith)
positive n (suc p) r h = omega arith

-- the r-th cell has the digits of r
pub cell_has_digits : (dims : List ℕ) (r : ℕ) → r < volume dims →
    slice_get (cells dims) r ≡ Some (digits dims r)
unfolding cells digits
cell_has_digits [] zero h = refl
cell_has_digits [] (suc r) h = absurd (omega arith)
cell_has_digits (n ∷ dims) r h =
    let p : 0 < volume dims = positive n (volume dims) r h in
    let q : r / volume dims < n = div_below r (volume dims) n p h in
    let s : r % volume dims < volume dims = omega arith in
    get-rows (λ c. map (λ rest. c ∷ rest) (cells dims)) (volume dims)
    (λ c. length-map' (λ rest. c ∷ rest) (cells dims) ∙ length-cells dims) 0 n (r / volume dims)
    (r % volume dims) r q s (sym (div-add-mod' r (volume dims)))
    ∙ (get-map (λ rest. (0 + r / volume dims) ∷ rest) (cells dims) (r % volume dims)
    (digits dims (r % volume dims)) (cell_has_digits dims (r % volume dims) s)
    ∙ ap (λ c. Some (c ∷ digits dims (r % volume dims)))
    (let z : 0 + r / volume dims ≡ r / volume dims = omega arith in z))

-- the first place in one list and then another
abbrev place_then : Option ℕ → ℕ → Option ℕ → Option ℕ
place_then (Some k) n o = Some k
place_then None n (Some k) = Some (n + k)
place_then None n None = None

nothing_before : (o : Option ℕ) → o ≡ place_then None 0 o
nothing_before None = refl
nothing_before (Some k) = ap Some (omega arith)

one_before : (b : Bool) (o : Option ℕ) (n : ℕ) (u : Option ℕ) →
    cond b (Some 0) (one_later (place_then o n u))
    ≡ place_then (cond b (Some 0) (one_later o)) (suc n) u
one_before true o n u = refl
one_before false (Some k) n u = refl
one_before false None n (Some k) = ap Some (omega arith)
one_before false None n None = refl

module _ {X : Type 0} (test : X → Bool) where
  place_of-append : (xs ys : List X) →
      place_of test (xs ++ ys) ≡ place_then (place_of test xs) (length xs) (place_of test ys)
  place_of-append [] ys = nothing_before (place_of test ys)
  place_of-append (x ∷ xs) ys = ap (λ o. cond (test x) (Some 0) (one_later o))
      (place_of-append xs ys)
      ∙ one_before (test x) (place_of test xs) (length xs) (place_of test ys)

  place_none : (xs : List X) → ((x : X) → test x ≡ false) → place_of test xs ≡ None
  place_none [] h = refl
  place_none (x ∷ xs) h = λ i. cond (h x i) (Some 0) (one_later (place_none xs h i))

  place_of-map : {Y : Type 0} (g : Y → X) (ys : List Y) →
      place_of test (map g ys) ≡ place_of (λ y. test (g y)) ys
  place_of-map g [] = refl
  place_of-map g (y ∷ ys) = ap (λ o. cond (test (g y)) (Some 0) (one_later o)) (place_of-map g ys)

  module _ (f : ℕ → List X) (size : ℕ) (even : (c : ℕ) → length (f c) ≡ size) where
    -- where row q alone has an element that passes
    place_of-rows : (a n q k : ℕ) → q < n → ((c : ℕ) → c ≢ a + q → place_of test (f c) ≡ None) →
        place_of test (f (a + q)) ≡ Some k →
        place_of test (flat_map f (range_with_len a n)) ≡ Some (q * size + k)
    place_of-rows a zero q k h none_at e = absurd (omega arith)
    place_of-rows a (suc n) zero k h none_at e =
        place_of-append (f a) (flat_map f (range_with_len (a + 1) n))
        ∙ ((λ i. place_then
        ((ap (λ c. place_of test (f c)) (let z : a ≡ a + 0 = omega arith in z) ∙ e) i)
        (length (f a)) (place_of test (flat_map f (range_with_len (a + 1) n))))
        ∙ ap Some (let z : k ≡ 0 * size + k = omega arith in z))
    place_of-rows a (suc n) (suc q) k h none_at e =
        place_of-append (f a) (flat_map f (range_with_len (a + 1) n))
        ∙ ((λ i. place_then (none_at a (λ z. omega arith) i) (even a i)
        (place_of-rows (a + 1) n q k (omega arith) (λ c ne. none_at c (λ z. ne (omega arith)))
        (ap (λ c. place_of test (f c)) (let z : a + 1 + q ≡ a + suc q = omega arith in z)
        ∙ e) i))
        ∙ ap Some (let z : size + (q * size + k) ≡ suc q * size + k = omega arith in z))

differs : (a b : ℕ) → a ≢ b → nat_eq a b ≡ false
differs a b ne = ⊎_elim (λ t. absurd (ne (eqb-true a b t))) (λ t. t) (cases_Bool (nat_eq a b))

-- coordinates stand in the list of cells at their row-major number
pub place_of-cell : (dims cs : List ℕ) → IsCell dims cs →
    place_of (λ cell. same_list cell cs) (cells dims) ≡ Some (row_major dims cs)
unfolding cells row_major
place_of-cell [] [] h = refl
place_of-cell [] (c ∷ cs) h = absurd h
place_of-cell (n ∷ dims) [] h = absurd h
place_of-cell (n ∷ dims) (c ∷ cs) h =
    place_of-rows (λ cell. same_list cell (c ∷ cs)) (λ k. map (λ rest. k ∷ rest) (cells dims))
    (volume dims) (λ k. length-map' (λ rest. k ∷ rest) (cells dims) ∙ length-cells dims) 0 n c
    (row_major dims cs) h.0
    (λ k ne. place_of-map (λ cell. same_list cell (c ∷ cs)) (λ rest. k ∷ rest) (cells dims)
    ∙ place_none (λ rest. nat_eq k c && same_list rest cs) (cells dims)
    (λ rest. ap (λ b. b && same_list rest cs) (differs k c (λ z. ne (omega arith)))))
    (place_of-map (λ cell. same_list cell (c ∷ cs)) (λ rest. (0 + c) ∷ rest) (cells dims)
    ∙ ((λ i. place_of (λ rest. eq-eqb (0 + c) c (let z : 0 + c ≡ c = omega arith in z) i
    && same_list rest cs) (cells dims)) ∙ place_of-cell dims cs h.1))

pub digits_in_range : (dims : List ℕ) (r : ℕ) → r < volume dims → IsCell dims (digits dims r)
unfolding digits
digits_in_range [] r h = tt
digits_in_range (n ∷ dims) r h =
    let p : 0 < volume dims = positive n (volume dims) r h in
    (div_below r (volume dims) n p h, digits_in_range dims (r % volume dims) (omega arith))

pub set_in_range : (dims cs : List ℕ) (d m n : ℕ) → IsCell dims cs → slice_get dims d ≡ Some n →
    m < n → IsCell dims (set cs d m)
set_in_range [] [] d m n h e g = tt
set_in_range [] (c ∷ cs) d m n h e g = absurd h
set_in_range (k ∷ dims) [] d m n h e g = absurd h
set_in_range (k ∷ dims) (c ∷ cs) zero m n h e g = (let same : k ≡ n = cc in (omega arith, h.1))
set_in_range (k ∷ dims) (c ∷ cs) (suc d) m n h e g = (h.0, set_in_range dims cs d m n h.1 e g)

pub row_major-digits : (dims : List ℕ) (r : ℕ) → r < volume dims →
    row_major dims (digits dims r) ≡ r
unfolding row_major digits
row_major-digits [] r h = omega arith
row_major-digits (n ∷ dims) r h =
    let p : 0 < volume dims = positive n (volume dims) r h in
    let rest = row_major-digits dims (r % volume dims) (omega arith) in
    ap (λ k. r / volume dims * volume dims + k) rest ∙ div-add-mod' r (volume dims)

-- a step in one dimension changes the number by the stride
pub row_major-set : (dims : List ℕ) (r d m c : ℕ) → r < volume dims →
    slice_get (digits dims r) d ≡ Some c →
    row_major dims (set (digits dims r) d m) + c * volume (drop (suc d) dims)
    ≡ r + m * volume (drop (suc d) dims)
unfolding row_major digits
row_major-set [] r d m c h e = absurd (cc)
row_major-set (n ∷ dims) r zero m c h e =
    let p : 0 < volume dims = positive n (volume dims) r h in
    let rest = row_major-digits dims (r % volume dims) (omega arith) in
    let whole = div-add-mod' r (volume dims) in
    let same : r / volume dims ≡ c = cc in
    let here : c * volume dims ≡ r / volume dims * volume dims = ap (λ k. k * volume dims)
    (sym same) in
    omega arith
row_major-set (n ∷ dims) r (suc d) m c h e =
    let p : 0 < volume dims = positive n (volume dims) r h in
    let rest = row_major-set dims (r % volume dims) d m c (omega arith) e in
    let whole = div-add-mod' r (volume dims) in
    omega arith

pub row_major_below : (dims cs : List ℕ) → IsCell dims cs → row_major dims cs < volume dims
unfolding row_major
row_major_below [] [] h = omega arith
row_major_below [] (c ∷ cs) h = absurd h
row_major_below (n ∷ dims) [] h = absurd h
row_major_below (n ∷ dims) (c ∷ cs) h =
    let rest = row_major_below dims cs h.1 in
    let rows : (c + 1) * volume dims ≤ n * volume dims = mul-le-mul_right (volume dims)
    (omega arith) in
    omega arith

pub in_range_at : (dims cs : List ℕ) (d c : ℕ) → IsCell dims cs → slice_get cs d ≡ Some c →
    c < get_or dims d 0
in_range_at [] [] d c h e = absurd (cc)
in_range_at [] (k ∷ cs) d c h e = absurd h
in_range_at (n ∷ dims) [] d c h e = absurd h
in_range_at (n ∷ dims) (k ∷ cs) zero c h e = (let same : k ≡ c = cc in omega (arith, h.0))
in_range_at (n ∷ dims) (k ∷ cs) (suc d) c h e = in_range_at dims cs d c h.1 e

pub digit_of : (dims : List ℕ) (r d c : ℕ) → r < volume dims →
    slice_get (unwrap_or (slice_get (cells dims) r) []) d ≡ Some c →
    slice_get (digits dims r) d ≡ Some c
digit_of dims r d c h e =
    ap (λ o. slice_get (unwrap_or o []) d) (sym (cell_has_digits dims r h)) ∙ e
