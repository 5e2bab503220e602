-- Each communicator has as many members as its grid has places, and no member twice.
use Rattle.std.proofs.Common.{◌≡◌, ◌≢◌, ℕ, zero, suc, ◌+◌, ◌*◌, ◌<◌, ◌≤◌, List, [], ◌∷◌, ◌++◌}
use Rattle.std.proofs.Common.{length, map, refl, sym, ap, ◌∙◌, arith, ⊎_elim, Bool, true, false}
use Rattle.std.proofs.Common.{◌&&◌, slice_get, flat_map, unwrap_or, eqb-true, eq-eqb, ne_eqb}
use Rattle.std.specs.Prelude.{filter, ◌==◌}
use Rattle.std.specs.List.{range_with_len, items_where_true}
use Rattle.std.proofs.lemmas.Bool.{cases_Bool, cond-true, cond-false, false≢true}
use Rattle.mpi_cart.specs.Grids.{Topology, cells, coords, volume, below, same_list, dropped}
use Rattle.mpi_cart.specs.Laws.{IsCell}
use Rattle.mpi_cart.proofs.MpiCartLemmas.{length-cells}
use Rattle.run_model.specs.Comms.{ranks_apart}

---- How many cells agree in the dimensions that are dropped.

length_filter-append : {X : Type 0} (p : X → Bool) (xs ys : List X) →
    length (filter p (xs ++ ys)) ≡ length (filter p xs) + length (filter p ys)
length_filter-append p [] ys = omega arith
length_filter-append p (x ∷ xs) ys = ⊎_elim
    (λ t. ap length (cond-true (p x) (x ∷ filter p (xs ++ ys)) (filter p (xs ++ ys)) t)
    ∙ (let rest = length_filter-append p xs ys in
    let one = ap length (cond-true (p x) (x ∷ filter p xs) (filter p xs) t) in
    omega arith))
    (λ f. ap length (cond-false (p x) (x ∷ filter p (xs ++ ys)) (filter p (xs ++ ys)) f)
    ∙ (let rest = length_filter-append p xs ys in
    let one = ap length (cond-false (p x) (x ∷ filter p xs) (filter p xs) f) in
    omega arith))
    (cases_Bool (p x))

length_filter-map : {X Y : Type 0} (p : Y → Bool) (f : X → Y) (xs : List X) →
    length (filter p (map f xs)) ≡ length (filter (λ x. p (f x)) xs)
length_filter-map p f [] = refl
length_filter-map p f (x ∷ xs) = ⊎_elim
    (λ t. ap length (cond-true (p (f x)) (f x ∷ filter p (map f xs)) (filter p (map f xs)) t)
    ∙ (ap suc (length_filter-map p f xs)
    ∙ sym (ap length (cond-true (p (f x)) (x ∷ filter (λ y. p (f y)) xs)
    (filter (λ y. p (f y)) xs) t))))
    (λ e. ap length (cond-false (p (f x)) (f x ∷ filter p (map f xs)) (filter p (map f xs)) e)
    ∙ (length_filter-map p f xs
    ∙ sym (ap length (cond-false (p (f x)) (x ∷ filter (λ y. p (f y)) xs)
    (filter (λ y. p (f y)) xs) e))))
    (cases_Bool (p (f x)))

length_filter-same : {X : Type 0} (p q : X → Bool) (xs : List X) → ((x : X) → p x ≡ q x) →
    length (filter p xs) ≡ length (filter q xs)
length_filter-same {X = X} p q xs same =
    ap (λ (r : X → Bool). length (filter r xs)) (λ i x. same x i)

length_filter-none : {X : Type 0} (p : X → Bool) (xs : List X) → ((x : X) → p x ≡ false) →
    length (filter p xs) ≡ 0
length_filter-none p [] none = refl
length_filter-none p (x ∷ xs) none = ap length
    (cond-false (p x) (x ∷ filter p xs) (filter p xs) (none x)) ∙ length_filter-none p xs none

-- rows that each have as many
rows_alike : {X : Type 0} (p : X → Bool) (f : ℕ → List X) (many a n : ℕ) →
    ((c : ℕ) → length (filter p (f c)) ≡ many) →
    length (filter p (flat_map f (range_with_len a n))) ≡ n * many
rows_alike p f many a zero each = omega arith
rows_alike p f many a (suc n) each =
    length_filter-append p (f a) (flat_map f (range_with_len (a + 1) n))
    ∙ (let rest = rows_alike p f many (a + 1) n each in let one = each a in omega arith)

rows_none : {X : Type 0} (p : X → Bool) (f : ℕ → List X) (a n b : ℕ) → b < a →
    ((c : ℕ) → c ≢ b → length (filter p (f c)) ≡ 0) →
    length (filter p (flat_map f (range_with_len a n))) ≡ 0
rows_none p f a zero b low none = refl
rows_none p f a (suc n) b low none =
    length_filter-append p (f a) (flat_map f (range_with_len (a + 1) n))
    ∙ (let rest = rows_none p f (a + 1) n b (omega arith) none in
    let one = none a (λ e. omega arith) in omega arith)

-- one row alone has some
rows_one : {X : Type 0} (p : X → Bool) (f : ℕ → List X) (many a n b : ℕ) → a ≤ b → b < a + n →
    length (filter p (f b)) ≡ many → ((c : ℕ) → c ≢ b → length (filter p (f c)) ≡ 0) →
    length (filter p (flat_map f (range_with_len a n))) ≡ many
rows_one p f many a zero b low high here none = absurd (omega arith)
rows_one p f many a (suc n) b low high here none = ⊎_elim
    (λ t.
    let is : a ≡ b = eqb-true a b t in
    length_filter-append p (f a) (flat_map f (range_with_len (a + 1) n))
    ∙ (let rest = rows_none p f (a + 1) n b (omega (arith, is)) none in
    let one : length (filter p (f a)) ≡ many = ap (λ c. length (filter p (f c))) is ∙ here
    in omega arith))
    (λ e.
    let apart : a ≢ b = (λ same. false≢true (sym e ∙ eq-eqb a b same)) in
    length_filter-append p (f a) (flat_map f (range_with_len (a + 1) n))
    ∙ (let rest = rows_one p f many (a + 1) n b (omega arith) (omega arith) here none in
    let one = none a apart in omega arith))
    (cases_Bool (a == b))

abbrev agrees : (keep : List Bool) → (apart cell : List ℕ) → Bool
agrees keep apart cell = same_list (dropped keep cell) apart

cells_apart : (keep : List Bool) (dims apart : List ℕ) → length keep ≡ length dims →
    IsCell (dropped keep dims) apart →
    length (filter (agrees keep apart) (cells dims)) ≡ volume (items_where_true keep dims)
unfolding cells
cells_apart [] [] [] e is = refl
cells_apart [] [] (a ∷ apart) e is = absurd is
cells_apart [] (n ∷ dims) apart e is = absurd (omega arith)
cells_apart (k ∷ keep) [] apart e is = absurd (omega arith)
cells_apart (true ∷ keep) (n ∷ dims) apart e is =
    rows_alike (agrees (true ∷ keep) apart) (λ c. map (λ rest. c ∷ rest) (cells dims))
    (volume (items_where_true keep dims)) 0 n
    (λ c. length_filter-map (agrees (true ∷ keep) apart) (λ rest. c ∷ rest) (cells dims)
    ∙ cells_apart keep dims apart (omega arith) is)
cells_apart (false ∷ keep) (n ∷ dims) [] e is = absurd is
cells_apart (false ∷ keep) (n ∷ dims) (a ∷ apart) e is =
    rows_one (agrees (false ∷ keep) (a ∷ apart)) (λ c. map (λ rest. c ∷ rest) (cells dims))
    (volume (items_where_true keep dims)) 0 n a (omega arith) (let low = is.0 in omega arith)
    (length_filter-map (agrees (false ∷ keep) (a ∷ apart)) (λ rest. a ∷ rest) (cells dims)
    ∙ (length_filter-same (λ rest. (a == a) && agrees keep apart rest) (agrees keep apart)
    (cells dims) (λ rest. ap (λ b. b && agrees keep apart rest) (eq-eqb a a refl))
    ∙ cells_apart keep dims apart (omega arith) is.1))
    (λ c other.
    length_filter-map (agrees (false ∷ keep) (a ∷ apart)) (λ rest. c ∷ rest) (cells dims)
    ∙ length_filter-none (λ rest. (c == a) && agrees keep apart rest) (cells dims)
    (λ rest. ap (λ b. b && agrees keep apart rest) (ne_eqb c a other)))

-- the ranks of the cells that pass
ranks_of_cells : (q : List ℕ → Bool) (xs : List (List ℕ)) (a : ℕ) (f : ℕ → List ℕ) →
    ((i : ℕ) → f (a + i) ≡ unwrap_or (slice_get xs i) []) →
    length (filter (λ r. q (f r)) (range_with_len a (length xs))) ≡ length (filter q xs)
ranks_of_cells q [] a f at = refl
ranks_of_cells q (x ∷ xs) a f at =
    let here : f a ≡ x = ap f (let z : a ≡ a + 0 = omega arith in z) ∙ at 0 in
    let rest = ranks_of_cells q xs (a + 1) f
    (λ i. ap f (let z : a + 1 + i ≡ a + suc i = omega arith in z) ∙ at (suc i)) in
    ⊎_elim
    (λ t. ap length (cond-true (q (f a))
    (a ∷ filter (λ r. q (f r)) (range_with_len (a + 1) (length xs)))
    (filter (λ r. q (f r)) (range_with_len (a + 1) (length xs))) t)
    ∙ (ap suc rest
    ∙ sym
    (ap length (cond-true (q x) (x ∷ filter q xs) (filter q xs) (ap q (sym here) ∙ t)))))
    (λ e. ap length (cond-false (q (f a))
    (a ∷ filter (λ r. q (f r)) (range_with_len (a + 1) (length xs)))
    (filter (λ r. q (f r)) (range_with_len (a + 1) (length xs))) e)
    ∙ (rest
    ∙ sym
    (ap length (cond-false (q x) (x ∷ filter q xs) (filter q xs) (ap q (sym here) ∙ e)))))
    (cases_Bool (q (f a)))

pub length_ranks_apart : (g : Topology) (keep : List Bool) (apart : List ℕ) →
    length keep ≡ length g.dims → IsCell (dropped keep g.dims) apart →
    length (ranks_apart g keep apart) ≡ volume (items_where_true keep g.dims)
length_ranks_apart g keep apart e is =
    ap (λ n. length (filter (λ r. agrees keep apart (coords g r)) (below n)))
    (sym (length-cells g.dims))
    ∙ (ranks_of_cells (agrees keep apart) (cells g.dims) 0 (λ r. coords g r)
    (λ i. ap (λ n. unwrap_or (slice_get (cells g.dims) n) [])
    (let z : 0 + i ≡ i = omega arith in z))
    ∙ cells_apart keep g.dims apart e is)
