-- Rows merged one by one, and the fold at each place.
use Rattle.std.proofs.Common.{◌≡◌, ℕ, zero, suc, ◌+◌, ◌<◌, ◌≤◌, List, [], ◌∷◌, ◌++◌, length, ◌∙◌}
use Rattle.std.proofs.Common.{ap, sym, refl, arith, Option, Some, None, slice_get, filter_map, map}
use Rattle.std.proofs.Common.{fold, add-one, max, nat_lt, ⊎_elim, subst}
use Rattle.std.specs.Prelude.{unwrap_or}
use Rattle.std.specs.List.{range_with_len, cons_option}
use Rattle.std.proofs.lemmas.Bool.{ltb-true, ltb-false, cases_Bool}
use Rattle.std.proofs.lemmas.List.{append-nil}
use Rattle.std.proofs.lemmas.Option.{slice_get_past}
use Rattle.std.proofs.lemmas.List.Sums.{fold_push}
use Rattle.std.proofs.lemmas.List.FromFn.{map-range_with_len_more}
use Rattle.mpi_elems.specs.Lists.{merged, fold_first}
use Rattle.mpi_elems.specs.Elements.{Element, combine, folded}
use Rattle.mpi_elems.specs.declared.elem_type.ElemType.{ElemType}
use Rattle.mpi_elems.specs.declared.elem_type.ElemType.TheVariants.{Int8}
use Rattle.wall_labels.specs.declared.op.Op.{Op}
use Rattle.mpi_cart.specs.Grids.{below}
use Rattle.mpi_cart.proofs.MpiCartLemmas.{below_more}
use Rattle.coll_routes.specs.declared.roll.Roll.{Roll}
use Rattle.coll_routes.specs.Signatures.{elem_type}
use Rattle.coll_routes.specs.Faults.{stated_type}
use Rattle.coll_values.specs.Values.{Sendings, breadth, folded_at, reduced}

pub range_more : (a n : ℕ) → range_with_len a (n + 1) ≡ range_with_len a n ++ (a + n) ∷ []
range_more a zero = ap (λ x. x ∷ []) (let e : a ≡ a + 0 = omega arith in e)
range_more a (suc n) = rw add-one (ap (λ xs. a ∷ xs) (ap (range_with_len (a + 1)) (sym (add-one n))
    ∙ (range_more (a + 1) n
    ∙ ap (λ x. range_with_len (a + 1) n ++ x ∷ [])
    (let e : a + 1 + n ≡ a + suc n = omega arith in e))))

-- how many elements the longest of so many rows has
abbrev pub broadest : {E : Type 0} → ℕ → (ℕ → List E) → ℕ
broadest n rows = fold max 0 (map (λ i. length (rows i)) (below n))

module _ {E : Type 0} where
  pub broadest_more : (n : ℕ) (rows : ℕ → List E) →
      broadest (n + 1) rows ≡ max (broadest n rows) (length (rows n))
  broadest_more n rows = ap (fold max 0)
      (map-range_with_len_more (λ i. length (rows i)) 0 n n (omega arith))
      ∙ fold_push max 0 (map (λ i. length (rows i)) (below n)) (length (rows n))

  pub broadest_bounds : (n : ℕ) (rows : ℕ → List E) (i : ℕ) → i < n →
      length (rows i) ≤ broadest n rows
  broadest_bounds zero rows i h = absurd (omega arith)
  broadest_bounds (suc n) rows i h =
      let more : broadest (suc n) rows ≡ max (broadest n rows) (length (rows n)) = ap
      (λ m. broadest m rows) (sym (add-one n)) ∙ broadest_more n rows in
      ⊎_elim
      (λ t. let before = broadest_bounds n rows i (ltb-true i n t) in omega arith)
      (λ t. let at : i ≡ n = (let past = ltb-false i n t in omega arith) in
      let same : length (rows i) ≡ length (rows n) = ap (λ k. length (rows k)) at in
      omega arith)
      (cases_Bool (nat_lt i n))

module _ {E : Type 0} (f : E → E → E) where
  -- the fold of one more element, where there is one
  abbrev step : Option E → Option E → Option E
  step None o = o
  step (Some a) None = Some a
  step (Some a) (Some b) = Some (f a b)

  step_none : (o : Option E) → o ≡ step o None
  step_none None = refl
  step_none (Some a) = refl

  slice_get-merged : (xs ys : List E) (k : ℕ) →
      slice_get (merged f xs ys) k ≡ step (slice_get xs k) (slice_get ys k)
  unfolding merged
  slice_get-merged [] ys k = refl
  slice_get-merged (x ∷ xs) [] k = step_none (slice_get (x ∷ xs) k)
  slice_get-merged (x ∷ xs) (y ∷ ys) zero = refl
  slice_get-merged (x ∷ xs) (y ∷ ys) (suc k) = slice_get-merged xs ys k

  fold_first_push : (xs : List E) (o : Option E) →
      fold_first f (xs ++ cons_option o []) ≡ step (fold_first f xs) o
  fold_first_push [] None = refl
  fold_first_push [] (Some b) = refl
  fold_first_push (x ∷ xs) None = ap (λ ys. Some (fold f x ys)) (append-nil xs)
  fold_first_push (x ∷ xs) (Some b) = ap Some (fold_push f x xs b)

  cons-append : (o : Option E) (xs ys : List E) → cons_option o (xs ++ ys) ≡ cons_option o xs ++ ys
  cons-append None xs ys = refl
  cons-append (Some e) xs ys = refl

  filter_map-append : {X : Type 0} (g : X → Option E) (xs ys : List X) →
      filter_map g (xs ++ ys) ≡ filter_map g xs ++ filter_map g ys
  filter_map-append g [] ys = refl
  filter_map-append g (x ∷ xs) ys = ap (cons_option (g x)) (filter_map-append g xs ys)
      ∙ cons-append (g x) (filter_map g xs) (filter_map g ys)

  -- the fold at place y of so many rows
  abbrev pub fold_at : ℕ → (ℕ → List E) → ℕ → Option E
  fold_at n rows y = fold_first f (filter_map (λ i. slice_get (rows i) y) (below n))

  fold_at_more : (n : ℕ) (rows : ℕ → List E) (y : ℕ) →
      fold_at (n + 1) rows y ≡ step (fold_at n rows y) (slice_get (rows n) y)
  fold_at_more n rows y = ap (λ is. fold_first f (filter_map (λ i. slice_get (rows i) y) is))
      (below_more n)
      ∙ (ap (fold_first f) (filter_map-append (λ i. slice_get (rows i) y) (below n) (n ∷ []))
      ∙ fold_first_push (filter_map (λ i. slice_get (rows i) y) (below n))
      (slice_get (rows n) y))

  -- the list has the folds of so many rows
  pub IsFold : ℕ → (ℕ → List E) → List E → Type 0
  IsFold n rows acc = (y : ℕ) → slice_get acc y ≡ fold_at n rows y

  pub fold_none : (rows : ℕ → List E) (acc : List E) → acc ≡ [] → IsFold 0 rows acc
  unfolding IsFold
  fold_none rows acc e y = ap (λ xs. slice_get xs y) e

  pub fold_more : (n : ℕ) (rows : ℕ → List E) (old new : List E) → IsFold n rows old →
      new ≡ merged f old (rows n) → IsFold (n + 1) rows new
  unfolding IsFold
  fold_more n rows old new is e y = ap (λ xs. slice_get xs y) e
      ∙ (slice_get-merged old (rows n) y
      ∙ (ap (λ o. step o (slice_get (rows n) y)) (is y) ∙ sym (fold_at_more n rows y)))

  at_here : (get : ℕ → Option E) (a : ℕ) (o : Option E) → get (a + 0) ≡ o → get a ≡ o
  at_here get a o e = ap get (let z : a ≡ a + 0 = omega arith in z) ∙ e

  at_next : (get : ℕ → Option E) (a : ℕ) (o : ℕ → Option E) → ((k : ℕ) → get (a + suc k) ≡ o k) →
      (k : ℕ) → get (a + 1 + k) ≡ o k
  at_next get a o e k = ap get (let z : a + 1 + k ≡ a + suc k = omega arith in z) ∙ e k

  filter_map_all : (get : ℕ → Option E) (a : ℕ) (xs : List E) (n : ℕ) → length xs ≤ n →
      ((k : ℕ) → get (a + k) ≡ slice_get xs k) → filter_map get (range_with_len a n) ≡ xs
  filter_map_all get a [] zero h e = refl
  filter_map_all get a [] (suc n) h e = λ i. cons_option (at_here get a None (e 0) i)
      (filter_map_all get (a + 1) [] n (omega arith) (at_next get a (λ k. None) (λ k. e (suc k))) i)
  filter_map_all get a (x ∷ xs) zero h e = absurd (omega arith)
  filter_map_all get a (x ∷ xs) (suc n) h e = λ i. cons_option (at_here get a (Some x) (e 0) i)
      (filter_map_all get (a + 1) xs n (omega arith)
      (at_next get a (λ k. slice_get xs k) (λ k. e (suc k))) i)

  none_past : (n : ℕ) (rows : ℕ → List E) (y : ℕ) → ((i : ℕ) → i < n → length (rows i) ≤ y) →
      fold_at n rows y ≡ None
  none_past zero rows y h = refl
  none_past (suc n) rows y h = ap (λ m. fold_at m rows y) (sym (add-one n))
      ∙ (fold_at_more n rows y
      ∙ (λ i. step (none_past n rows y (λ j low. h j (omega arith)) i)
      (slice_get_past (rows n) y (h n (omega arith)) i)))

  ends : (xs : List E) (n : ℕ) → slice_get xs n ≡ None → length xs ≤ n
  ends [] n e = omega arith
  ends (x ∷ xs) zero e = absurd (cc)
  ends (x ∷ xs) (suc n) e = let h = ends xs n e in omega arith

  pub folds_are : (n : ℕ) (rows : ℕ → List E) (acc : List E) → IsFold n rows acc →
      acc ≡ filter_map (fold_at n rows) (below (broadest n rows))
  unfolding IsFold
  folds_are n rows acc is = sym (filter_map_all (fold_at n rows) 0 acc (broadest n rows) short
      (λ k. ap (fold_at n rows) (let z : 0 + k ≡ k = omega arith in z) ∙ sym (is k)))
    where
      short : length acc ≤ broadest n rows
      short = ends acc (broadest n rows)
          (is (broadest n rows) ∙ none_past n rows (broadest n rows) (broadest_bounds n rows))

  -- a list folded on from what there is
  abbrev fold_on : Option E → List E → Option E
  fold_on None xs = fold_first f xs
  fold_on (Some a) xs = Some (fold f a xs)

  fold_on_step : (a b : Option E) (xs : List E) →
      fold_on (step a b) xs ≡ fold_on a (cons_option b xs)
  fold_on_step None None xs = refl
  fold_on_step None (Some b) xs = refl
  fold_on_step (Some a) None xs = refl
  fold_on_step (Some a) (Some b) xs = refl

  merged_on : (rows : List (List E)) (acc : List E) (y : ℕ) →
      slice_get (fold (merged f) acc rows) y
      ≡ fold_on (slice_get acc y) (filter_map (λ row. slice_get row y) rows)
  merged_on [] acc y = nothing (slice_get acc y)
    where
      nothing : (o : Option E) → o ≡ fold_on o []
      nothing None = refl
      nothing (Some a) = refl
  merged_on (row ∷ rows) acc y =
      merged_on rows (merged f acc row) y
      ∙ (ap (λ o. fold_on o (filter_map (λ row. slice_get row y) rows)) (slice_get-merged acc row y)
      ∙ fold_on_step (slice_get acc y) (slice_get row y) (filter_map (λ row. slice_get row y) rows))

  pub merged_rows : (rows : List (List E)) (y : ℕ) →
      slice_get (fold (merged f) [] rows) y
      ≡ fold_first f (filter_map (λ row. slice_get row y) rows)
  merged_rows rows y = merged_on rows [] y

-- as many folds as the longest row has elements
module _ {E : Type 0} (f : E → E → E) (rows : ℕ → List E) where
  all_merged : ℕ → List E
  all_merged zero = []
  all_merged (suc n) = merged f (all_merged n) (rows n)

  length-merged : (xs ys : List E) → length (merged f xs ys) ≡ max (length xs) (length ys)
  unfolding merged
  length-merged [] ys = omega arith
  length-merged (x ∷ xs) [] = omega arith
  length-merged (x ∷ xs) (y ∷ ys) = omega (arith, length-merged xs ys)

  all_fold : (n : ℕ) → IsFold f n rows (all_merged n)
  unfolding all_merged
  all_fold zero = fold_none f rows [] refl
  all_fold (suc n) = let P : ℕ → Type 0 = λ m. IsFold f m rows (merged f (all_merged n) (rows n)) in
      subst P (add-one n)
      (fold_more f n rows (all_merged n) (merged f (all_merged n) (rows n)) (all_fold n) refl)

  all_long : (n : ℕ) → length (all_merged n) ≡ broadest n rows
  unfolding all_merged
  all_long zero = refl
  all_long (suc n) =
      let more : broadest (suc n) rows ≡ max (broadest n rows) (length (rows n)) = ap
      (λ m. broadest m rows) (sym (add-one n)) ∙ broadest_more n rows in
      length-merged (all_merged n) (rows n)
      ∙ (ap (λ k. max k (length (rows n))) (all_long n) ∙ sym more)

  length_folds : (n : ℕ) →
      length (filter_map (fold_at f n rows) (below (broadest n rows))) ≡ broadest n rows
  length_folds n = ap length (sym (folds_are f n rows (all_merged n) (all_fold n))) ∙ all_long n

typed_is : (o : Option ElemType) (ty : ElemType) → o ≡ Some ty → ty ≡ unwrap_or o Int8
typed_is (Some t) ty e = sym (cc)
typed_is None ty e = absurd (cc)

pub reduced_is : (op : Op) (roll : Roll) (s : Sendings) (ty : ElemType) (acc : List Element) →
    elem_type roll.sig ≡ Some ty → IsFold (combine op ty) roll.shape.size (λ i. s i 0) acc →
    acc ≡ reduced op roll s
unfolding folded_at
reduced_is op roll s ty acc typed is =
    folds_are (combine op ty) roll.shape.size (λ i. s i 0) acc is
    ∙ ap (λ (t : ElemType). filter_map
    (λ y. folded op t (filter_map (λ i. slice_get (s i 0) y) (below roll.shape.size)))
    (below (breadth roll s))) (typed_is (elem_type roll.sig) ty typed)

pub length_reduced : (op : Op) (roll : Roll) (s : Sendings) →
    length (reduced op roll s) ≡ breadth roll s
unfolding folded_at
length_reduced op roll s =
    length_folds (combine op (stated_type roll.sig)) (λ i. s i 0) roll.shape.size

pub map_more : {X : Type 0} (f : ℕ → X) (n : ℕ) →
    map f (below (n + 1)) ≡ map f (below n) ++ f n ∷ []
map_more f n = map-range_with_len_more f 0 n n (omega arith)
