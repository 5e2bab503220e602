-- Rows of ranks, and how many of them are filled.
use Rattle.std.proofs.Common.{◌≡◌, ℕ, zero, suc, ◌+◌, ◌<◌, ◌≤◌, Bool, true, false, List, [], ◌∷◌}
use Rattle.std.proofs.Common.{length, set, replicate, take, drop, Option, Some, None}
use Rattle.std.proofs.Common.{is_some, refl, sym, ap, ◌∙◌, arith, eqb, count_by, cond, ◌&&◌}
use Rattle.std.proofs.Common.{ne_eqb, add-one, length-set}
use Rattle.std.specs.List.{list_all}
use Rattle.std.proofs.lemmas.Bool.{false≢true}
use Rattle.std.proofs.lemmas.Bool.Decides.{nat_tests}
use Rattle.std.proofs.lemmas.List.{take_all}
use Rattle.std.proofs.lemmas.List.Sums.{sum_by-cons}
use Rattle.coll_routes.specs.Rolls.{is_full}
use Rattle.coll_pending.specs.Instances.{is_full_but_for, is_begun}
use Rattle.coll_pending.specs.Queues.{marks, has_posted}

pub none_of : {A : Type 0} (o : Option A) → is_some o ≡ false → o ≡ None
none_of None e = refl
none_of (Some x) e = absurd (false≢true (sym e))

pub begun_set : {A : Type 0} (rows : List (Option A)) (r : ℕ) (x : A) → r < length rows →
    is_begun (set rows r (Some x)) ≡ true
begun_set [] r x lt = absurd (omega arith)
begun_set (row ∷ rows) zero x lt = refl
begun_set (None ∷ rows) (suc r) x lt = begun_set rows r x (omega arith)
begun_set (Some y ∷ rows) (suc r) x lt = refl

-- ## marks

pub marks_none : (A B : Type 0) (n : ℕ) →
    marks {A = A} (replicate n None) ≡ marks {A = B} (replicate n None)
marks_none A B zero = refl
marks_none A B (suc n) = ap (λ bs. false ∷ bs) (marks_none A B n)

marks_put : {A : Type 0} (rows : List (Option A)) (r : ℕ) (x : A) →
    marks (set rows r (Some x)) ≡ set (marks rows) r true
marks_put [] zero x = refl
marks_put [] (suc r) x = refl
marks_put (row ∷ rows) zero x = refl
marks_put (row ∷ rows) (suc r) x = ap (λ bs. is_some row ∷ bs) (marks_put rows r x)

pub marks_set : {A B : Type 0} (xs : List (Option A)) (ys : List (Option B)) (r : ℕ) (x : A)
    (y : B) → marks xs ≡ marks ys → marks (set xs r (Some x)) ≡ marks (set ys r (Some y))
marks_set xs ys r x y same =
    marks_put xs r x ∙ (ap (λ bs. set bs r true) same ∙ sym (marks_put ys r y))

length_marks : {A : Type 0} (rows : List (Option A)) → length (marks rows) ≡ length rows
length_marks [] = refl
length_marks (row ∷ rows) = ap suc (length_marks rows)

pub marked_length : {A B : Type 0} (xs : List (Option A)) (ys : List (Option B)) →
    marks xs ≡ marks ys → length xs ≡ length ys
marked_length xs ys same = sym (length_marks xs) ∙ (ap length same ∙ length_marks ys)

all_marks : {A : Type 0} (rows : List (Option A)) → is_full rows ≡ list_all (λ b. b) (marks rows)
all_marks [] = refl
all_marks (row ∷ rows) = ap (λ b. is_some row && b) (all_marks rows)

pub full_marks : {A B : Type 0} (xs : List (Option A)) (ys : List (Option B)) →
    marks xs ≡ marks ys → is_full xs ≡ is_full ys
full_marks xs ys same = all_marks xs ∙ (ap (λ bs. list_all (λ b. b) bs) same ∙ sym (all_marks ys))

-- ## counts

filled : {A : Type 0} → List (Option A) → ℕ
filled [] = 0
filled (Some x ∷ rows) = suc (filled rows)
filled (None ∷ rows) = filled rows

filled_is : {A : Type 0} (rows : List (Option A)) → count_by is_some rows ≡ filled rows
unfolding filled
filled_is [] = refl
filled_is (Some x ∷ rows) =
    omega (arith, filled_is rows, sum_by-cons (λ o. cond (is_some o) 1 0) (Some x) rows)
filled_is (None ∷ rows) =
    omega (arith, filled_is rows, sum_by-cons (λ o. cond (is_some o) 1 0) None rows)

filled_le : {A : Type 0} (rows : List (Option A)) → filled rows ≤ length rows
unfolding filled
filled_le [] = omega arith
filled_le (Some x ∷ rows) = omega (arith, filled_le rows)
filled_le (None ∷ rows) = omega (arith, filled_le rows)

filled_less : {A : Type 0} (rows : List (Option A)) (r : ℕ) → r < length rows →
    has_posted rows r ≡ false → filled rows < length rows
unfolding filled
filled_less [] r lt free = absurd (omega arith)
filled_less (Some x ∷ rows) zero lt free = absurd (false≢true (sym free))
filled_less (None ∷ rows) zero lt free = omega (arith, filled_le rows)
filled_less (Some x ∷ rows) (suc r) lt free = omega (arith, filled_less rows r (omega arith) free)
filled_less (None ∷ rows) (suc r) lt free = omega (arith, filled_less rows r (omega arith) free)

filled_set : {A : Type 0} (rows : List (Option A)) (r : ℕ) (x : A) → r < length rows →
    has_posted rows r ≡ false → filled (set rows r (Some x)) ≡ suc (filled rows)
unfolding filled
filled_set [] r x lt free = absurd (omega arith)
filled_set (Some y ∷ rows) zero x lt free = absurd (false≢true (sym free))
filled_set (None ∷ rows) zero x lt free = refl
filled_set (Some y ∷ rows) (suc r) x lt free = ap suc (filled_set rows r x (omega arith) free)
filled_set (None ∷ rows) (suc r) x lt free = filled_set rows r x (omega arith) free

filled_none : (A : Type 0) (n : ℕ) → filled {A = A} (replicate n None) ≡ 0
unfolding filled
filled_none A zero = refl
filled_none A (suc n) = filled_none A n

eqb_suc : (a b : ℕ) → eqb (suc a) (suc b) ≡ eqb a b
eqb_suc a b = grind (arith, nat_tests)

full_filled : {A : Type 0} (rows : List (Option A)) → is_full rows ≡ eqb (filled rows) (length rows)
unfolding filled
full_filled [] = refl
full_filled (Some x ∷ rows) = full_filled rows ∙ sym (eqb_suc (filled rows) (length rows))
full_filled (None ∷ rows) =
    sym (ne_eqb (filled rows) (suc (length rows)) (λ e. omega (arith, e, filled_le rows)))

pub count_none : (A : Type 0) (n : ℕ) → count_by is_some (replicate {A = Option A} n None) ≡ 0
count_none A n = filled_is (replicate n None) ∙ filled_none A n

pub count_set : {A : Type 0} (rows : List (Option A)) (r : ℕ) (x : A) → r < length rows →
    has_posted rows r ≡ false → count_by is_some (set rows r (Some x)) ≡ count_by is_some rows + 1
count_set rows r x lt free =
    omega (arith, filled_is (set rows r (Some x)), filled_is rows, filled_set rows r x lt free)

-- the count tells whether all rows are filled
pub full_counted : {A : Type 0} (rows : List (Option A)) →
    is_full rows ≡ eqb (count_by is_some rows) (length rows)
full_counted rows = full_filled rows ∙ ap (λ n. eqb n (length rows)) (sym (filled_is rows))

pub full_set : {A : Type 0} (rows : List (Option A)) (r : ℕ) (x : A) → r < length rows →
    has_posted rows r ≡ false →
    is_full (set rows r (Some x)) ≡ eqb (count_by is_some rows + 1) (length rows)
full_set rows r x lt free = full_counted (set rows r (Some x))
    ∙ (ap (λ n. eqb n (length (set rows r (Some x)))) (count_set rows r x lt free)
    ∙ ap (λ n. eqb (count_by is_some rows + 1) n) (length-set rows r (Some x)))

but_for : {A : Type 0} (rows : List (Option A)) (r : ℕ) → r < length rows →
    has_posted rows r ≡ false →
    (is_full (take r rows) && is_full (drop (suc r) rows)) ≡ eqb (suc (filled rows)) (length rows)
unfolding filled
but_for [] r lt free = absurd (omega arith)
but_for (Some y ∷ rows) zero lt free = absurd (false≢true (sym free))
but_for (None ∷ rows) zero lt free = full_filled rows ∙ sym (eqb_suc (filled rows) (length rows))
but_for (Some y ∷ rows) (suc r) lt free =
    but_for rows r (omega arith) free ∙ sym (eqb_suc (suc (filled rows)) (length rows))
but_for (None ∷ rows) (suc r) lt free =
    sym (ne_eqb (suc (filled rows)) (suc (length rows))
    (λ e. omega (arith, e, filled_less rows r (omega arith) free)))

-- all but one are filled where one more fills them
pub full_but : {A : Type 0} (rows : List (Option A)) (r : ℕ) → r < length rows →
    has_posted rows r ≡ false →
    is_full_but_for rows r ≡ eqb (count_by is_some rows + 1) (length rows)
full_but rows r lt free =
    ap (λ n. is_full (take r rows) && is_full (drop n rows)) (add-one r)
    ∙ (but_for rows r lt free ∙ ap (λ n. eqb n (length rows)) (omega (arith, filled_is rows)))

and_false : (a b : Bool) → a ≡ false → (a && b) ≡ false
and_false a b e = rw e refl

-- where some row is empty, leaving out one past the end does not help
pub not_full_but : {A : Type 0} (rows : List (Option A)) (r : ℕ) → length rows ≤ r →
    count_by is_some rows < length rows → is_full_but_for rows r ≡ false
not_full_but {A} rows r past less =
    and_false (is_full (take r rows)) (is_full (drop (r + 1) rows))
    (ap (λ (xs : List (Option A)). is_full xs) (take_all r rows past)
    ∙ (full_counted rows
    ∙ ne_eqb (count_by is_some rows) (length rows) (λ e. omega (arith, e))))

-- ## one row and all

pub posted_all : {A : Type 0} (rows : List (Option A)) (r : ℕ) → is_full rows ≡ true →
    r < length rows → has_posted rows r ≡ true
posted_all [] r full lt = absurd (omega arith)
posted_all (None ∷ rows) r full lt = absurd (false≢true full)
posted_all (Some x ∷ rows) zero full lt = refl
posted_all (Some x ∷ rows) (suc r) full lt = posted_all rows r full (omega arith)

pub all_posted : {A : Type 0} (rows : List (Option A)) →
    ((r : ℕ) → r < length rows → has_posted rows r ≡ true) → is_full rows ≡ true
all_posted [] each = refl
all_posted (None ∷ rows) each = absurd (false≢true (each 0 (omega arith)))
all_posted (Some x ∷ rows) each = all_posted rows (λ r lt. each (suc r) (omega arith))

pub posted_none : (A : Type 0) (n r : ℕ) → has_posted (replicate {A = Option A} n None) r ≡ false
posted_none A zero r = refl
posted_none A (suc n) zero = refl
posted_none A (suc n) (suc r) = posted_none A n r

pub posted_here : {A : Type 0} (rows : List (Option A)) (r : ℕ) (x : A) → r < length rows →
    has_posted (set rows r (Some x)) r ≡ true
posted_here [] r x lt = absurd (omega arith)
posted_here (row ∷ rows) zero x lt = refl
posted_here (row ∷ rows) (suc r) x lt = posted_here rows r x (omega arith)
