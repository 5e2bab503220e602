-- Rows of an instance, one for each member: what one more item of one member does to them.
use Rattle.std.proofs.Common.{◌≡◌, ◌≢◌, ℕ, zero, suc, ◌<◌, List, [], ◌∷◌, ◌++◌, length, refl, sym}
use Rattle.std.proofs.Common.{ap, ◌∙◌, subst, arith, true, false, ◌||◌, Option, Some, None}
use Rattle.std.proofs.Common.{slice_get, map, set, replicate, is_some, ⊎_elim, eqb, eqb-true}
use Rattle.std.specs.Prelude.{filter_map}
use Rattle.std.proofs.lemmas.Bool.{false≢true, cases_Bool, and_right}
use Rattle.coll_routes.specs.declared.statement.Stated.{Stated}
use Rattle.coll_routes.specs.Rolls.{is_full}
use Rattle.coll_pending.specs.Instances.{is_begun}
use Rattle.coll_pending.proofs.CollPendingLemmas.{at_push}
use Rattle.run_model.specs.Posts.{signature_in}

-- ## lists that grow at their end

pub some_same : {A : Type 0} (x y : A) → Some x ≡ Some y → x ≡ y
some_same x y e = cc

pub length_snoc : {A : Type 0} (xs : List A) (x : A) → length (xs ++ x ∷ []) ≡ suc (length xs)
length_snoc [] x = refl
length_snoc (y ∷ xs) x = ap suc (length_snoc xs x)

pub get-none : {A : Type 0} (xs : List A) → slice_get xs (length xs) ≡ None
get-none [] = refl
get-none (x ∷ xs) = get-none xs

pub get-snoc_other : {A : Type 0} (xs : List A) (y : A) (k : ℕ) → k ≢ length xs →
    slice_get (xs ++ y ∷ []) k ≡ slice_get xs k
get-snoc_other [] y zero apart = absurd (apart refl)
get-snoc_other [] y (suc k) apart = refl
get-snoc_other (x ∷ xs) y zero apart = refl
get-snoc_other (x ∷ xs) y (suc k) apart = get-snoc_other xs y k (λ e. apart (ap suc e))

pub get-prefix : {A : Type 0} (xs ys : List A) (k : ℕ) (x : A) → slice_get xs k ≡ Some x →
    slice_get (xs ++ ys) k ≡ Some x
get-prefix [] ys k x e = absurd (cc)
get-prefix (y ∷ xs) ys zero x e = e
get-prefix (y ∷ xs) ys (suc k) x e = get-prefix xs ys k x e

-- ## rows of the items that each member has at one place

-- two maps that differ at the one place of p
pub map-one : {Y : Type 0} (f g : ℕ → Y) (p : ℕ) (members : List ℕ) (r : ℕ) →
    slice_get members r ≡ Some p → ((i : ℕ) → slice_get members i ≡ Some p → i ≡ r) →
    ((m : ℕ) → p ≢ m → f m ≡ g m) → map f members ≡ set (map g members) r (f p)
map-one f g p [] r at once same = absurd (cc)
map-one f g p (m ∷ ms) zero at once same =
    let is : m ≡ p = cc in
    λ i. f (is i) ∷ rest ms (λ k e. let no = once (suc k) e in cc) i
  where
    rest : (ms : List ℕ) → ((k : ℕ) → slice_get ms k ≡ Some p → ⊥) → map f ms ≡ map g ms
    rest [] none = refl
    rest (n ∷ ns) none = λ i.
        same n (λ e. none zero (ap (λ z. Some z) (sym e))) i ∷ rest ns (λ k e. none (suc k) e) i
map-one f g p (m ∷ ms) (suc r) at once same =
    let apart : p ≢ m = λ e. (let no = once zero (ap (λ z. Some z) (sym e)) in cc) in
    λ i. same m apart i ∷ map-one f g p ms r at (λ k e. let s = once (suc k) e in cc) same i

pub map-same : {Y : Type 0} (f g : ℕ → Y) (members : List ℕ) → ((m : ℕ) → f m ≡ g m) →
    map f members ≡ map g members
map-same f g [] same = refl
map-same f g (m ∷ ms) same = λ i. same m i ∷ map-same f g ms same i

-- what each member has in order, before and after p got one more
pub record Grows {A : Type 0} (old new : ℕ → List A) (p : ℕ) (a : A) : Type 0 where
  pub own : new p ≡ old p ++ a ∷ []
  pub others : (m : ℕ) → p ≢ m → new m ≡ old m

pub rows-own : {A : Type 0} (old new : ℕ → List A) (p : ℕ) (a : A) (members : List ℕ) (r k : ℕ) →
    Grows old new p a → k ≡ length (old p) → slice_get members r ≡ Some p →
    ((i : ℕ) → slice_get members i ≡ Some p → i ≡ r) →
    map (λ m. slice_get (new m) k) members ≡ set (map (λ m. slice_get (old m) k) members) r (Some a)
rows-own old new p a members r k grows place at once =
    map-one (λ m. slice_get (new m) k) (λ m. slice_get (old m) k) p members r at once
    (λ m apart. ap (λ xs. slice_get xs k) (grows.others m apart))
    ∙ ap (λ v. set (map (λ m. slice_get (old m) k) members) r v)
    (ap (λ xs. slice_get xs k) grows.own
    ∙ (ap (λ n. slice_get (old p ++ a ∷ []) n) place ∙ at_push (old p) a))

pub rows-other : {A : Type 0} (old new : ℕ → List A) (p : ℕ) (a : A) (members : List ℕ) (k : ℕ) →
    Grows old new p a → k ≢ length (old p) →
    map (λ m. slice_get (new m) k) members ≡ map (λ m. slice_get (old m) k) members
rows-other old new p a members k grows apart =
    map-same (λ m. slice_get (new m) k) (λ m. slice_get (old m) k) members each
  where
    each : (m : ℕ) → slice_get (new m) k ≡ slice_get (old m) k
    each m = ⊎_elim
        (λ (t : eqb p m ≡ true).
        let is : p ≡ m = eqb-true p m t in
        subst (λ q. slice_get (new q) k ≡ slice_get (old q) k) is
        (ap (λ xs. slice_get xs k) grows.own ∙ get-snoc_other (old p) a k apart))
        (λ (f : eqb p m ≡ false). ap (λ xs. slice_get xs k)
        (grows.others m (λ e. false≢true (sym f ∙ Rattle.std.proofs.lemmas.Bool.eq-eqb p m e))))
        (cases_Bool (eqb p m))

-- p's own row before: it has nothing there yet
pub row-empty : {A : Type 0} (old : ℕ → List A) (p : ℕ) (members : List ℕ) (r k : ℕ) →
    k ≡ length (old p) → slice_get members r ≡ Some p →
    slice_get (map (λ m. slice_get (old m) k) members) r ≡ Some None
row-empty old p [] r k place at = absurd (cc)
row-empty old p (m ∷ ms) zero k place at =
    let is : m ≡ p = cc in
    ap (λ o. Some o) (ap (λ q. slice_get (old q) k) is
    ∙ (ap (λ n. slice_get (old p) n) place ∙ get-none (old p)))
row-empty old p (m ∷ ms) (suc r) k place at = row-empty old p ms r k place at

-- ## full rows and empty ones

pub not_full : {A : Type 0} (rows : List (Option A)) (r : ℕ) → slice_get rows r ≡ Some None →
    is_full rows ≡ false
not_full [] r at = absurd (cc)
not_full (None ∷ rows) zero at = refl
not_full (Some a ∷ rows) zero at = absurd (cc)
not_full (row ∷ rows) (suc r) at = and_right (is_some row) (is_full rows) (not_full rows r at)

pub none_begun : {A : Type 0} (rows : List (Option A)) → is_begun rows ≡ false →
    rows ≡ replicate (length rows) None
none_begun [] f = refl
none_begun (Some a ∷ rows) f = absurd (false≢true (sym f))
none_begun (None ∷ rows) f = ap (λ rest. None ∷ rest) (none_begun rows f)

-- rows of items of both kinds begin together, where each member has as many of both
pub begun_alike : {A B : Type 0} (xs : ℕ → List A) (ys : ℕ → List B) (k : ℕ) (members : List ℕ) →
    ((m : ℕ) → length (xs m) ≡ length (ys m)) →
    is_begun (map (λ m. slice_get (xs m) k) members)
    ≡ is_begun (map (λ m. slice_get (ys m) k) members)
begun_alike xs ys k [] same = refl
begun_alike xs ys k (m ∷ ms) same =
    λ i. some_alike (xs m) (ys m) k (same m) i || begun_alike xs ys k ms same i
  where
    some_alike : {A B : Type 0} (ps : List A) (bs : List B) (n : ℕ) → length ps ≡ length bs →
        is_some (slice_get ps n) ≡ is_some (slice_get bs n)
    some_alike [] [] n e = refl
    some_alike [] (b ∷ bs) n e = absurd (omega (arith, e))
    some_alike (a ∷ ps) [] n e = absurd (omega (arith, e))
    some_alike (a ∷ ps) (b ∷ bs) zero e = refl
    some_alike (a ∷ ps) (b ∷ bs) (suc n) e = some_alike ps bs n (omega (arith, e))

-- nobody has anything
pub begun_nothing : {A : Type 0} (xs : ℕ → List A) (k : ℕ) (members : List ℕ) →
    ((m : ℕ) → xs m ≡ []) → is_begun (map (λ m. slice_get (xs m) k) members) ≡ false
begun_nothing xs k [] none = refl
begun_nothing {A} xs k (m ∷ ms) none =
    λ i. is_some (slice_get (none m i) k) || begun_nothing xs k ms none i

-- the parts of full rows
pub parts_back : {A : Type 0} (parts : List A) →
    filter_map (λ (row : Option A). row) (map (λ part. Some part) parts) ≡ parts
parts_back [] = refl
parts_back (a ∷ ps) = ap (λ rest. a ∷ rest) (parts_back ps)

-- ## the signature of rows

pub sig_joined : (rows : List (Option Stated)) (r : ℕ) (s : Stated) → signature_in rows ≡ s.sig →
    signature_in (set rows r (Some s)) ≡ s.sig
sig_joined [] zero s e = e
sig_joined [] (suc r) s e = e
sig_joined (Some t ∷ rows) zero s e = refl
sig_joined (Some t ∷ rows) (suc r) s e = e
sig_joined (None ∷ rows) zero s e = refl
sig_joined (None ∷ rows) (suc r) s e = sig_joined rows r s e

pub sig_opened : (n r : ℕ) (s : Stated) → r < n →
    signature_in (set (replicate n None) r (Some s)) ≡ s.sig
sig_opened zero r s lt = absurd (omega (arith, lt))
sig_opened (suc n) zero s lt = refl
sig_opened (suc n) (suc r) s lt = sig_opened n r s (omega (arith, lt))
