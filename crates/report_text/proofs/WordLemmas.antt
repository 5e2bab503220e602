-- Names by number, and the texts of numbered things.
use Rattle.std.proofs.Common.{◌≡◌, ℕ, zero, suc, ◌+◌, ◌<◌, ◌≤◌, List, [], ◌∷◌, ◌++◌, Some, refl, ap}
use Rattle.std.proofs.Common.{sym, ◌∙◌, subst, length, drop, slice_get, append_assoc, arith}
use Rattle.std.specs.Prelude.{unwrap_or, OnOk, Result, Ok, Err}
use Rattle.std.proofs.lemmas.List.{append-nil}
use Rattle.std.proofs.lemmas.Option.{slice_get_past}
use Rattle.coll_text.specs.Numbers.{Word}
use Rattle.coll_text.specs.Words.{name_at}
use Rattle.report_text.specs.Words.{numbered}

pub name_is : (names : List Word) (n : ℕ) (w : Word) → slice_get names n ≡ Some w →
    name_at names n ≡ w
name_is names n w at = ap (λ o. unwrap_or o []) at

pub name_none : (names : List Word) (n : ℕ) → length names ≤ n → name_at names n ≡ []
name_none names n past = ap (λ o. unwrap_or o []) (slice_get_past names n past)

-- the text of one, and those of the ones behind it
pub numbered_at : {A : Type 0} (text : ℕ → A → List ℕ) (n : ℕ) (xs : List A) (i : ℕ) (x : A) →
    slice_get xs i ≡ Some x →
    numbered text n (drop i xs) ≡ text n x ++ numbered text (n + 1) (drop (i + 1) xs)
numbered_at text n [] i x at = absurd cc
numbered_at text n (y ∷ xs) zero x at = let same : y ≡ x = cc in
    ap (λ z. text n z ++ numbered text (n + 1) xs) same
numbered_at text n (y ∷ xs) (suc i) x at =
    let one : suc (i + 1) ≡ suc i + 1 = omega arith in
    subst (λ m. numbered text n (drop i xs) ≡ text n x ++ numbered text (n + 1) (drop m (y ∷ xs)))
    one (numbered_at text n xs i x at)

pub numbered_end : {A : Type 0} (text : ℕ → A → List ℕ) (n : ℕ) (xs : List A) (i : ℕ) →
    length xs ≤ i → numbered text n (drop i xs) ≡ []
numbered_end text n [] zero past = refl
numbered_end text n [] (suc i) past = refl
numbered_end text n (y ∷ xs) zero past = absurd (omega arith)
numbered_end text n (y ∷ xs) (suc i) past = numbered_end text n xs i (omega arith)

-- what follows from success, follows on success
pub ok_then : {A E : Type 0} (r : Result A E) (P Q : Type 0) → (P → Q) → OnOk r P → OnOk r Q
ok_then (Ok x) P Q more h = more h
ok_then (Err e) P Q more h = h

-- what is written behind a front that was written
pub behind : {A E : Type 0} (r : Result A E) (old prefix mid back new : List ℕ) →
    mid ≡ old ++ prefix → OnOk r (new ≡ mid ++ back) → OnOk r (new ≡ old ++ (prefix ++ back))
behind r old prefix mid back new first = ok_then r (new ≡ mid ++ back)
    (new ≡ old ++ (prefix ++ back))
    (λ then. then ∙ ap (λ t. t ++ back) first ∙ append_assoc old prefix back)

-- there is one at each number below the length
pub one_at : {A : Type 0} (xs : List A) (i : ℕ) → i < length xs →
    (x : A) × (slice_get xs i ≡ Some x)
one_at [] i low = absurd (omega arith)
one_at (x ∷ xs) zero low = (x, refl)
one_at (x ∷ xs) (suc i) low = one_at xs i (omega arith)

-- the text of one more is written
pub writes_more : {A : Type 0} (text : ℕ → A → List ℕ) (xs : List A) (i : ℕ) (x : A)
    (old new all : List ℕ) → slice_get xs i ≡ Some x → new ≡ old ++ text i x →
    old ++ numbered text i (drop i xs) ≡ all →
    new ++ numbered text (i + 1) (drop (i + 1) xs) ≡ all
writes_more text xs i x old new all at adds so_far =
    ap (λ t. t ++ numbered text (i + 1) (drop (i + 1) xs)) adds
    ∙ append_assoc old (text i x) (numbered text (i + 1) (drop (i + 1) xs))
    ∙ ap (λ t. old ++ t) (sym (numbered_at text i xs i x at))
    ∙ so_far

-- none is left
pub writes_all : {A : Type 0} (text : ℕ → A → List ℕ) (xs : List A) (i : ℕ) (old all : List ℕ) →
    length xs ≤ i → old ++ numbered text i (drop i xs) ≡ all → old ≡ all
writes_all text xs i old all past so_far =
    sym (append-nil old) ∙ ap (λ t. old ++ t) (sym (numbered_end text i xs i past)) ∙ so_far
