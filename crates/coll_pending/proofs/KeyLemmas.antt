-- The keys of one queue.
use Rattle.std.proofs.Common.{◌≡◌, ◌≢◌, ℕ, zero, suc, ◌+◌, ◌-◌, ◌<◌, ◌≤◌, true, false, List, []}
use Rattle.std.proofs.Common.{◌∷◌, ◌++◌, length, drop, Some, None, slice_get, get_or, refl}
use Rattle.std.proofs.Common.{sym, ap, ◌∙◌, arith, nat_lt, ⊎_elim}
use Rattle.std.proofs.lemmas.Bool.{cases_Bool, cond-true, cond-false}
use Rattle.std.proofs.lemmas.Bool.Decides.{nat_tests}
use Rattle.std.proofs.lemmas.Option.{slice_get_within, slice_get-get_or}
use Rattle.coll_pending.specs.Queues.{Queue, key_at, pushed, popped}

-- ## items by their place

pub at_push : {A : Type 0} (xs : List A) (x : A) → slice_get (xs ++ x ∷ []) (length xs) ≡ Some x
at_push [] x = refl
at_push (y ∷ xs) x = at_push xs x

off_push : {A : Type 0} (xs : List A) (x : A) (i : ℕ) → i ≢ length xs →
    slice_get (xs ++ x ∷ []) i ≡ slice_get xs i
off_push [] x zero other = absurd (other refl)
off_push [] x (suc i) other = refl
off_push (y ∷ xs) x zero other = refl
off_push (y ∷ xs) x (suc i) other = off_push xs x i (λ e. other (ap suc e))

at_drop : {A : Type 0} (xs : List A) (i : ℕ) → slice_get (drop 1 xs) i ≡ slice_get xs (suc i)
at_drop [] i = refl
at_drop (x ∷ xs) i = refl

pub length_drop_one : {A : Type 0} (xs : List A) → 0 < length xs →
    length (drop 1 xs) + 1 ≡ length xs
length_drop_one [] lt = absurd (omega arith)
length_drop_one (x ∷ xs) lt = omega arith

-- ## keys by number

pub less_is : (a b : ℕ) → a < b → nat_lt a b ≡ true
less_is a b lt = grind (arith, nat_tests)

pub not_less : (a b : ℕ) → b ≤ a → nat_lt a b ≡ false
not_less a b le = grind (arith, nat_tests)

pub key_from : (q : Queue) (k : ℕ) → q.first ≤ k → key_at q k ≡ slice_get q.keys (k - q.first)
key_from q k le =
    cond-false (nat_lt k q.first) None (slice_get q.keys (k - q.first)) (not_less k q.first le)

key_before : (q : Queue) (k : ℕ) → k < q.first → key_at q k ≡ None
key_before q k lt =
    cond-true (nat_lt k q.first) None (slice_get q.keys (k - q.first)) (less_is k q.first lt)

pub key_within : (q : Queue) (k key : ℕ) → key_at q k ≡ Some key → (q.first ≤ k)
    × (k < q.first + length q.keys)
key_within q k key at = ⊎_elim
    (λ (t : nat_lt k q.first ≡ true). let none =
    sym (cond-true (nat_lt k q.first) None (slice_get q.keys (k - q.first)) t) ∙ at in
    absurd (cc))
    (λ (f : nat_lt k q.first ≡ false).
    let le : q.first ≤ k = grind (arith, nat_tests) in
    let lt = slice_get_within q.keys (k - q.first) key (sym (key_from q k le) ∙ at) in
    (le, omega (arith, lt, le)))
    (cases_Bool (nat_lt k q.first))

pub key_there : (q : Queue) (k : ℕ) → q.first ≤ k → k < q.first + length q.keys → (key : ℕ)
    × (key_at q k ≡ Some key)
key_there q k le lt = (
  get_or q.keys (k - q.first) 0,
  key_from q k le ∙ slice_get-get_or q.keys (k - q.first) 0 (omega (arith, le, lt)),
)

-- ## one key more

pub pushed_here : (q : Queue) (key : ℕ) → key_at (pushed q key) (q.first + length q.keys) ≡ Some key
pushed_here q key =
    key_from (pushed q key) (q.first + length q.keys) (omega arith)
    ∙ (ap (λ n. slice_get (q.keys ++ key ∷ []) n)
    (let e : q.first + length q.keys - q.first ≡ length q.keys = omega arith in e)
    ∙ at_push q.keys key)

pub pushed_other : (q : Queue) (key k : ℕ) → k ≢ q.first + length q.keys →
    key_at (pushed q key) k ≡ key_at q k
pushed_other q key k other = ⊎_elim
    (λ (t : nat_lt k q.first ≡ true).
    cond-true (nat_lt k q.first) None (slice_get (q.keys ++ key ∷ []) (k - q.first)) t
    ∙ sym (cond-true (nat_lt k q.first) None (slice_get q.keys (k - q.first)) t))
    (λ (f : nat_lt k q.first ≡ false).
    let le : q.first ≤ k = grind (arith, nat_tests) in
    key_from (pushed q key) k le
    ∙ (off_push q.keys key (k - q.first) (λ e. other (omega (arith, e, le)))
    ∙ sym (key_from q k le)))
    (cases_Bool (nat_lt k q.first))

-- ## one key less

pub popped_here : (q : Queue) (room : ℕ) → key_at (popped q room) q.first ≡ None
popped_here q room = key_before (popped q room) q.first (omega arith)

pub popped_other : (q : Queue) (room k : ℕ) → k ≢ q.first →
    key_at (popped q room) k ≡ key_at q k
popped_other q room k other = ⊎_elim
    (λ (t : nat_lt k q.first ≡ true).
    let lt : k < q.first = grind (arith, nat_tests) in
    key_before (popped q room) k (omega arith) ∙ sym (key_before q k lt))
    (λ (f : nat_lt k q.first ≡ false).
    let le : q.first ≤ k = grind (arith, nat_tests) in
    let more : q.first + 1 ≤ k = omega (arith, le, other) in
    let next : suc (k - (q.first + 1)) ≡ k - q.first = omega (arith, more) in
    key_from (popped q room) k more
    ∙ (at_drop q.keys (k - (q.first + 1))
    ∙ (ap (λ n. slice_get q.keys n) next ∙ sym (key_from q k le))))
    (cases_Bool (nat_lt k q.first))
