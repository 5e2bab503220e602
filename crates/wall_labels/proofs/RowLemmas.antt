-- What the set of a row contains, and how the set changes with the row.
use Rattle.std.proofs.Common.{◌≡◌, ◌≢◌, ℕ, zero, suc, ◌+◌, ◌-◌, ◌*◌, ◌/◌, ◌%◌, ◌^◌, ◌<◌, ◌≤◌, ◌||◌, ◌&&◌}
use Rattle.std.proofs.Common.{max, min, Bool, true, false, List, length, get_or, Option, Some, None}
use Rattle.std.proofs.Common.{IfSome, refl, sym, ap, ◌∙◌, ◌⊎◌, inl, inr, arith, nat_eq, not, bit_or}
use Rattle.std.proofs.Common.{bit_and, get_or-set_same, get_or-set_other, length-set}
use Rattle.std.specs.Prelude.{IfNone, is_some}
use Rattle.std.proofs.Math.ListN.{set, replicate}
use Rattle.std.proofs.lemmas.Bool.{eq-eqb, false≢true}
use Rattle.std.proofs.lemmas.Bool.Decides.{eqb_tells, leb_tells}
use Rattle.std.proofs.lemmas.List.{get_or_past}
use Rattle.std.proofs.lemmas.List.Folds.{list_any_at}
use Rattle.std.proofs.lemmas.List.FromFn.{get_or-range_with_len, length-range_with_len}
use Rattle.std.proofs.lemmas.Map.Views.{any-filter_same}
use Rattle.std.proofs.lemmas.Nat.Bits.{bit_at-lt, bit_at-zero, bit_at_or, bit_at_and}
use Rattle.std.proofs.lemmas.Nat.Bits.{bit_at_set_same, bit_at_set_other, bit_at_clear_same}
use Rattle.std.proofs.lemmas.Nat.Bits.{bit_at_clear_other, bit_at-trailing_zeros, shr_and_one}
use Rattle.std.proofs.lemmas.Nat.Bits.{bit_at_not}
use Rattle.std.specs.Int.{bit_at, bit_not, trailing_zeros, w64}
use Rattle.std.specs.Ordering.{nat_cmp, eq_by_cmp}
use Rattle.std.specs.Cmp.{nat_cmp_total, unsigned_tied}
use Rattle.std.specs.List.{list_any, filter, range_with_len}
use Rattle.std.specs.FinSet.{FinSet, empty, insert, union, contains, contains-empty}
use Rattle.std.specs.FinSet.{contains-insert, contains-union, contains-from_list_nat, same_set}
use Rattle.std.specs.FinSet.{nat_cmp-IsAntisymmetric}
use Rattle.wall_labels.specs.Rows.{is_bit, is_set, set_of_row, differs, is_in_one, IsClearFrom}
use Rattle.wall_labels.specs.Rows.{is_missing}

---- places of a row

-- no place past the last word is set
pub unset_past : (words : List ℕ) (q : ℕ) → 64 * length words ≤ q → is_set words q ≡ false
unfolding is_set
unset_past words q h =
    let past : length words ≤ q / 64 = omega arith in
    rw (get_or_past words (q / 64) 0 past, bit_at-zero (q % 64)) refl

and_true : (b : Bool) → (b && true) ≡ b
and_true true = refl
and_true false = refl

pub or_false : (b : Bool) → (b || false) ≡ b
or_false true = refl
or_false false = refl

pub and_false : (b : Bool) → (b && false) ≡ false
and_false true = refl
and_false false = refl

place_in_range : (n q : ℕ) → q < n → list_any (λ y. nat_eq y q) (range_with_len 0 n) ≡ true
place_in_range n q h =
    list_any_at (λ y. nat_eq y q) (range_with_len 0 n) q 0
    (omega (arith, length-range_with_len 0 n))
    (eq-eqb _ q (get_or-range_with_len 0 n q 0 h ∙ omega arith))

set_alone : (words : List ℕ) (q k : ℕ) → nat_eq k q ≡ true → is_set words k ≡ is_set words q
set_alone words q k e = elim (eqb_tells k q)
    [ inl t ↦ ap (is_set words) t.1 | inr f ↦ absurd (false≢true (sym f.0 ∙ e)) ]

pub contains-set_of_row : (words : List ℕ) (q : ℕ) → contains (set_of_row words) q ≡ is_set words q
unfolding set_of_row
contains-set_of_row words q =
    let n : ℕ = 64 * length words in
    contains-from_list_nat (filter (is_set words) (range_with_len 0 n)) q
    ∙ any-filter_same (λ y. nat_eq y q) (is_set words) (is_set words q) (set_alone words q)
    (range_with_len 0 n)
    ∙ elim (leb_tells n q) [
      | inl past ↦ rw (unset_past words q past.1) refl
      | inr within ↦ rw (place_in_range n q (omega (arith, within.1))) (and_true (is_set words q))
    ]

pub same_row : (s t : FinSet nat_cmp) → ((q : ℕ) → contains s q ≡ contains t q) → s ≡ t
same_row = same_set nat_cmp_total nat_cmp-IsAntisymmetric

-- the members of a set are the places of the row that it is of
pub held : (words : List ℕ) (s : FinSet nat_cmp) → set_of_row words ≡ s → (q : ℕ) →
    contains s q ≡ is_set words q
held words s e q = rw (← e) (contains-set_of_row words q)

pub place_below : (words : List ℕ) (q : ℕ) → is_set words q ≡ true → q < 64 * length words
place_below words q h = elim (leb_tells (64 * length words) q) [
  | inl past ↦ absurd (false≢true (sym (unset_past words q past.1) ∙ h))
  | inr within ↦ omega (arith, within.1)
]

-- the members of the set of a row of that many words are numbers below its end
pub held_below : (words : List ℕ) (s : FinSet nat_cmp) → set_of_row words ≡ s → (n : ℕ) →
    64 * length words ≤ n → (q : ℕ) → contains s q ≡ true → q < n
held_below words s e n h q has =
    omega (arith, place_below words q (sym (held words s e q) ∙ has), h)

---- rows of one bit more or less

bit : (x : ℕ) → x < 2 → (x ≡ zero) ⊎ (x ≡ suc zero)
bit zero h = inl refl
bit (suc x) h = inr (omega arith)

get_or-all_zero : (n q : ℕ) → get_or (replicate n 0) q 0 ≡ zero
get_or-all_zero zero q = refl
get_or-all_zero (suc n) zero = refl
get_or-all_zero (suc n) (suc q) = get_or-all_zero n q

unset_in_none : (n q : ℕ) → is_set (replicate n 0) q ≡ false
unfolding is_set
unset_in_none n q = rw (get_or-all_zero n (q / 64), bit_at-zero (q % 64)) refl

pub none_clear : (n : ℕ) → IsClearFrom (replicate n 0) 0
none_clear n = record { within = omega arith; clear = λ q h. unset_in_none n q }

pub set_of_no_row : (n : ℕ) → set_of_row (replicate n 0) ≡ empty
set_of_no_row n = same_row _ _ (λ q.
    contains-set_of_row (replicate n 0) q ∙ unset_in_none n q ∙ sym (contains-empty nat_cmp q))

-- the bit that the code reads
pub read_bit : (words : List ℕ) (n : ℕ) →
    nat_eq (bit_and (get_or words (n / 64) 0 / 2 ^ (n % 64)) 1) 1 ≡ is_set words n
unfolding is_set
read_bit words n = ap (λ b. nat_eq b 1) (shr_and_one (get_or words (n / 64) 0) (n % 64))

-- the row with this word in place of that of the number
module _ (words : List ℕ) (n v : ℕ) (h : n / 64 < length words) where
  pub same_word : (k : ℕ) → k / 64 ≡ n / 64 →
      is_set (set words (n / 64) v) k ≡ nat_eq (bit_at v (k % 64)) 1
  unfolding is_set
  same_word k e = rw (e, get_or-set_same words (n / 64) v 0 h) refl

  pub other_word : (k : ℕ) → k / 64 ≢ n / 64 → is_set (set words (n / 64) v) k ≡ is_set words k
  unfolding is_set
  other_word k e = rw (get_or-set_other words (n / 64) (k / 64) v 0 e) refl

this_word : (words : List ℕ) (n k : ℕ) → k / 64 ≡ n / 64 →
    nat_eq (bit_at (get_or words (n / 64) 0) (k % 64)) 1 ≡ is_set words k
unfolding is_set
this_word words n k e = rw e refl

parted : (n k : ℕ) → k ≢ n → k / 64 ≡ n / 64 → k % 64 ≢ n % 64
parted n k ne e same = ne (omega arith)

abbrev marked : List ℕ → ℕ → ℕ
marked words n = bit_or (get_or words (n / 64) 0) (1 * 2 ^ (n % 64) % 2 ^ 64)

marked_at : (words : List ℕ) (n k : ℕ) → n / 64 < length words →
    is_set (set words (n / 64) (marked words n)) k ≡ (nat_eq k n || is_set words k)
marked_at words n k h = elim (eqb_tells k n) [
  | inl e
      ↦ rw (e.0, e.1) (same_word words n (marked words n) h n refl
      ∙ ap (λ b. nat_eq b 1)
      (bit_at_set_same w64 (get_or words (n / 64) 0) (n % 64) (omega arith)))
  | inr e ↦ rw e.0 (elim (eqb_tells (k / 64) (n / 64)) [
    | inl w ↦
        same_word words n (marked words n) h k w.1
        ∙ ap (λ b. nat_eq b 1) (bit_at_set_other w64 (get_or words (n / 64) 0) (n % 64)
        (omega arith) (k % 64) (parted n k e.1 w.1))
        ∙ this_word words n k w.1
    | inr w ↦ other_word words n (marked words n) h k w.1
  ])
]

pub set_of_marked : (words : List ℕ) (n : ℕ) → n / 64 < length words →
    set_of_row (set words (n / 64) (marked words n)) ≡ insert (set_of_row words) n
set_of_marked words n h = same_row _ _ (λ q.
    contains-set_of_row (set words (n / 64) (marked words n)) q ∙ marked_at words n q h
    ∙ ap (λ b. b || is_set words q) (sym (unsigned_tied q n))
    ∙ ap (λ b. eq_by_cmp nat_cmp q n || b) (sym (contains-set_of_row words q))
    ∙ sym (contains-insert nat_cmp_total (set_of_row words) n q))

-- past the word of the number nothing more is set
pub marked_clear : (words : List ℕ) (n used : ℕ) → n / 64 < length words → IsClearFrom words used →
    IsClearFrom (set words (n / 64) (marked words n)) (max used (n / 64 + 1))
marked_clear words n used h clear = record {
  within = let w = clear.within in omega (arith, length-set {A = ℕ}, w, h);
  clear = λ q past. rw (marked_at words n q h, clear.clear q (omega arith)) (elim (eqb_tells q n) [
    | inl e ↦ absurd (let same = e.1 in omega arith)
    | inr e ↦ rw e.0 refl
  ]);
}

-- a word without the bit of the number
pub cleared_bit : (w n k : ℕ) → k / 64 ≡ n / 64 →
    is_bit (bit_and w (bit_not w64 (1 * 2 ^ (n % 64) % 2 ^ 64))) k
    ≡ (is_bit w k && differs (Some n) k)
cleared_bit w n k e = elim (eqb_tells n k) [
  | inl same ↦
      rw same.0 (ap
      (λ r. nat_eq (bit_at (bit_and w (bit_not w64 (1 * 2 ^ (n % 64) % 2 ^ 64))) (r % 64)) 1)
      (sym same.1)
      ∙ ap (λ b. nat_eq b 1) (bit_at_clear_same w64 w (n % 64) (omega arith))
      ∙ sym (and_false (is_bit w k)))
  | inr other ↦
      rw other.0 (ap (λ b. nat_eq b 1) (bit_at_clear_other w64 w (n % 64) (omega arith) (k % 64)
      (omega arith) (parted n k (λ (x : k ≡ n). other.1 (sym x)) e))
      ∙ sym (and_true (is_bit w k)))
]

-- a word that has no bit of the number
pub other_bit : (w n k : ℕ) → k ≢ n → is_bit w k ≡ (is_bit w k && differs (Some n) k)
other_bit w n k ne = elim (eqb_tells n k) [
  | inl same ↦ absurd (ne (sym same.1))
  | inr other ↦ rw other.0 (sym (and_true (is_bit w k)))
]

---- two rows, word by word

max_test : (x y : ℕ) → x < 2 → y < 2 → nat_eq (max x y) 1 ≡ (nat_eq x 1 || nat_eq y 1)
max_test x y hx hy = elim (bit x hx) [
  | inl ex ↦ elim (bit y hy) [ inl ey ↦ rw (ex, ey) refl | inr ey ↦ rw (ex, ey) refl ]
  | inr ex ↦ elim (bit y hy) [ inl ey ↦ rw (ex, ey) refl | inr ey ↦ rw (ex, ey) refl ]
]

min_test : (x y : ℕ) → x < 2 → y < 2 → nat_eq (min x y) 1 ≡ (nat_eq x 1 && nat_eq y 1)
min_test x y hx hy = elim (bit x hx) [
  | inl ex ↦ elim (bit y hy) [ inl ey ↦ rw (ex, ey) refl | inr ey ↦ rw (ex, ey) refl ]
  | inr ex ↦ elim (bit y hy) [ inl ey ↦ rw (ex, ey) refl | inr ey ↦ rw (ex, ey) refl ]
]

pub bit_of_either : (x y k : ℕ) → is_bit (bit_or x y) k ≡ (is_bit x k || is_bit y k)
bit_of_either x y k =
    ap (λ v. nat_eq v 1) (bit_at_or x y (k % 64))
    ∙ max_test (bit_at x (k % 64)) (bit_at y (k % 64)) (bit_at-lt x (k % 64)) (bit_at-lt y (k % 64))

pub bit_of_both : (x y k : ℕ) → is_bit (bit_and x y) k ≡ (is_bit x k && is_bit y k)
bit_of_both x y k =
    ap (λ v. nat_eq v 1) (bit_at_and x y (k % 64))
    ∙ min_test (bit_at x (k % 64)) (bit_at y (k % 64)) (bit_at-lt x (k % 64)) (bit_at-lt y (k % 64))

swap : (a b : Bool) → (a && b) ≡ (b && a)
swap true true = refl
swap true false = refl
swap false true = refl
swap false false = refl

-- the word that three rows make at a place
pub word_in_one : (words left right : List ℕ) (p k : ℕ) → k / 64 ≡ p →
    is_in_one words left right k
    ≡ is_bit (bit_and (get_or words p 0) (bit_or (get_or left p 0) (get_or right p 0))) k
unfolding is_set
word_in_one words left right p k e =
    let w : ℕ = get_or words p 0 in
    let l : ℕ = get_or left p 0 in
    let r : ℕ = get_or right p 0 in
    rw e (sym (bit_of_both w (bit_or l r) k ∙ ap (λ b. is_bit w k && b) (bit_of_either l r k)
    ∙ swap (is_bit w k) (is_bit l k || is_bit r k)))

-- the word of a row without one number
pub word_of_others : (words : List ℕ) (other : Option ℕ) (p w k : ℕ) → k / 64 ≡ p →
    is_bit w k ≡ (is_bit (get_or words p 0) k && differs other k) →
    (is_set words k && differs other k) ≡ is_bit w k
unfolding is_set
word_of_others words other p w k e is = rw e (sym is)

-- a row of which each word in use has the bits of two others, where nothing is set past the words
-- in use of the second
module _ (a b c : List ℕ) (used : ℕ)
    (joined : (p : ℕ) → p < used → get_or c p 0 ≡ bit_or (get_or a p 0) (get_or b p 0))
    (rest : (p : ℕ) → used ≤ p → get_or c p 0 ≡ get_or a p 0) (clear : IsClearFrom b used) where
  in_use : (k : ℕ) → k / 64 < used → is_set c k ≡ (is_set a k || is_set b k)
  unfolding is_set
  in_use k h = ap (λ w. is_bit w k) (joined (k / 64) h)
      ∙ bit_of_either (get_or a (k / 64) 0) (get_or b (k / 64) 0) k

  not_in_use : (k : ℕ) → used ≤ k / 64 → is_set c k ≡ is_set a k
  unfolding is_set
  not_in_use k h = ap (λ w. is_bit w k) (rest (k / 64) h)

  pub set_in_either : (k : ℕ) → is_set c k ≡ (is_set a k || is_set b k)
  set_in_either k = elim (leb_tells used (k / 64)) [
    | inl past
        ↦ not_in_use k past.1 ∙ sym (or_false (is_set a k))
        ∙ ap (λ x. is_set a k || x) (sym (clear.clear k (let h = past.1 in omega arith)))
    | inr here ↦ in_use k (let h = here.1 in omega arith)
  ]

pub set_of_joined : (words other new : List ℕ) →
    ((k : ℕ) → is_set new k ≡ (is_set words k || is_set other k)) →
    set_of_row new ≡ union (set_of_row words) (set_of_row other)
set_of_joined words other new h = same_row _ _ (λ q.
    contains-set_of_row new q ∙ h q
    ∙ (λ i. sym (contains-set_of_row words q) i || sym (contains-set_of_row other q) i)
    ∙ sym (contains-union nat_cmp_total (set_of_row words) (set_of_row other) q))

---- the lowest number of those that a word has at a place, where P is what the word's bits tell

abbrev pub lowest_at : ℕ → ℕ → ℕ
lowest_at p w = 64 * p + trailing_zeros w64 w

bit_test : (v b : ℕ) → v ≡ b → nat_eq v 1 ≡ nat_eq b 1
bit_test v b e = ap (λ x. nat_eq x 1) e

place_of : (p r k : ℕ) → r < 64 → k ≡ 64 * p + r → (k / 64 ≡ p) × (k % 64 ≡ r)
place_of p r k h e = (omega arith, omega arith)

module _ (P : ℕ → Bool) (p w : ℕ) (at : (k : ℕ) → k / 64 ≡ p → P k ≡ is_bit w k) where
  -- a word without bits tells of no number
  pub no_bit : w ≡ 0 → (k : ℕ) → k / 64 ≡ p → P k ≡ false
  no_bit e k here = at k here ∙ ap (λ v. nat_eq (bit_at v (k % 64)) 1) e
      ∙ bit_test (bit_at 0 (k % 64)) 0 (bit_at-zero (k % 64))

  pub none_more : w ≡ 0 → ((k : ℕ) → k < 64 * p → P k ≡ false) → (k : ℕ) → k < 64 * (p + 1) →
      P k ≡ false
  none_more e none k lt = elim (leb_tells (64 * p) k) [
    | inl here ↦ no_bit e k (omega (arith, here.1))
    | inr below ↦ none k (omega (arith, below.1))
  ]

module _ (P : ℕ → Bool) (p w : ℕ) (at : (k : ℕ) → k / 64 ≡ p → P k ≡ is_bit w k) (some : 0 < w)
    (fits : w < 2 ^ 64) where
  lowest_within : trailing_zeros w64 w < 64
  lowest_within = (bit_at-trailing_zeros w64 w some fits).0

  pub lowest_is : P (lowest_at p w) ≡ true
  lowest_is =
      let here = place_of p (trailing_zeros w64 w) (lowest_at p w) lowest_within refl in
      at (lowest_at p w) here.0
      ∙ ap (λ r. nat_eq (bit_at w r) 1) here.1
      ∙ bit_test (bit_at w (trailing_zeros w64 w)) 1 (bit_at-trailing_zeros w64 w some fits).1

  -- and none of the word's numbers below it is one
  lowest_is_first : (k : ℕ) → k < lowest_at p w → k / 64 ≡ p → P k ≡ false
  lowest_is_first k lt here =
      let below : k % 64 < trailing_zeros w64 w = omega arith in
      at k here
      ∙ bit_test (bit_at w (k % 64)) 0
      ((bit_at-trailing_zeros w64 w some fits).2 (k % 64) below)

  pub none_before : ((k : ℕ) → k < 64 * p → P k ≡ false) → (k : ℕ) → k < lowest_at p w → P k ≡ false
  none_before none k lt = elim (leb_tells (64 * p) k) [
    | inl here ↦ lowest_is_first k lt (omega (arith, here.1, lowest_within))
    | inr below ↦ none k (omega (arith, below.1))
  ]

-- none up to the words in use, and none past them
pub none_at_all : (P : ℕ → Bool) (used : ℕ) → ((k : ℕ) → k < 64 * used → P k ≡ false) →
    ((k : ℕ) → 64 * used ≤ k → P k ≡ false) → (k : ℕ) → P k ≡ false
none_at_all P used below past k = elim (leb_tells (64 * used) k)
    [ inl high ↦ past k high.1 | inr low ↦ below k (omega (arith, low.1)) ]

---- what was found, if anything

pub some_then : (o : Option ℕ) (P Q : ℕ → Type 0) → ((d : ℕ) → P d → Q d) → IfSome o P → IfSome o Q
some_then None P Q f h = tt
some_then (Some d) P Q f h = f d h

pub both_some : (o : Option ℕ) (P Q : ℕ → Type 0) → IfSome o P → IfSome o Q →
    IfSome o (λ d. P d × Q d)
both_some None P Q p q = tt
both_some (Some d) P Q p q = (p, q)

pub none_then : (o : Option ℕ) (P Q : Type 0) → (P → Q) → IfNone o P → IfNone o Q
none_then None P Q f h = f h
none_then (Some d) P Q f h = tt

pub some_is : (o : Option ℕ) (P : ℕ → Type 0) → is_some o ≡ true → IfSome o P → (d : ℕ) × P d
some_is (Some d) P e h = (d, h)
some_is None P e h = absurd (false≢true e)

pub is_some_unless : (o : Option ℕ) (P : Type 0) → IfNone o P → ¬ P → is_some o ≡ true
is_some_unless (Some d) P h never = refl
is_some_unless None P h never = absurd (never h)

---- all but one

pub differs_is : (other : Option ℕ) (n : ℕ) → differs other n ≡ true → other ≢ Some n
differs_is None n h same = cc
differs_is (Some d) n h same = false≢true (sym (ap not (eq-eqb d n (some_same d n same))) ∙ h)
  where
    some_same : (a b : ℕ) → Some a ≡ Some b → a ≡ b
    some_same a b e = cc

pub is_given : (other : Option ℕ) (n : ℕ) → differs other n ≡ false → other ≡ Some n
is_given None n h = absurd (false≢true (sym h))
is_given (Some d) n h = elim (eqb_tells d n) [
  | inl e ↦ ap (λ (x : ℕ). Some x) e.1
  | inr e ↦ absurd (false≢true (sym h ∙ ap not e.0))
]

pub member_is_given : (set : Bool) (other : Option ℕ) (n : ℕ) → (set && differs other n) ≡ false →
    set ≡ true → other ≡ Some n
member_is_given true other n h is = is_given other n h
member_is_given false other n h is = absurd (false≢true is)

---- what two sets share

pub shared_is : (l r s : Bool) → ((l || r) && s) ≡ true → (s ≡ true) × ((l ≡ true) ⊎ (r ≡ true))
shared_is true r true h = (refl, inl refl)
shared_is false true true h = (refl, inr refl)
shared_is true r false h = absurd (false≢true h)
shared_is false true false h = absurd (false≢true h)
shared_is false false s h = absurd (false≢true h)

pub is_shared : (l r s : Bool) → ((l || r) && s) ≡ false →
    ¬ ((s ≡ true) × ((l ≡ true) ⊎ (r ≡ true)))
is_shared true r s h = λ both. false≢true (sym h ∙ both.0)
is_shared false true s h = λ both. false≢true (sym h ∙ both.0)
is_shared false false s h = λ both. elim both.1 [ inl e ↦ false≢true e | inr e ↦ false≢true e ]

pub either_is : {P : Type 0} → P ⊎ P → P
either_is both = elim both [ inl p ↦ p | inr p ↦ p ]

-- what three sets tell, by the rows that they are of
pub members_in_one : {s l r a b c : Bool} → s ≡ a → l ≡ b → r ≡ c →
    ((l || r) && s) ≡ ((b || c) && a)
members_in_one s l r = λ i. (l i || r i) && s i

-- past the words in use of one of two rows nothing is set in both
pub none_in_either : (words other : List ℕ) (m n used : ℕ) → used ≡ min m n → IsClearFrom words m →
    IsClearFrom other n → (k : ℕ) → 64 * used ≤ k → is_in_one words other other k ≡ false
none_in_either words other m n used e one two k past = elim (leb_tells (64 * m) k) [
  | inl high ↦ ap (λ b. (is_set other k || is_set other k) && b) (one.clear k high.1) ∙ and_false _
  | inr low ↦ let least = low.1 in ap (λ b. (b || b) && is_set words k) (two.clear k (omega arith))
]

---- what one row lacks of another

opposite_test : (y : ℕ) → y < 2 → nat_eq (1 - y) 1 ≡ not (nat_eq y 1)
opposite_test y h = elim (bit y h) [ inl e ↦ rw e refl | inr e ↦ rw e refl ]

bit_of_not : (y k : ℕ) → y < 2 ^ 64 → is_bit (bit_not w64 y) k ≡ not (is_bit y k)
bit_of_not y k fits =
    ap (λ v. nat_eq v 1) (bit_at_not w64 y (k % 64) fits (omega arith))
    ∙ opposite_test (bit_at y (k % 64)) (bit_at-lt y (k % 64))

-- the word that two rows make at a place
pub word_missing : (words other : List ℕ) (p k : ℕ) → get_or other p 0 < 2 ^ 64 → k / 64 ≡ p →
    is_missing words other k
    ≡ is_bit (bit_and (get_or words p 0) (bit_not w64 (get_or other p 0))) k
unfolding is_set
word_missing words other p k fits e =
    let w : ℕ = get_or words p 0 in
    let o : ℕ = get_or other p 0 in
    rw e (sym (bit_of_both w (bit_not w64 o) k ∙ ap (λ b. is_bit w k && b) (bit_of_not o k fits)))

pub missing_is : (s o : Bool) → (s && not o) ≡ true → (s ≡ true) × (o ≡ false)
missing_is true false h = (refl, refl)
missing_is true true h = absurd (false≢true h)
missing_is false o h = absurd (false≢true h)

pub none_missing : (s o : Bool) → (s && not o) ≡ false → s ≡ true → o ≡ true
none_missing true true h is = refl
none_missing true false h is = absurd (false≢true (sym h))
none_missing false o h is = absurd (false≢true is)

pub is_none_unless : (o : Option ℕ) (P : ℕ → Type 0) → IfSome o P → ((d : ℕ) → ¬ (P d)) →
    is_some o ≡ false
is_none_unless None P h never = refl
is_none_unless (Some d) P h never = absurd (never d h)

pub none_is : (o : Option ℕ) (P : Type 0) → is_some o ≡ false → IfNone o P → P
none_is None P e h = h
none_is (Some d) P e h = absurd (false≢true (sym e))
