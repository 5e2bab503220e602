-- Products of sizes, from the prefix on; and lists made from the prefix on.
use Rattle.std.proofs.Common.{◌≡◌, ℕ, zero, suc, ◌+◌, ◌*◌, ◌/◌, ◌<◌, ◌≤◌, List, [], ◌∷◌, ◌++◌}
use Rattle.std.proofs.Common.{length, get_or, drop, ◌∙◌, ap, sym, refl, subst, arith, Bool, true}
use Rattle.std.proofs.Common.{false, ◌&&◌, cond, nat_lt, add-one, append_assoc}
use Rattle.std.specs.List.{list_all, items_where_true}
use Rattle.std.proofs.Math.Seq.{drop-cons}
use Rattle.std.proofs.Math.Nat.{mul-le-mul_left, mul-div_cancel}
use Rattle.std.proofs.lemmas.List.{drop_all, append-nil}
use Rattle.mpi_cart.specs.Grids.{volume}
use Rattle.mpi_cart.specs.Laid.{strides_of}

abbrev pub all_positive : List ℕ → Bool
all_positive dims = list_all (nat_lt 0) dims

-- the first of sizes that are all positive
pub record Positive (n : ℕ) (dims : List ℕ) : Type 0 where
  pub first : 0 < n
  pub rest : all_positive dims ≡ true

pub positive_parts : (n : ℕ) (dims : List ℕ) → all_positive (n ∷ dims) ≡ true → Positive n dims
positive_parts n dims h = at (nat_lt 0 n) (all_positive dims) refl refl h
  where
    at : (a b : Bool) → nat_lt 0 n ≡ a → all_positive dims ≡ b → a && b ≡ true → Positive n dims
    at true true e f g = record { first = grind arith; rest = f }
    at true false e f g = absurd (cc)
    at false b e f g = absurd (cc)

pub volume_positive : (dims : List ℕ) → all_positive dims ≡ true → 0 < volume dims
volume_positive [] h = omega arith
volume_positive (n ∷ dims) h =
    let w = positive_parts n dims h in
    let rest = volume_positive dims w.rest in
    let first = w.first in
    let most : n * 1 ≤ n * volume dims = mul-le-mul_left n
    (let z : 1 ≤ volume dims = omega arith in z) in
    omega arith

-- the product of the sizes before place k, and what those from there on add
pub record Multiplied (dims : List ℕ) (k so_far : ℕ) : Type 0 where
  pub is : so_far * volume (drop k dims) ≡ volume dims
  pub rest : all_positive (drop k dims) ≡ true

pub multiplied_none : (dims : List ℕ) → all_positive dims ≡ true → Multiplied dims 0 1
multiplied_none dims h = record { is = omega arith; rest = h }

at_next : (dims : List ℕ) (k : ℕ) → k < length dims → all_positive (drop k dims) ≡ true →
    Positive (get_or dims k 0) (drop (suc k) dims)
at_next dims k h p = positive_parts (get_or dims k 0) (drop (suc k) dims)
    (ap all_positive (sym (drop-cons dims k 0 h)) ∙ p)

next_product : (dims : List ℕ) (k so_far : ℕ) → k < length dims → Multiplied dims k so_far →
    Multiplied dims (k + 1) (so_far * get_or dims k 0)
next_product dims k so_far h w = rw add-one (record {
  is = (let here : so_far * volume (drop k dims) ≡ so_far *
      (get_or dims k 0 * volume (drop (suc k) dims)) = ap (λ l. so_far * volume l)
      (drop-cons dims k 0 h) in let is = w.is in omega arith);
  rest = (at_next dims k h w.rest).rest;
})

pub multiplied_more : (dims : List ℕ) (k so_far next : ℕ) → k < length dims →
    next ≡ so_far * get_or dims k 0 → Multiplied dims k so_far → Multiplied dims (k + 1) next
multiplied_more dims k so_far next h e w =
    subst (Multiplied dims (k + 1)) (sym e) (next_product dims k so_far h w)

pub multiplied_all : (dims : List ℕ) (k so_far : ℕ) → length dims ≤ k → Multiplied dims k so_far →
    so_far ≡ volume dims
multiplied_all dims k so_far h w = (let none : so_far * volume (drop k dims) ≡ so_far * 1 = ap
    (λ l. so_far * volume l) (drop_all k dims h) in let is = w.is in omega arith)

-- no product on the way passes the whole one
pub multiplied_low : (dims : List ℕ) (k so_far : ℕ) → k < length dims → Multiplied dims k so_far →
    so_far * get_or dims k 0 ≤ volume dims
multiplied_low dims k so_far h w =
    let more = next_product dims k so_far h w in
    let rest = volume_positive (drop (k + 1) dims) more.rest in
    let most : so_far * get_or dims k 0 * 1 ≤ so_far * get_or dims k 0 * volume (drop (k + 1) dims)
    = mul-le-mul_left (so_far * get_or dims k 0)
    (let z : 1 ≤ volume (drop (k + 1) dims) = omega arith in z) in
    let is = more.is in
    omega arith

pub ruleset products = (multiplied_none, multiplied_more, multiplied_all, multiplied_low)

-- the strides before place k, and what the sizes from there on multiply to
pub record Divided (dims : List ℕ) (k rest : ℕ) (strides : List ℕ) : Type 0 where
  pub rest_is : rest ≡ volume (drop k dims)
  pub strides_are : strides ++ strides_of (drop k dims) ≡ strides_of dims
  pub positive : all_positive (drop k dims) ≡ true

pub divided_none : (dims : List ℕ) (size : ℕ) → all_positive dims ≡ true → size ≡ volume dims →
    Divided dims 0 size []
divided_none dims size h e = record { rest_is = e; strides_are = refl; positive = h }

pub divisor_positive : (dims : List ℕ) (k rest : ℕ) (strides : List ℕ) → k < length dims →
    Divided dims k rest strides → 0 < get_or dims k 0
divisor_positive dims k rest strides h w = (at_next dims k h w.positive).first

strides-cons : (n : ℕ) (dims : List ℕ) → strides_of (n ∷ dims) ≡ volume dims ∷ strides_of dims
unfolding strides_of
strides-cons n dims = refl

strides-nil : strides_of [] ≡ []
unfolding strides_of
strides-nil = refl

next_rest : (dims : List ℕ) (k rest : ℕ) (strides : List ℕ) → k < length dims →
    Divided dims k rest strides → rest / get_or dims k 0 ≡ volume (drop (suc k) dims)
next_rest dims k rest strides h w =
    ap (λ v. v / get_or dims k 0) (w.rest_is
    ∙ (ap volume (drop-cons dims k 0 h)
    ∙ (let turned : get_or dims k 0 * volume (drop (suc k) dims) ≡ volume
    (drop (suc k) dims) * get_or dims k 0 = omega arith in turned)))
    ∙ mul-div_cancel (volume (drop (suc k) dims)) (divisor_positive dims k rest strides h w)

next_quotient : (dims : List ℕ) (k rest : ℕ) (strides : List ℕ) → k < length dims →
    Divided dims k rest strides →
    Divided dims (k + 1) (rest / get_or dims k 0) (strides ++ (rest / get_or dims k 0) ∷ [])
next_quotient dims k rest strides h w = rw add-one (record {
  rest_is = next_rest dims k rest strides h w;
  strides_are =
      append_assoc strides ((rest / get_or dims k 0) ∷ []) (strides_of (drop (suc k) dims))
      ∙ (ap (λ v. strides ++ v ∷ strides_of (drop (suc k) dims)) (next_rest dims k rest strides h w)
      ∙ (ap (λ l. strides ++ l) (sym (ap strides_of (drop-cons dims k 0 h)
      ∙ strides-cons (get_or dims k 0) (drop (suc k) dims)))
      ∙ w.strides_are));
  positive = (at_next dims k h w.positive).rest;
})

pub divided_more : (dims : List ℕ) (k rest : ℕ) (strides made : List ℕ) → k < length dims →
    made ≡ strides ++ (rest / get_or dims k 0) ∷ [] → Divided dims k rest strides →
    Divided dims (k + 1) (rest / get_or dims k 0) made
divided_more dims k rest strides made h e w = subst (Divided dims (k + 1) (rest / get_or dims k 0))
    (sym e) (next_quotient dims k rest strides h w)

pub divided_all : (dims : List ℕ) (k rest : ℕ) (strides : List ℕ) → length dims ≤ k →
    Divided dims k rest strides → strides ≡ strides_of dims
divided_all dims k rest strides h w = sym (append-nil strides)
    ∙ (ap (λ l. strides ++ l) (sym (ap strides_of (drop_all k dims h) ∙ strides-nil))
    ∙ w.strides_are)

pub ruleset quotients = (divided_none, divided_more, divided_all, divisor_positive)

-- the items kept before place k, and those kept from there on
pub record Kept {X : Type 0} (keep : List Bool) (items : List X) (k : ℕ) (made : List X)
    : Type 0 where
  pub is : made ++ items_where_true (drop k keep) (drop k items) ≡ items_where_true keep items

pub kept_none : {X : Type 0} (keep : List Bool) (items : List X) → Kept keep items 0 []
kept_none keep items = record { is = refl }

kept_at : {X : Type 0} (keep : List Bool) (items : List X) (k : ℕ) (x : X) → k < length keep →
    length keep ≡ length items →
    items_where_true (drop k keep) (drop k items)
    ≡ cond (get_or keep k false)
    (get_or items k x ∷ items_where_true (drop (suc k) keep) (drop (suc k) items))
    (items_where_true (drop (suc k) keep) (drop (suc k) items))
kept_at keep items k x h e =
    (λ i. items_where_true (drop-cons keep k false h i)
    (drop-cons items k x (let z : k < length items = omega arith in z) i))
    ∙ chosen (get_or keep k false)
  where
    chosen : (b : Bool) →
        items_where_true (b ∷ drop (suc k) keep) (get_or items k x ∷ drop (suc k) items)
        ≡ cond b (get_or items k x ∷ items_where_true (drop (suc k) keep) (drop (suc k) items))
        (items_where_true (drop (suc k) keep) (drop (suc k) items))
    chosen true = refl
    chosen false = refl

pub kept_more : {X : Type 0} (keep : List Bool) (items : List X) (k : ℕ) (made : List X) (x : X) →
    k < length keep → length keep ≡ length items → get_or keep k false ≡ true →
    x ≡ get_or items k x → Kept keep items k made → Kept keep items (k + 1) (made ++ x ∷ [])
kept_more keep items k made x h e is here w = rw add-one (record {
  is =
      append_assoc made (x ∷ []) (items_where_true (drop (suc k) keep) (drop (suc k) items))
      ∙ (ap (λ y. made ++ y ∷ items_where_true (drop (suc k) keep) (drop (suc k) items)) here
      ∙ (ap (λ l. made ++ l) (sym (kept_at keep items k x h e
      ∙ ap (λ b. cond b (get_or items k x
      ∷ items_where_true (drop (suc k) keep) (drop (suc k) items))
      (items_where_true (drop (suc k) keep) (drop (suc k) items))) is))
      ∙ w.is));
})

pub kept_less : {X : Type 0} (keep : List Bool) (items : List X) (k : ℕ) (made : List X) (x : X) →
    k < length keep → length keep ≡ length items → get_or keep k false ≡ false →
    Kept keep items k made → Kept keep items (k + 1) made
kept_less keep items k made x h e is w = rw add-one (record {
  is =
      ap (λ l. made ++ l) (sym (kept_at keep items k x h e
      ∙ ap (λ b. cond b (get_or items k x
      ∷ items_where_true (drop (suc k) keep) (drop (suc k) items))
      (items_where_true (drop (suc k) keep) (drop (suc k) items))) is))
      ∙ w.is;
})

-- where an item is kept, some are
pub kept_some : {X : Type 0} (keep : List Bool) (items : List X) (k : ℕ) → k < length keep →
    length keep ≡ length items → get_or keep k false ≡ true →
    0 < length (items_where_true keep items)
kept_some [] items k h e is = absurd (omega arith)
kept_some (b ∷ keep) [] k h e is = absurd (omega arith)
kept_some (true ∷ keep) (x ∷ items) k h e is = omega arith
kept_some (false ∷ keep) (x ∷ items) zero h e is = absurd (cc)
kept_some (false ∷ keep) (x ∷ items) (suc k) h e is =
    kept_some keep items k (omega arith) (omega arith) is

pub kept_all : {X : Type 0} (keep : List Bool) (items : List X) (k : ℕ) (made : List X) →
    length keep ≤ k → length keep ≡ length items → Kept keep items k made →
    made ≡ items_where_true keep items
kept_all keep items k made h e w =
    sym (append-nil made)
    ∙ (ap (λ l. made ++ items_where_true l (drop k items)) (sym (drop_all k keep h))
    ∙ w.is)

pub ruleset choices = (kept_none, kept_more, kept_less, kept_some, kept_all)
