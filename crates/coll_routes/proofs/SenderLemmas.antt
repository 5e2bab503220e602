-- Which ranks send to a place.
use Rattle.std.proofs.Common.{◌≡◌, ℕ, ◌+◌, ◌*◌, ◌<◌, ◌≤◌, List, sum, replicate, ◌∙◌, ap, sym}
use Rattle.std.proofs.Common.{refl, arith, Bool, true, false, not, ◌&&◌, cond, Option, Some, None}
use Rattle.std.proofs.Common.{IsSome, nat_le, nat_lt, nat_eq, ⊎_elim, subst}
use Rattle.std.specs.Prelude.{is_none}
use Rattle.std.specs.List.{list_any}
use Rattle.std.proofs.lemmas.Bool.{eqb-true, eq-eqb, and_parts, cases_Bool}
use Rattle.std.proofs.lemmas.Bool.{leb-true, leb-false, lt-ltb, le-ltb}
use Rattle.mpi_cart.specs.Grids.{below, opposite}
use Rattle.coll_routes.specs.declared.signature.Signature.{Signature}
use Rattle.coll_routes.specs.declared.signature.Signature.TheVariants.{Barrier, Bcast, Gather}
use Rattle.coll_routes.specs.declared.signature.Signature.TheVariants.{Gatherv, Scatter, Scatterv}
use Rattle.coll_routes.specs.declared.signature.Signature.TheVariants.{Allgather, Allgatherv}
use Rattle.coll_routes.specs.declared.signature.Signature.TheVariants.{Alltoall, Alltoallv, Reduce}
use Rattle.coll_routes.specs.declared.signature.Signature.TheVariants.{Allreduce, ReduceScatter}
use Rattle.coll_routes.specs.declared.signature.Signature.TheVariants.{ReduceScatterBlock, Scan}
use Rattle.coll_routes.specs.declared.signature.Signature.TheVariants.{Exscan, NeighborAllgather}
use Rattle.coll_routes.specs.declared.signature.Signature.TheVariants.{NeighborAllgatherv}
use Rattle.coll_routes.specs.declared.signature.Signature.TheVariants.{NeighborAlltoall}
use Rattle.coll_routes.specs.declared.signature.Signature.TheVariants.{NeighborAlltoallv, Dup}
use Rattle.coll_routes.specs.declared.signature.Signature.TheVariants.{Split, Create, CartCreate}
use Rattle.coll_routes.specs.declared.signature.Signature.TheVariants.{CartSub}
use Rattle.coll_routes.specs.declared.statement.Own.{Own}
use Rattle.coll_routes.specs.declared.statement.Own.TheVariants.{Plain, Counts, Split as SplitBy}
use Rattle.coll_routes.specs.declared.statement.Stated.{Stated}
use Rattle.coll_routes.specs.declared.roll.Shape.{Shape}
use Rattle.coll_routes.specs.declared.roll.Roll.{Roll}
use Rattle.coll_routes.specs.declared.fault.Asked.TheVariants.{Exactly}
use Rattle.coll_routes.specs.Signatures.{reduction, is_neighbourly, root}
use Rattle.coll_routes.specs.Rolls.{goes_by, places_by, in_block, is_it, neighbour_in}
use Rattle.coll_routes.specs.Rolls.{slots, stated_by, own_counts_in, given, goes, places, sends}
use Rattle.coll_routes.specs.Rolls.{is_missing}
use Rattle.coll_routes.specs.Faults.{is_met, asked, gives, stated_type, is_past}
use Rattle.coll_routes.specs.Fit.{IsFit}
use Rattle.coll_routes.specs.Lanes.{lane_by, sizes_by, holds}
use Rattle.coll_routes.specs.Senders.{sender_by, until_by, is_among, reaches_by}
use Rattle.coll_routes.proofs.AnyLemmas.{any_none}
use Rattle.coll_routes.proofs.FitLemmas.{no_fault, given_is}
use Rattle.coll_routes.proofs.LaneLemmas.{as_asked, root_is_good}

-- ## what goes is what the lane of a sender holds

and_true : (b : Bool) → (b && true) ≡ b
and_true true = refl
and_true false = refl

and_false : (b : Bool) → (b && false) ≡ false
and_false true = refl
and_false false = refl

same_eq : (a b : ℕ) → nat_eq a b ≡ nat_eq b a
same_eq a b = ⊎_elim
    (λ e. e ∙ sym (eq-eqb b a (sym (eqb-true a b e))))
    (λ e. e ∙ sym (⊎_elim
    (λ f. let back = eq-eqb a b (sym (eqb-true b a f)) in absurd (cc))
    (λ f. f)
    (cases_Bool (nat_eq b a))))
    (cases_Bool (nat_eq a b))

-- nobody is below 0
nobody : (i : ℕ) (z : Bool) → false ≡ (nat_lt i 0 && z)
nobody i z = ap (λ b. b && z) (sym (le-ltb i 0 (omega arith)))

up_to : (i j : ℕ) → nat_le i j ≡ nat_lt i (j + 1)
up_to i j = ⊎_elim
    (λ e. e ∙ sym (lt-ltb i (j + 1) (let low = leb-true i j e in omega arith)))
    (λ e. e ∙ sym (le-ltb i (j + 1) (let high = leb-false i j e in omega arith)))
    (cases_Bool (nat_le i j))

from_root : (c : Bool) (r i t : ℕ) →
    (nat_eq i r && c) ≡ is_among (cond c (Some r) None) 0 i t
from_root true r i t = and_true (nat_eq i r) ∙ same_eq i r
from_root false r i t = and_false (nat_eq i r) ∙ nobody i (nat_eq t 0)

to_root : (a : Bool) (i t : ℕ) → (a && nat_eq t i) ≡ is_among (cond a (Some t) None) 0 i t
to_root true i t = refl
to_root false i t = nobody i (nat_eq t 0)

from_neighbour : (o : Option ℕ) (i t : ℕ) → is_it o i ≡ is_among o 0 i t
from_neighbour (Some r) i t = refl
from_neighbour None i t = nobody i (nat_eq t 0)

from_all : (z : Bool) (i n : ℕ) → i < n → z ≡ (nat_lt i n && z)
from_all z i n h = ap (λ b. b && z) (sym (lt-ltb i n h))

all_to_root : (a z : Bool) (i n : ℕ) → i < n → (a && z) ≡ (nat_lt i (cond a n 0) && z)
all_to_root true z i n h = from_all z i n h
all_to_root false z i n h = nobody i z

swapped : (a b c : Bool) → (a && b && c) ≡ (a && (b && c))
swapped true b c = refl
swapped false b c = refl

whole : (g p : Bool) → g ≡ p → g ≡ (p && true)
whole g p e = e ∙ sym (and_true p)

part : (g p q : Bool) → g ≡ p → (g && q) ≡ (p && q)
part g p q e = ap (λ b. b && q) e

goes_to : (sig : Signature) (shape : Shape) (counts : List ℕ) (i x j t : ℕ) → i < shape.size →
    goes_by sig shape counts i x j t
    ≡ (reaches_by sig shape i j t && holds (lane_by sig j t) (sizes_by sig shape counts) x)
unfolding goes_by sender_by until_by lane_by sizes_by
goes_to Barrier shape counts i x j t h = part _ _ true (nobody i (nat_eq t 0))
goes_to (Bcast r ty n) shape counts i x j t h = whole _ _
    (swapped (nat_eq i r) (not (nat_eq j r)) (nat_eq t 0)
    ∙ from_root (not (nat_eq j r) && nat_eq t 0) r i t)
goes_to (Gather r ty n) shape counts i x j t h = whole _ _ (to_root (nat_eq j r) i t)
goes_to (Gatherv r ty) shape counts i x j t h = whole _ _ (to_root (nat_eq j r) i t)
goes_to (Scatter r ty n) shape counts i x j t h =
    part _ _ (in_block (replicate shape.size n) j x) (from_root (nat_eq t 0) r i t)
goes_to (Scatterv r ty) shape counts i x j t h =
    part _ _ (in_block counts j x) (from_root (nat_eq t 0) r i t)
goes_to (Allgather ty n) shape counts i x j t h = whole _ _ refl
goes_to (Allgatherv ty) shape counts i x j t h = whole _ _ refl
goes_to (Alltoall ty n) shape counts i x j t h = refl
goes_to (Alltoallv ty) shape counts i x j t h = refl
goes_to (Reduce r op ty n) shape counts i x j t h =
    whole _ _ (all_to_root (nat_eq j r) (nat_eq t 0) i shape.size h)
goes_to (Allreduce op ty n) shape counts i x j t h =
    whole _ _ (from_all (nat_eq t 0) i shape.size h)
goes_to (ReduceScatter op ty sizes) shape counts i x j t h =
    part _ _ (in_block sizes j x) (from_all (nat_eq t 0) i shape.size h)
goes_to (ReduceScatterBlock op ty n) shape counts i x j t h =
    part _ _ (in_block (replicate shape.size n) j x) (from_all (nat_eq t 0) i shape.size h)
goes_to (Scan op ty n) shape counts i x j t h =
    whole _ _ (ap (λ b. b && nat_eq t 0) (up_to i j))
goes_to (Exscan op ty n) shape counts i x j t h = whole _ _ refl
goes_to (NeighborAllgather ty n) shape counts i x j t h =
    whole _ _ (from_neighbour (neighbour_in shape.grid j t) i t)
goes_to (NeighborAllgatherv ty) shape counts i x j t h =
    whole _ _ (from_neighbour (neighbour_in shape.grid j t) i t)
goes_to (NeighborAlltoall ty n) shape counts i x j t h =
    part _ _ (in_block (replicate (slots shape) n) (opposite t) x)
    (from_neighbour (neighbour_in shape.grid j t) i t)
goes_to (NeighborAlltoallv ty) shape counts i x j t h =
    part _ _ (in_block counts (opposite t) x)
    (from_neighbour (neighbour_in shape.grid j t) i t)
goes_to Dup shape counts i x j t h = part _ _ true (nobody i (nat_eq t 0))
goes_to Split shape counts i x j t h = part _ _ true (nobody i (nat_eq t 0))
goes_to (Create ranks) shape counts i x j t h = part _ _ true (nobody i (nat_eq t 0))
goes_to (CartCreate dims periods) shape counts i x j t h = part _ _ true (nobody i (nat_eq t 0))
goes_to (CartSub keep) shape counts i x j t h = part _ _ true (nobody i (nat_eq t 0))

-- who sends gives
pub sender_gives : (sig : Signature) (shape : Shape) (i j t : ℕ) →
    reaches_by sig shape i j t ≡ true → gives sig i ≡ true
unfolding sender_by until_by gives
sender_gives (Bcast r ty n) shape i j t e = (and_parts (nat_eq i r) (not (nat_eq j r) && nat_eq t 0)
    (from_root (not (nat_eq j r) && nat_eq t 0) r i t ∙ e)).0
sender_gives (Scatter r ty n) shape i j t e =
    (and_parts (nat_eq i r) (nat_eq t 0) (from_root (nat_eq t 0) r i t ∙ e)).0
sender_gives (Scatterv r ty) shape i j t e =
    (and_parts (nat_eq i r) (nat_eq t 0) (from_root (nat_eq t 0) r i t ∙ e)).0
sender_gives other shape i j t e = refl

pub reducer_gives : (sig : Signature) (i : ℕ) → IsSome (reduction sig) → gives sig i ≡ true
unfolding reduction gives
reducer_gives (Bcast r ty n) i some = absurd (cc)
reducer_gives (Scatter r ty n) i some = absurd (cc)
reducer_gives (Scatterv r ty) i some = absurd (cc)
reducer_gives other i some = refl

-- a kind that doesn't reduce has one sender at most, and one that does has none alone
no_until : (sig : Signature) (shape : Shape) (j : ℕ) → reduction sig ≡ None →
    until_by sig shape j ≡ 0
unfolding reduction until_by
no_until (Reduce r op ty n) shape j e = absurd (cc)
no_until (Allreduce op ty n) shape j e = absurd (cc)
no_until (ReduceScatter op ty sizes) shape j e = absurd (cc)
no_until (ReduceScatterBlock op ty n) shape j e = absurd (cc)
no_until (Scan op ty n) shape j e = absurd (cc)
no_until (Exscan op ty n) shape j e = absurd (cc)
no_until other shape j e = refl

no_sender : (sig : Signature) (shape : Shape) (j t : ℕ) → IsSome (reduction sig) →
    sender_by sig shape j t ≡ None
unfolding reduction sender_by
no_sender (Reduce r op ty n) shape j t some = refl
no_sender (Allreduce op ty n) shape j t some = refl
no_sender (ReduceScatter op ty sizes) shape j t some = refl
no_sender (ReduceScatterBlock op ty n) shape j t some = refl
no_sender (Scan op ty n) shape j t some = refl
no_sender (Exscan op ty n) shape j t some = refl
no_sender other shape j t some = absurd (cc)

-- ## the source of a place that a rank has

no_root : (b : Bool) (r t n : ℕ) → t < (cond b 0 1) →
    is_none (cond (not b && nat_eq t 0) (Some r) None) ≡ false
no_root true r t n h = absurd (omega (arith, h))
no_root false r t n h = ap (λ c. is_none (cond c (Some r) None)) (eq-eqb t 0 (omega (arith, h)))

no_gatherer : (b : Bool) (t n : ℕ) → t < (cond b n 0) → is_none (cond b (Some t) None) ≡ false
no_gatherer true t n h = refl
no_gatherer false t n h = absurd (omega (arith, h))

no_scatterer : (r t : ℕ) → t < 1 → is_none (cond (nat_eq t 0) (Some r) None) ≡ false
no_scatterer r t h = ap (λ c. is_none (cond c (Some r) None)) (eq-eqb t 0 (omega arith))

none_sends : (sig : Signature) (shape : Shape) (j t : ℕ) → reduction sig ≡ None →
    t < places_by sig shape j → is_none (sender_by sig shape j t)
    ≡ (is_neighbourly sig && is_none (neighbour_in shape.grid j t))
unfolding reduction places_by sender_by is_neighbourly
none_sends Barrier shape j t e h = absurd (omega (arith, h))
none_sends (Bcast r ty n) shape j t e h = no_root (nat_eq j r) r t n h
none_sends (Gather r ty n) shape j t e h = no_gatherer (nat_eq j r) t shape.size h
none_sends (Gatherv r ty) shape j t e h = no_gatherer (nat_eq j r) t shape.size h
none_sends (Scatter r ty n) shape j t e h = no_scatterer r t h
none_sends (Scatterv r ty) shape j t e h = no_scatterer r t h
none_sends (Allgather ty n) shape j t e h = refl
none_sends (Allgatherv ty) shape j t e h = refl
none_sends (Alltoall ty n) shape j t e h = refl
none_sends (Alltoallv ty) shape j t e h = refl
none_sends (Reduce r op ty n) shape j t e h = absurd (cc)
none_sends (Allreduce op ty n) shape j t e h = absurd (cc)
none_sends (ReduceScatter op ty sizes) shape j t e h = absurd (cc)
none_sends (ReduceScatterBlock op ty n) shape j t e h = absurd (cc)
none_sends (Scan op ty n) shape j t e h = absurd (cc)
none_sends (Exscan op ty n) shape j t e h = absurd (cc)
none_sends (NeighborAllgather ty n) shape j t e h = refl
none_sends (NeighborAllgatherv ty) shape j t e h = refl
none_sends (NeighborAlltoall ty n) shape j t e h = refl
none_sends (NeighborAlltoallv ty) shape j t e h = refl
none_sends Dup shape j t e h = absurd (omega (arith, h))
none_sends Split shape j t e h = absurd (omega (arith, h))
none_sends (Create ranks) shape j t e h = absurd (omega (arith, h))
none_sends (CartCreate dims periods) shape j t e h = absurd (omega (arith, h))
none_sends (CartSub keep) shape j t e h = absurd (omega (arith, h))

root_low : (c : Bool) (r s n : ℕ) → is_past n (Some r) ≡ false → cond c (Some r) None ≡ Some s →
    s < n
root_low true r s n good e = (let same : r ≡ s = cc in let low = leb-false n r good in omega arith)
root_low false r s n good e = absurd (cc)

place_low : (b : Bool) (t s n : ℕ) → t < (cond b n 0) → cond b (Some t) None ≡ Some s → s < n
place_low true t s n h e = (let same : t ≡ s = cc in omega (arith, h))
place_low false t s n h e = absurd (cc)

rank_low : (t s n : ℕ) → t < n → Some t ≡ Some s → s < n
rank_low t s n h e = (let same : t ≡ s = cc in omega arith)

sender_low : (sig : Signature) (shape : Shape) (j t s : ℕ) → is_past shape.size (root sig) ≡ false →
    t < places_by sig shape j → (is_neighbourly sig ≡ true → s < shape.size) →
    sender_by sig shape j t ≡ Some s → s < shape.size
unfolding root places_by sender_by is_neighbourly
sender_low (Bcast r ty n) shape j t s good h near e =
    root_low (not (nat_eq j r) && nat_eq t 0) r s shape.size good e
sender_low (Gather r ty n) shape j t s good h near e = place_low (nat_eq j r) t s shape.size h e
sender_low (Gatherv r ty) shape j t s good h near e = place_low (nat_eq j r) t s shape.size h e
sender_low (Scatter r ty n) shape j t s good h near e = root_low (nat_eq t 0) r s shape.size good e
sender_low (Scatterv r ty) shape j t s good h near e = root_low (nat_eq t 0) r s shape.size good e
sender_low (Allgather ty n) shape j t s good h near e = rank_low t s shape.size h e
sender_low (Allgatherv ty) shape j t s good h near e = rank_low t s shape.size h e
sender_low (Alltoall ty n) shape j t s good h near e = rank_low t s shape.size h e
sender_low (Alltoallv ty) shape j t s good h near e = rank_low t s shape.size h e
sender_low (NeighborAllgather ty n) shape j t s good h near e = near refl
sender_low (NeighborAllgatherv ty) shape j t s good h near e = near refl
sender_low (NeighborAlltoall ty n) shape j t s good h near e = near refl
sender_low (NeighborAlltoallv ty) shape j t s good h near e = near refl
sender_low other shape j t s good h near e = absurd (cc)

pub stated_there : (o : Option Stated) → IsSome o → (s : Stated) × (o ≡ Some s)
stated_there (Some s) some = (s, refl)
stated_there None some = absurd (cc)

pub stated_is : (roll : Roll) (i : ℕ) → IsFit roll → i < roll.shape.size →
    (s : Stated) × (stated_by roll i ≡ Some s)
stated_is roll i fit h = stated_there (stated_by roll i) (fit.full i h)

and_when : (b p q : Bool) → (b ≡ true → p ≡ q) → (b && p) ≡ (b && q)
and_when true p q f = f refl
and_when false p q f = refl

module _ (roll : Roll) (j t : ℕ) (fit : IsFit roll) (to : j < roll.shape.size)
    (copies : reduction roll.sig ≡ None) where
  pub missing_is : (o : Option ℕ) → o ≡ sender_by roll.sig roll.shape j t → t < places roll j →
      is_none o ≡ is_missing roll j t
  unfolding is_missing
  missing_is o e h = ap (λ q. is_none q) e ∙ none_sends roll.sig roll.shape j t copies h

  pub source_low : (s : ℕ) → Some s ≡ sender_by roll.sig roll.shape j t → t < places roll j →
      (is_neighbourly roll.sig ≡ true → s < roll.shape.size) → s < roll.shape.size
  source_low s e h near =
      let said = stated_is roll j fit to in
      sender_low roll.sig roll.shape j t s
      (root_is_good roll.shape j roll.sig said.0.own (stated_type roll.sig) said.0.given
      (no_fault roll j said.0 fit said.1)) h near (sym e)

  pub source_gives : (s : ℕ) → Some s ≡ sender_by roll.sig roll.shape j t → gives roll.sig s ≡ true
  source_gives s e = sender_gives roll.sig roll.shape s j t
      (ap (λ o. is_among o (until_by roll.sig roll.shape j) s t) (sym e) ∙ eq-eqb s s refl)

  -- what comes from the source goes there, and nothing else
  pub comes_from : (s : ℕ) (start end : ℕ) → Some s ≡ sender_by roll.sig roll.shape j t →
      ((x : ℕ) → x < given roll s → (nat_le start x && nat_lt x end)
      ≡ holds (lane_by roll.sig j t)
      (sizes_by roll.sig roll.shape (own_counts_in (stated_by roll s))) x) →
      (i x : ℕ) → i < roll.shape.size → x < given roll i →
      (nat_eq s i && (nat_le start x && nat_lt x end)) ≡ goes roll i x j t
  comes_from s start end e covers i x h low =
      and_when (nat_eq s i) (nat_le start x && nat_lt x end) (held i x)
      (λ same. subst (λ k. x < given roll k → (nat_le start x && nat_lt x end) ≡ held k x)
      (eqb-true s i same) (covers x) low)
      ∙ (ap (λ o. is_among o (until_by roll.sig roll.shape j) i t && held i x) e
      ∙ sym (goes_to roll.sig roll.shape (own_counts_in (stated_by roll i)) i x j t h))
    where
      held : ℕ → ℕ → Bool
      held k x = holds (lane_by roll.sig j t)
          (sizes_by roll.sig roll.shape (own_counts_in (stated_by roll k))) x

  pub nothing_comes : None ≡ sender_by roll.sig roll.shape j t → (i x : ℕ) → i < roll.shape.size →
      false ≡ goes roll i x j t
  nothing_comes e i x h =
      (λ k. nobody i (nat_eq t 0) k && held)
      ∙ ((λ k. is_among (e k) (sym (no_until roll.sig roll.shape j copies) k) i t && held)
      ∙ sym (goes_to roll.sig roll.shape (own_counts_in (stated_by roll i)) i x j t h))
    where
      held : Bool
      held = holds (lane_by roll.sig j t)
          (sizes_by roll.sig roll.shape (own_counts_in (stated_by roll i))) x

-- ## from one rank to one place

module _ (roll : Roll) (i j t : ℕ) (h : i < roll.shape.size) where
  abbrev sizes : List ℕ
  sizes = sizes_by roll.sig roll.shape (own_counts_in (stated_by roll i))

  pub goes_along : (covered : Bool) (x : ℕ) → reaches_by roll.sig roll.shape i j t ≡ true →
      covered ≡ holds (lane_by roll.sig j t) sizes x → covered ≡ goes roll i x j t
  goes_along covered x e is = is ∙ ((λ k. sym e k && holds (lane_by roll.sig j t) sizes x)
      ∙ sym (goes_to roll.sig roll.shape (own_counts_in (stated_by roll i)) i x j t h))

  pub goes_nowhere : (x : ℕ) → reaches_by roll.sig roll.shape i j t ≡ false →
      false ≡ goes roll i x j t
  goes_nowhere x e = (λ k. sym e k && holds (lane_by roll.sig j t) sizes x)
      ∙ sym (goes_to roll.sig roll.shape (own_counts_in (stated_by roll i)) i x j t h)

  pub sends_along : reaches_by roll.sig roll.shape i j t ≡ true →
      list_any (λ x. holds (lane_by roll.sig j t) sizes x) (below (given roll i))
      ≡ sends roll i j t
  sends_along e = λ k. list_any
      (λ x. goes_along (holds (lane_by roll.sig j t) sizes x) x e refl k) (below (given roll i))

  pub sends_nothing : reaches_by roll.sig roll.shape i j t ≡ false → false ≡ sends roll i j t
  sends_nothing e = sym (any_none (λ x. goes roll i x j t) 0 (given roll i)
      (λ x low. sym (goes_nowhere x e)))

-- ## what a kind that reduces gathers

exact : (n : ℕ) (giving : Bool) (own : Own) (given : ℕ) → is_met (Exactly n) giving own given ≡ true
    → given ≡ cond giving n 0
exact n giving Plain given m = eqb-true given (cond giving n 0) m
exact n giving (Counts counts) given m = absurd (cc)
exact n giving (SplitBy colour key) given m = absurd (cc)

-- each rank gives as much as another
same_given : (sig : Signature) (shape : Shape) (i j : ℕ) (own other : Own) (given more : ℕ)
    → IsSome (reduction sig) → is_met (asked shape sig) (gives sig i) own given ≡ true
    → is_met (asked shape sig) (gives sig j) other more ≡ true → given ≡ more
unfolding reduction asked gives
same_given (Reduce r op ty n) shape i j own other given more some m k =
    exact n true own given m ∙ sym (exact n true other more k)
same_given (Allreduce op ty n) shape i j own other given more some m k =
    exact n true own given m ∙ sym (exact n true other more k)
same_given (ReduceScatter op ty sizes) shape i j own other given more some m k =
    exact (sum sizes) true own given m ∙ sym (exact (sum sizes) true other more k)
same_given (ReduceScatterBlock op ty n) shape i j own other given more some m k =
    exact (shape.size * n) true own given m ∙ sym (exact (shape.size * n) true other more k)
same_given (Scan op ty n) shape i j own other given more some m k =
    exact n true own given m ∙ sym (exact n true other more k)
same_given (Exscan op ty n) shape i j own other given more some m k =
    exact n true own given m ∙ sym (exact n true other more k)
same_given sig shape i j own other given more some m k = absurd (cc)

-- the sizes of the blocks are no rank's own
same_sizes : (sig : Signature) (shape : Shape) (mine yours : List ℕ) → IsSome (reduction sig) →
    sizes_by sig shape mine ≡ sizes_by sig shape yours
unfolding reduction sizes_by
same_sizes (Scatterv r ty) shape mine yours some = absurd (cc)
same_sizes (Alltoallv ty) shape mine yours some = absurd (cc)
same_sizes (NeighborAlltoallv ty) shape mine yours some = absurd (cc)
same_sizes other shape mine yours some = refl

-- of ranks i and j
module _ (roll : Roll) (i j : ℕ) (fit : IsFit roll) (some : IsSome (reduction roll.sig))
    (from : i < roll.shape.size) (to : j < roll.shape.size) where
  pub given_alike : given roll i ≡ given roll j
  given_alike =
      let one = stated_is roll i fit from in
      let two = stated_is roll j fit to in
      given_is roll i one.0 one.1
      ∙ (same_given roll.sig roll.shape i j one.0.own two.0.own one.0.given two.0.given some
      (as_asked roll i one.0 fit one.1) (as_asked roll j two.0 fit two.1)
      ∙ sym (given_is roll j two.0 two.1))

  pub sent_alike : (until start end : ℕ) → until ≡ until_by roll.sig roll.shape j →
      ((x : ℕ) → x < given roll j → (nat_le start x && nat_lt x end)
      ≡ holds (lane_by roll.sig j 0)
      (sizes_by roll.sig roll.shape (own_counts_in (stated_by roll j))) x) →
      (x : ℕ) → x < given roll i →
      (nat_lt i until && (nat_le start x && nat_lt x end)) ≡ goes roll i x j 0
  sent_alike until start end u covers x low =
      let alike = given_alike in
      (λ k. nat_lt i (u k) && covers x (omega arith) k)
      ∙ ((λ k. sym (and_true (nat_lt i (until_by roll.sig roll.shape j))) k
      && holds (lane_by roll.sig j 0) (same_sizes roll.sig roll.shape
      (own_counts_in (stated_by roll j)) (own_counts_in (stated_by roll i)) some k) x)
      ∙ (ap (λ o. is_among o (until_by roll.sig roll.shape j) i 0
      && holds (lane_by roll.sig j 0)
      (sizes_by roll.sig roll.shape (own_counts_in (stated_by roll i))) x)
      (sym (no_sender roll.sig roll.shape j 0 some))
      ∙ sym (goes_to roll.sig roll.shape (own_counts_in (stated_by roll i)) i x j 0 from)))

root_within : (a : Bool) (n : ℕ) → cond a n 0 ≤ n
root_within true n = omega arith
root_within false n = omega arith

-- the ranks that send are ranks
pub until_within : (sig : Signature) (shape : Shape) (j : ℕ) → j < shape.size →
    until_by sig shape j ≤ shape.size
unfolding until_by
until_within (Reduce r op ty n) shape j h = root_within (nat_eq j r) shape.size
until_within (Allreduce op ty n) shape j h = omega arith
until_within (ReduceScatter op ty sizes) shape j h = omega arith
until_within (ReduceScatterBlock op ty n) shape j h = omega arith
until_within (Scan op ty n) shape j h = omega arith
until_within (Exscan op ty n) shape j h = omega arith
until_within other shape j h = omega arith
