-- Who is routed to whom.
use Rattle.std.proofs.Common.{◌≡◌, ℕ, ◌<◌, List, ◌∙◌, ap, sym, refl, arith, Bool, true, false, not}
use Rattle.std.proofs.Common.{◌&&◌, cond, nat_le, nat_lt, nat_eq, replicate, ⊎_elim}
use Rattle.std.specs.List.{list_any}
use Rattle.std.proofs.lemmas.Bool.{eqb-true, and_parts, cases_Bool, ltb-true}
use Rattle.coll_routes.specs.declared.signature.Signature.{Signature}
use Rattle.coll_routes.specs.declared.signature.Signature.TheVariants.{Barrier, Bcast, Gather}
use Rattle.coll_routes.specs.declared.signature.Signature.TheVariants.{Gatherv, Scatter, Scatterv}
use Rattle.coll_routes.specs.declared.signature.Signature.TheVariants.{Allgather, Allgatherv}
use Rattle.coll_routes.specs.declared.signature.Signature.TheVariants.{Alltoall, Alltoallv, Reduce}
use Rattle.coll_routes.specs.declared.signature.Signature.TheVariants.{Allreduce, ReduceScatter}
use Rattle.coll_routes.specs.declared.signature.Signature.TheVariants.{ReduceScatterBlock, Scan}
use Rattle.coll_routes.specs.declared.signature.Signature.TheVariants.{Exscan, NeighborAllgather}
use Rattle.coll_routes.specs.declared.signature.Signature.TheVariants.{NeighborAllgatherv}
use Rattle.coll_routes.specs.declared.signature.Signature.TheVariants.{NeighborAlltoall}
use Rattle.coll_routes.specs.declared.signature.Signature.TheVariants.{NeighborAlltoallv, Dup}
use Rattle.coll_routes.specs.declared.signature.Signature.TheVariants.{Split, Create, CartCreate}
use Rattle.coll_routes.specs.declared.signature.Signature.TheVariants.{CartSub}
use Rattle.coll_routes.specs.declared.roll.Shape.{Shape}
use Rattle.coll_routes.specs.declared.roll.Roll.{Roll}
use Rattle.mpi_cart.specs.Grids.{below}
use Rattle.coll_routes.specs.Signatures.{is_neighbourly}
use Rattle.coll_routes.specs.Rolls.{goes_by, places_by, in_block, slots, stated_by, own_counts_in}
use Rattle.coll_routes.specs.Rolls.{given, goes, places, sends, routed}
use Rattle.coll_routes.specs.Lanes.{place_by}
use Rattle.coll_routes.proofs.AnyLemmas.{any_at, any_none, any_found}

-- a place is the one, and there is such a place
abbrev Ends : ℕ → ℕ → ℕ → Type 0
Ends t place places = (t ≡ place) × (t < places)

zero_of : (a : Bool) (t : ℕ) → (a && nat_eq t 0) ≡ true → Ends t 0 1
zero_of a t e = let h = eqb-true t 0 (and_parts a (nat_eq t 0) e).1 in (h, omega arith)

sender_of : (i t n : ℕ) → i < n → nat_eq t i ≡ true → Ends t i n
sender_of i t n h e = let p = eqb-true t i e in (p, omega arith)

at_root : (a : Bool) (i t n : ℕ) → i < n → (a && nat_eq t i) ≡ true → Ends t i (cond a n 0)
at_root true i t n h e = sender_of i t n h e
at_root false i t n h e = absurd (cc)

at_reducer : (a : Bool) (t : ℕ) → (a && nat_eq t 0) ≡ true → Ends t 0 (cond a 1 0)
at_reducer true t e = let p = eqb-true t 0 e in (p, omega arith)
at_reducer false t e = absurd (cc)

past_root : (a b : Bool) (t : ℕ) → (a && not b && nat_eq t 0) ≡ true → Ends t 0 (cond b 0 1)
past_root true true t e = absurd (cc)
past_root true false t e = let p = eqb-true t 0 e in (p, omega arith)
past_root false b t e = absurd (cc)

after_zero : (i j t : ℕ) → (nat_lt i j && nat_eq t 0) ≡ true → Ends t 0 (cond (nat_eq j 0) 0 1)
after_zero i j t e =
    let parts = and_parts (nat_lt i j) (nat_eq t 0) e in
    let lower = ltb-true i j parts.0 in
    let p = eqb-true t 0 parts.1 in
    ⊎_elim (λ at_zero. let z = eqb-true j 0 at_zero in absurd (omega arith))
    (λ later. (p, rw later (omega arith))) (cases_Bool (nat_eq j 0))

front_of : (a b c : Bool) → (a && b && c) ≡ true → (a && b) ≡ true
front_of true b c e = (and_parts b c e).0
front_of false b c e = absurd (cc)

-- outside the kinds between neighbours, what goes goes to one place, which the receiver has
pub ends_at : (sig : Signature) (shape : Shape) (counts : List ℕ) (i x j t : ℕ) →
    is_neighbourly sig ≡ false → i < shape.size → goes_by sig shape counts i x j t ≡ true →
    Ends t (place_by sig i) (places_by sig shape j)
unfolding is_neighbourly goes_by places_by place_by
ends_at Barrier shape counts i x j t b h e = absurd (cc)
ends_at (Bcast r ty n) shape counts i x j t b h e = past_root (nat_eq i r) (nat_eq j r) t e
ends_at (Gather r ty n) shape counts i x j t b h e = at_root (nat_eq j r) i t shape.size h e
ends_at (Gatherv r ty) shape counts i x j t b h e = at_root (nat_eq j r) i t shape.size h e
ends_at (Scatter r ty n) shape counts i x j t b h e = zero_of (nat_eq i r) t
    (front_of (nat_eq i r) (nat_eq t 0) (in_block (replicate shape.size n) j x) e)
ends_at (Scatterv r ty) shape counts i x j t b h e =
    zero_of (nat_eq i r) t (front_of (nat_eq i r) (nat_eq t 0) (in_block counts j x) e)
ends_at (Allgather ty n) shape counts i x j t b h e = sender_of i t shape.size h e
ends_at (Allgatherv ty) shape counts i x j t b h e = sender_of i t shape.size h e
ends_at (Alltoall ty n) shape counts i x j t b h e =
    sender_of i t shape.size h (and_parts (nat_eq t i) (in_block (replicate shape.size n) j x) e).0
ends_at (Alltoallv ty) shape counts i x j t b h e =
    sender_of i t shape.size h (and_parts (nat_eq t i) (in_block counts j x) e).0
ends_at (Reduce r op ty n) shape counts i x j t b h e = at_reducer (nat_eq j r) t e
ends_at (Allreduce op ty n) shape counts i x j t b h e = zero_of true t e
ends_at (ReduceScatter op ty sizes) shape counts i x j t b h e =
    zero_of true t (and_parts (nat_eq t 0) (in_block sizes j x) e).0
ends_at (ReduceScatterBlock op ty n) shape counts i x j t b h e =
    zero_of true t (and_parts (nat_eq t 0) (in_block (replicate shape.size n) j x) e).0
ends_at (Scan op ty n) shape counts i x j t b h e = zero_of (nat_le i j) t e
ends_at (Exscan op ty n) shape counts i x j t b h e = after_zero i j t e
ends_at (NeighborAllgather ty n) shape counts i x j t b h e = absurd (cc)
ends_at (NeighborAllgatherv ty) shape counts i x j t b h e = absurd (cc)
ends_at (NeighborAlltoall ty n) shape counts i x j t b h e = absurd (cc)
ends_at (NeighborAlltoallv ty) shape counts i x j t b h e = absurd (cc)
ends_at Dup shape counts i x j t b h e = absurd (cc)
ends_at Split shape counts i x j t b h e = absurd (cc)
ends_at (Create ranks) shape counts i x j t b h e = absurd (cc)
ends_at (CartCreate dims periods) shape counts i x j t b h e = absurd (cc)
ends_at (CartSub keep) shape counts i x j t b h e = absurd (cc)

-- between neighbours a rank has its slots
pub slot_places : (sig : Signature) (shape : Shape) (j : ℕ) → is_neighbourly sig ≡ true →
    places_by sig shape j ≡ slots shape
unfolding is_neighbourly places_by
slot_places Barrier shape j e = absurd (cc)
slot_places (Bcast r ty n) shape j e = absurd (cc)
slot_places (Gather r ty n) shape j e = absurd (cc)
slot_places (Gatherv r ty) shape j e = absurd (cc)
slot_places (Scatter r ty n) shape j e = absurd (cc)
slot_places (Scatterv r ty) shape j e = absurd (cc)
slot_places (Allgather ty n) shape j e = absurd (cc)
slot_places (Allgatherv ty) shape j e = absurd (cc)
slot_places (Alltoall ty n) shape j e = absurd (cc)
slot_places (Alltoallv ty) shape j e = absurd (cc)
slot_places (Reduce r op ty n) shape j e = absurd (cc)
slot_places (Allreduce op ty n) shape j e = absurd (cc)
slot_places (ReduceScatter op ty sizes) shape j e = absurd (cc)
slot_places (ReduceScatterBlock op ty n) shape j e = absurd (cc)
slot_places (Scan op ty n) shape j e = absurd (cc)
slot_places (Exscan op ty n) shape j e = absurd (cc)
slot_places (NeighborAllgather ty n) shape j e = refl
slot_places (NeighborAllgatherv ty) shape j e = refl
slot_places (NeighborAlltoall ty n) shape j e = refl
slot_places (NeighborAlltoallv ty) shape j e = refl
slot_places Dup shape j e = absurd (cc)
slot_places Split shape j e = absurd (cc)
slot_places (Create ranks) shape j e = absurd (cc)
slot_places (CartCreate dims periods) shape j e = absurd (cc)
slot_places (CartSub keep) shape j e = absurd (cc)

-- to its slots
pub by_slots : (roll : Roll) (i j : ℕ) → is_neighbourly roll.sig ≡ true →
    list_any (λ t. sends roll i j t) (below (slots roll.shape)) ≡ routed roll i j
unfolding routed
by_slots roll i j e =
    ap (λ n. list_any (λ t. sends roll i j t) (below n)) (sym (slot_places roll.sig roll.shape j e))

-- to its one place
pub by_place : (roll : Roll) (i j : ℕ) → is_neighbourly roll.sig ≡ false → i < roll.shape.size →
    sends roll i j (place_by roll.sig i) ≡ routed roll i j
unfolding routed
by_place roll i j e h =
    let counts : List ℕ = own_counts_in (stated_by roll i) in
    ⊎_elim
    (λ some.
    let found = any_found (λ x. goes roll i x j (place_by roll.sig i)) 0 (given roll i) some in
    let ends = ends_at roll.sig roll.shape counts i found.0 j (place_by roll.sig i) e h found.2 in
    some
    ∙ sym (any_at (λ t. sends roll i j t) 0 (places roll j) (place_by roll.sig i) (omega arith)
    (omega (arith, ends.1)) some))
    (λ none.
    none ∙ sym (any_none (λ t. sends roll i j t) 0 (places roll j) (λ t lt. elsewhere t none)))
    (cases_Bool (sends roll i j (place_by roll.sig i)))
  where
    elsewhere : (t : ℕ) → sends roll i j (place_by roll.sig i) ≡ false → sends roll i j t ≡ false
    elsewhere t none = ⊎_elim
        (λ some.
        let found = any_found (λ x. goes roll i x j t) 0 (given roll i) some in
        let ends = ends_at roll.sig roll.shape (own_counts_in (stated_by roll i)) i found.0 j t e h
        found.2 in
        ap (λ t. sends roll i j t) ends.0 ∙ none)
        (λ no. no)
        (cases_Bool (sends roll i j t))

pub ruleset routing = (by_slots, by_place)
