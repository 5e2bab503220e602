-- What holds of all rolls.
use Rattle.std.proofs.Common.{◌≡◌, ℕ, ◌+◌, ◌-◌, ◌%◌, ◌<◌, ◌≤◌, List, ◌∙◌, ap, sym, refl, arith}
use Rattle.std.proofs.Common.{Bool, true, false, not, ◌&&◌, cond, Option, Some, None, nat_eq}
use Rattle.std.proofs.Common.{replicate, length, ⊎_elim, inl, inr}
use Rattle.std.specs.Prelude.{◌*◌, is_none}
use Rattle.std.specs.List.{list_any}
use Rattle.std.proofs.lemmas.Bool.{eqb-true, eqb-false, and_parts, cases_Bool, cases_lt}
use Rattle.wall_labels.specs.declared.op.Op.{Op}
use Rattle.mpi_cart.specs.Grids.{Topology, below, neighbour, opposite}
use Rattle.mpi_cart.specs.Laws.{NeighboursAreOpposite, NobodyPastTheLastSlot}
use Rattle.coll_routes.specs.declared.signature.Signature.{Signature}
use Rattle.coll_routes.specs.declared.signature.Signature.TheVariants.{Barrier, Bcast, Gather}
use Rattle.coll_routes.specs.declared.signature.Signature.TheVariants.{Gatherv, Scatter, Scatterv}
use Rattle.coll_routes.specs.declared.signature.Signature.TheVariants.{Allgather, Allgatherv}
use Rattle.coll_routes.specs.declared.signature.Signature.TheVariants.{Alltoall, Alltoallv, Reduce}
use Rattle.coll_routes.specs.declared.signature.Signature.TheVariants.{Allreduce, ReduceScatter}
use Rattle.coll_routes.specs.declared.signature.Signature.TheVariants.{ReduceScatterBlock, Scan}
use Rattle.coll_routes.specs.declared.signature.Signature.TheVariants.{Exscan, NeighborAllgather}
use Rattle.coll_routes.specs.declared.signature.Signature.TheVariants.{NeighborAllgatherv}
use Rattle.coll_routes.specs.declared.signature.Signature.TheVariants.{NeighborAlltoall}
use Rattle.coll_routes.specs.declared.signature.Signature.TheVariants.{NeighborAlltoallv, Dup}
use Rattle.coll_routes.specs.declared.signature.Signature.TheVariants.{Split, Create, CartCreate}
use Rattle.coll_routes.specs.declared.signature.Signature.TheVariants.{CartSub}
use Rattle.coll_routes.specs.declared.roll.Shape.{Shape}
use Rattle.coll_routes.specs.Signatures.{reduction, is_neighbourly, is_constructor}
use Rattle.coll_routes.specs.Rolls.{goes_by, places_by, in_block, slots, slots_in, neighbour_in}
use Rattle.coll_routes.specs.Rolls.{is_it, is_neighbour, stated_by, own_counts_in, given, goes}
use Rattle.coll_routes.specs.Rolls.{places, sends, routed, is_missing}
use Rattle.coll_routes.specs.Fit.{IsSized, IsSizedGrid}
use Rattle.coll_routes.specs.Laws.{JourneysEndAtPlaces, MissingPlacesGetNothing}
use Rattle.coll_routes.specs.Laws.{PlacesHaveOneSource, ReductionsHaveOneBlock, RoutesAreJourneys}
use Rattle.coll_routes.specs.Laws.{EmptyRanksReachNobody, BlocksAreDisjoint}
use Rattle.coll_routes.specs.Laws.{ConstructorsMoveNothing, gives_blocks}
use Rattle.coll_routes.proofs.AnyLemmas.{any_at, any_none, any_found}
use Rattle.coll_routes.proofs.BlockLemmas.{one_block}
use Rattle.coll_routes.proofs.RouteLemmas.{ends_at}

-- ## neighbours

pub it_is : (o : Option ℕ) (i : ℕ) → is_it o i ≡ true → o ≡ Some i
it_is (Some r) i e = ap (λ (n : ℕ). Some n) (eqb-true r i e)
it_is None i e = absurd (cc)

slot_of : NobodyPastTheLastSlot → (o : Option Topology) (i j t : ℕ) →
    is_it (neighbour_in o j t) i ≡ true → t < slots_in o
slot_of past (Some g) i j t e =
    elim (cases_lt t (2 * length g.dims)) as (λ _. t < 2 * length g.dims) [
      | inl within ↦ within
      | inr beyond
          ↦ (let none = past g j t beyond in let some = it_is (neighbour g j t) i e in absurd (cc))
    ]
slot_of past None i j t e = absurd (cc)

pub between : (sig : Signature) (shape : Shape) (counts : List ℕ) (i x j t : ℕ) →
    is_neighbourly sig ≡ true → goes_by sig shape counts i x j t ≡ true →
    (is_neighbour shape i j t ≡ true) × (places_by sig shape j ≡ slots shape)
unfolding is_neighbourly goes_by places_by
between Barrier shape counts i x j t b e = absurd (cc)
between (Bcast r ty n) shape counts i x j t b e = absurd (cc)
between (Gather r ty n) shape counts i x j t b e = absurd (cc)
between (Gatherv r ty) shape counts i x j t b e = absurd (cc)
between (Scatter r ty n) shape counts i x j t b e = absurd (cc)
between (Scatterv r ty) shape counts i x j t b e = absurd (cc)
between (Allgather ty n) shape counts i x j t b e = absurd (cc)
between (Allgatherv ty) shape counts i x j t b e = absurd (cc)
between (Alltoall ty n) shape counts i x j t b e = absurd (cc)
between (Alltoallv ty) shape counts i x j t b e = absurd (cc)
between (Reduce r op ty n) shape counts i x j t b e = absurd (cc)
between (Allreduce op ty n) shape counts i x j t b e = absurd (cc)
between (ReduceScatter op ty sizes) shape counts i x j t b e = absurd (cc)
between (ReduceScatterBlock op ty n) shape counts i x j t b e = absurd (cc)
between (Scan op ty n) shape counts i x j t b e = absurd (cc)
between (Exscan op ty n) shape counts i x j t b e = absurd (cc)
between (NeighborAllgather ty n) shape counts i x j t b e = (e, refl)
between (NeighborAllgatherv ty) shape counts i x j t b e = (e, refl)
between (NeighborAlltoall ty n) shape counts i x j t b e = (
  (and_parts (is_neighbour shape i j t)
      (in_block (replicate (slots shape) n) (opposite t) x) e).0,
  refl,
)
between (NeighborAlltoallv ty) shape counts i x j t b e =
    ((and_parts (is_neighbour shape i j t) (in_block counts (opposite t) x) e).0, refl)
between Dup shape counts i x j t b e = absurd (cc)
between Split shape counts i x j t b e = absurd (cc)
between (Create ranks) shape counts i x j t b e = absurd (cc)
between (CartCreate dims periods) shape counts i x j t b e = absurd (cc)
between (CartSub keep) shape counts i x j t b e = absurd (cc)

pub journeys_end_at_places : NobodyPastTheLastSlot → JourneysEndAtPlaces
journeys_end_at_places past roll i x j t h e = ⊎_elim
    (λ b. let both = between roll.sig roll.shape (own_counts_in (stated_by roll i)) i x j t b e in
    let inside = slot_of past roll.shape.grid i j t both.0 in omega (arith, both.1))
    (λ b. (ends_at roll.sig roll.shape (own_counts_in (stated_by roll i)) i x j t b h e).1)
    (cases_Bool (is_neighbourly roll.sig))

pub missing_places_get_nothing : MissingPlacesGetNothing
unfolding is_missing
missing_places_get_nothing roll i x j t e =
    let parts = and_parts (is_neighbourly roll.sig) (is_none (neighbour_in roll.shape.grid j t)) e
    in
    ⊎_elim
    (λ some.
    let both = between roll.sig roll.shape (own_counts_in (stated_by roll i)) i x j t parts.0 some
    in
    let there = it_is (neighbour_in roll.shape.grid j t) i both.0 in
    let none = parts.1 in
    absurd (cc))
    (λ no. no)
    (cases_Bool (goes roll i x j t))

-- ## sources

same_sender : (i k t : ℕ) → nat_eq t i ≡ true → nat_eq t k ≡ true → i ≡ k
same_sender i k t e f = sym (eqb-true t i e) ∙ eqb-true t k f

same_root : (i k r : ℕ) → nat_eq i r ≡ true → nat_eq k r ≡ true → i ≡ k
same_root i k r e f = eqb-true i r e ∙ sym (eqb-true k r f)

same_neighbour : (shape : Shape) (i k j t : ℕ) → is_neighbour shape i j t ≡ true →
    is_neighbour shape k j t ≡ true → i ≡ k
same_neighbour shape i k j t e f = let one = it_is (neighbour_in shape.grid j t) i e in
    let two = it_is (neighbour_in shape.grid j t) k f in cc

one_source : (sig : Signature) (shape : Shape) (mine yours : List ℕ) (i x k y j t : ℕ) →
    reduction sig ≡ None → goes_by sig shape mine i x j t ≡ true →
    goes_by sig shape yours k y j t ≡ true → i ≡ k
unfolding reduction goes_by
one_source Barrier shape mine yours i x k y j t d e f = absurd (cc)
one_source (Bcast r ty n) shape mine yours i x k y j t d e f =
    same_root i k r (and_parts (nat_eq i r) (not (nat_eq j r))
    (and_parts (nat_eq i r && not (nat_eq j r)) (nat_eq t 0) e).0).0
    (and_parts (nat_eq k r) (not (nat_eq j r))
    (and_parts (nat_eq k r && not (nat_eq j r)) (nat_eq t 0) f).0).0
one_source (Gather r ty n) shape mine yours i x k y j t d e f =
    same_sender i k t (and_parts (nat_eq j r) (nat_eq t i) e).1
    (and_parts (nat_eq j r) (nat_eq t k) f).1
one_source (Gatherv r ty) shape mine yours i x k y j t d e f =
    same_sender i k t (and_parts (nat_eq j r) (nat_eq t i) e).1
    (and_parts (nat_eq j r) (nat_eq t k) f).1
one_source (Scatter r ty n) shape mine yours i x k y j t d e f =
    same_root i k r (and_parts (nat_eq i r) (nat_eq t 0)
    (and_parts (nat_eq i r && nat_eq t 0) (in_block (replicate shape.size n) j x) e).0).0
    (and_parts (nat_eq k r) (nat_eq t 0)
    (and_parts (nat_eq k r && nat_eq t 0) (in_block (replicate shape.size n) j y) f).0).0
one_source (Scatterv r ty) shape mine yours i x k y j t d e f =
    same_root i k r (and_parts (nat_eq i r) (nat_eq t 0)
    (and_parts (nat_eq i r && nat_eq t 0) (in_block mine j x) e).0).0
    (and_parts (nat_eq k r) (nat_eq t 0)
    (and_parts (nat_eq k r && nat_eq t 0) (in_block yours j y) f).0).0
one_source (Allgather ty n) shape mine yours i x k y j t d e f = same_sender i k t e f
one_source (Allgatherv ty) shape mine yours i x k y j t d e f = same_sender i k t e f
one_source (Alltoall ty n) shape mine yours i x k y j t d e f =
    same_sender i k t (and_parts (nat_eq t i) (in_block (replicate shape.size n) j x) e).0
    (and_parts (nat_eq t k) (in_block (replicate shape.size n) j y) f).0
one_source (Alltoallv ty) shape mine yours i x k y j t d e f =
    same_sender i k t (and_parts (nat_eq t i) (in_block mine j x) e).0
    (and_parts (nat_eq t k) (in_block yours j y) f).0
one_source (Reduce r op ty n) shape mine yours i x k y j t d e f = absurd (cc)
one_source (Allreduce op ty n) shape mine yours i x k y j t d e f = absurd (cc)
one_source (ReduceScatter op ty sizes) shape mine yours i x k y j t d e f = absurd (cc)
one_source (ReduceScatterBlock op ty n) shape mine yours i x k y j t d e f = absurd (cc)
one_source (Scan op ty n) shape mine yours i x k y j t d e f = absurd (cc)
one_source (Exscan op ty n) shape mine yours i x k y j t d e f = absurd (cc)
one_source (NeighborAllgather ty n) shape mine yours i x k y j t d e f =
    same_neighbour shape i k j t e f
one_source (NeighborAllgatherv ty) shape mine yours i x k y j t d e f =
    same_neighbour shape i k j t e f
one_source (NeighborAlltoall ty n) shape mine yours i x k y j t d e f =
    same_neighbour shape i k j t
    (and_parts (is_neighbour shape i j t) (in_block (replicate (slots shape) n) (opposite t) x) e).0
    (and_parts (is_neighbour shape k j t) (in_block (replicate (slots shape) n) (opposite t) y) f).0
one_source (NeighborAlltoallv ty) shape mine yours i x k y j t d e f =
    same_neighbour shape i k j t
    (and_parts (is_neighbour shape i j t) (in_block mine (opposite t) x) e).0
    (and_parts (is_neighbour shape k j t) (in_block yours (opposite t) y) f).0
one_source Dup shape mine yours i x k y j t d e f = absurd (cc)
one_source Split shape mine yours i x k y j t d e f = absurd (cc)
one_source (Create ranks) shape mine yours i x k y j t d e f = absurd (cc)
one_source (CartCreate dims periods) shape mine yours i x k y j t d e f = absurd (cc)
one_source (CartSub keep) shape mine yours i x k y j t d e f = absurd (cc)

pub places_have_one_source : PlacesHaveOneSource
places_have_one_source roll i x k y j t d e f = one_source roll.sig roll.shape
    (own_counts_in (stated_by roll i)) (own_counts_in (stated_by roll k)) i x k y j t d e f

at_most_one : (b : Bool) → cond b 1 0 ≤ 1
at_most_one true = omega arith
at_most_one false = omega arith

none_or_one : (b : Bool) → cond b 0 1 ≤ 1
none_or_one true = omega arith
none_or_one false = omega arith

one_place : (sig : Signature) (shape : Shape) (op : Op) (j : ℕ) → reduction sig ≡ Some op →
    places_by sig shape j ≤ 1
unfolding reduction places_by
one_place Barrier shape op j e = absurd (cc)
one_place (Bcast r ty n) shape op j e = absurd (cc)
one_place (Gather r ty n) shape op j e = absurd (cc)
one_place (Gatherv r ty) shape op j e = absurd (cc)
one_place (Scatter r ty n) shape op j e = absurd (cc)
one_place (Scatterv r ty) shape op j e = absurd (cc)
one_place (Allgather ty n) shape op j e = absurd (cc)
one_place (Allgatherv ty) shape op j e = absurd (cc)
one_place (Alltoall ty n) shape op j e = absurd (cc)
one_place (Alltoallv ty) shape op j e = absurd (cc)
one_place (Reduce r own ty n) shape op j e = at_most_one (nat_eq j r)
one_place (Allreduce own ty n) shape op j e = omega arith
one_place (ReduceScatter own ty sizes) shape op j e = omega arith
one_place (ReduceScatterBlock own ty n) shape op j e = omega arith
one_place (Scan own ty n) shape op j e = omega arith
one_place (Exscan own ty n) shape op j e = none_or_one (nat_eq j 0)
one_place (NeighborAllgather ty n) shape op j e = absurd (cc)
one_place (NeighborAllgatherv ty) shape op j e = absurd (cc)
one_place (NeighborAlltoall ty n) shape op j e = absurd (cc)
one_place (NeighborAlltoallv ty) shape op j e = absurd (cc)
one_place Dup shape op j e = absurd (cc)
one_place Split shape op j e = absurd (cc)
one_place (Create ranks) shape op j e = absurd (cc)
one_place (CartCreate dims periods) shape op j e = absurd (cc)
one_place (CartSub keep) shape op j e = absurd (cc)

pub reductions_have_one_block : ReductionsHaveOneBlock
reductions_have_one_block roll op j e = one_place roll.sig roll.shape op j e

-- ## routes

pub routes_are_journeys : NobodyPastTheLastSlot → RoutesAreJourneys
unfolding routed
routes_are_journeys past roll i j h = (
  λ e. let place = any_found (λ t. sends roll i j t) 0 (places roll j) e in
      let element = any_found (λ x. goes roll i x j place.0) 0 (given roll i) place.2 in
      (element.0, place.0, omega (arith, element.1), element.2),
  λ w. any_at (λ t. sends roll i j t) 0 (places roll j) w.1 (omega arith)
      (omega (arith, journeys_end_at_places past roll i w.0 j w.1 h w.3))
      (any_at (λ x. goes roll i x j w.1) 0 (given roll i) w.0 (omega arith) (omega (arith, w.2))
      w.3),
)

pub empty_ranks_reach_nobody : EmptyRanksReachNobody
unfolding routed
empty_ranks_reach_nobody roll i j e = any_none (λ t. sends roll i j t) 0 (places roll j)
    (λ t h. ap (λ n. list_any (λ x. goes roll i x j t) (below n)) e)

nothing_moves : (sig : Signature) (shape : Shape) (counts : List ℕ) (i x j t : ℕ) →
    is_constructor sig ≡ true →
    (places_by sig shape j ≡ 0) × (goes_by sig shape counts i x j t ≡ false)
unfolding is_constructor places_by goes_by
nothing_moves Barrier shape counts i x j t e = absurd (cc)
nothing_moves (Bcast r ty n) shape counts i x j t e = absurd (cc)
nothing_moves (Gather r ty n) shape counts i x j t e = absurd (cc)
nothing_moves (Gatherv r ty) shape counts i x j t e = absurd (cc)
nothing_moves (Scatter r ty n) shape counts i x j t e = absurd (cc)
nothing_moves (Scatterv r ty) shape counts i x j t e = absurd (cc)
nothing_moves (Allgather ty n) shape counts i x j t e = absurd (cc)
nothing_moves (Allgatherv ty) shape counts i x j t e = absurd (cc)
nothing_moves (Alltoall ty n) shape counts i x j t e = absurd (cc)
nothing_moves (Alltoallv ty) shape counts i x j t e = absurd (cc)
nothing_moves (Reduce r op ty n) shape counts i x j t e = absurd (cc)
nothing_moves (Allreduce op ty n) shape counts i x j t e = absurd (cc)
nothing_moves (ReduceScatter op ty sizes) shape counts i x j t e = absurd (cc)
nothing_moves (ReduceScatterBlock op ty n) shape counts i x j t e = absurd (cc)
nothing_moves (Scan op ty n) shape counts i x j t e = absurd (cc)
nothing_moves (Exscan op ty n) shape counts i x j t e = absurd (cc)
nothing_moves (NeighborAllgather ty n) shape counts i x j t e = absurd (cc)
nothing_moves (NeighborAllgatherv ty) shape counts i x j t e = absurd (cc)
nothing_moves (NeighborAlltoall ty n) shape counts i x j t e = absurd (cc)
nothing_moves (NeighborAlltoallv ty) shape counts i x j t e = absurd (cc)
nothing_moves Dup shape counts i x j t e = (refl, refl)
nothing_moves Split shape counts i x j t e = (refl, refl)
nothing_moves (Create ranks) shape counts i x j t e = (refl, refl)
nothing_moves (CartCreate dims periods) shape counts i x j t e = (refl, refl)
nothing_moves (CartSub keep) shape counts i x j t e = (refl, refl)

pub constructors_move_nothing : ConstructorsMoveNothing
unfolding routed
constructors_move_nothing roll i x j t e =
    let nothing = nothing_moves roll.sig roll.shape (own_counts_in (stated_by roll i)) i x j t e in
    (nothing.0, nothing.1, ap (λ n. list_any (λ t. sends roll i j t) (below n)) nothing.0)

-- ## blocks

opposite_back : (t : ℕ) → opposite (opposite t) ≡ t
opposite_back t = at (nat_eq (t % 2) 0) refl
  where
    at : (b : Bool) → nat_eq (t % 2) 0 ≡ b → opposite (cond b (t + 1) (t - 1)) ≡ t
    at true is = (let even : t % 2 ≡ 0 = eqb-true (t % 2) 0 is in
        let odd : (t + 1) % 2 ≡ 1 = omega arith in rw odd (omega arith))
    at false is = (let odd : t % 2 ≡ 1 = (let ne = eqb-false (t % 2) 0 is in omega arith) in
        let even : (t - 1) % 2 ≡ 0 = omega arith in rw even (omega arith))

same_slot : (t u : ℕ) → opposite t ≡ opposite u → t ≡ u
same_slot t u e = sym (opposite_back t) ∙ ap (λ s. opposite s) e ∙ opposite_back u

met_from : NeighboursAreOpposite → (n : ℕ) (o : Option Topology) (i j k t : ℕ) → IsSizedGrid n o →
    j < n → k < n → is_it (neighbour_in o j t) i ≡ true → is_it (neighbour_in o k t) i ≡ true →
    j ≡ k
met_from back n (Some g) i j k t sized h l e f =
    let one = (back g j t i (omega (arith, sized)) (it_is (neighbour g j t) i e)).1 in
    let two = (back g k t i (omega (arith, sized)) (it_is (neighbour g k t) i f)).1 in
    cc
met_from back n None i j k t sized h l e f = absurd (cc)

module _ (back : NeighboursAreOpposite) (shape : Shape) (counts : List ℕ) (i x j t k u : ℕ)
    (sized : IsSized shape) (h : j < shape.size) (l : k < shape.size) where
  at_slots : (sizes : List ℕ) → (is_neighbour shape i j t && in_block sizes (opposite t) x) ≡ true →
      (is_neighbour shape i k u && in_block sizes (opposite u) x) ≡ true → (j ≡ k) × (t ≡ u)
  at_slots sizes e f =
      let one = and_parts (is_neighbour shape i j t) (in_block sizes (opposite t) x) e in
      let two = and_parts (is_neighbour shape i k u) (in_block sizes (opposite u) x) f in
      let same : t ≡ u = same_slot t u (one_block sizes (opposite t) (opposite u) x one.1 two.1)
      in (
        met_from back shape.size shape.grid i j k t sized h l one.0
            (ap (λ s. is_neighbour shape i k s) same ∙ two.0),
        same,
      )

  at_ranks : (a b : Bool) (sizes : List ℕ) → (a ≡ true → b ≡ true → t ≡ u) →
      (a && in_block sizes j x) ≡ true → (b && in_block sizes k x) ≡ true → (j ≡ k) × (t ≡ u)
  at_ranks a b sizes same e f =
      let one = and_parts a (in_block sizes j x) e in
      let two = and_parts b (in_block sizes k x) f in
      (one_block sizes j k x one.1 two.1, same one.0 two.0)

  at_first : (a : Bool) (sizes : List ℕ) → (a && nat_eq t 0 && in_block sizes j x) ≡ true →
      (a && nat_eq u 0 && in_block sizes k x) ≡ true → (j ≡ k) × (t ≡ u)
  at_first a sizes e f =
      at_ranks (a && nat_eq t 0) (a && nat_eq u 0) sizes (λ p q.
      eqb-true t 0 (and_parts a (nat_eq t 0) p).1
      ∙ sym (eqb-true u 0 (and_parts a (nat_eq u 0) q).1)) e f

  apart : (sig : Signature) → gives_blocks sig ≡ true → goes_by sig shape counts i x j t ≡ true →
      goes_by sig shape counts i x k u ≡ true → (j ≡ k) × (t ≡ u)
  unfolding gives_blocks goes_by
  apart Barrier b e f = absurd (cc)
  apart (Bcast r ty n) b e f = absurd (cc)
  apart (Gather r ty n) b e f = absurd (cc)
  apart (Gatherv r ty) b e f = absurd (cc)
  apart (Scatter r ty n) b e f = at_first (nat_eq i r) (replicate shape.size n) e f
  apart (Scatterv r ty) b e f = at_first (nat_eq i r) counts e f
  apart (Allgather ty n) b e f = absurd (cc)
  apart (Allgatherv ty) b e f = absurd (cc)
  apart (Alltoall ty n) b e f = at_ranks (nat_eq t i) (nat_eq u i) (replicate shape.size n)
      (λ p q. eqb-true t i p ∙ sym (eqb-true u i q)) e f
  apart (Alltoallv ty) b e f =
      at_ranks (nat_eq t i) (nat_eq u i) counts (λ p q. eqb-true t i p ∙ sym (eqb-true u i q)) e f
  apart (Reduce r op ty n) b e f = absurd (cc)
  apart (Allreduce op ty n) b e f = absurd (cc)
  apart (ReduceScatter op ty sizes) b e f =
      at_ranks (nat_eq t 0) (nat_eq u 0) sizes (λ p q. eqb-true t 0 p ∙ sym (eqb-true u 0 q)) e f
  apart (ReduceScatterBlock op ty n) b e f = at_ranks (nat_eq t 0) (nat_eq u 0)
      (replicate shape.size n) (λ p q. eqb-true t 0 p ∙ sym (eqb-true u 0 q)) e f
  apart (Scan op ty n) b e f = absurd (cc)
  apart (Exscan op ty n) b e f = absurd (cc)
  apart (NeighborAllgather ty n) b e f = absurd (cc)
  apart (NeighborAllgatherv ty) b e f = absurd (cc)
  apart (NeighborAlltoall ty n) b e f = at_slots (replicate (slots shape) n) e f
  apart (NeighborAlltoallv ty) b e f = at_slots counts e f
  apart Dup b e f = absurd (cc)
  apart Split b e f = absurd (cc)
  apart (Create ranks) b e f = absurd (cc)
  apart (CartCreate dims periods) b e f = absurd (cc)
  apart (CartSub keep) b e f = absurd (cc)

pub blocks_are_disjoint : NeighboursAreOpposite → BlocksAreDisjoint
blocks_are_disjoint back roll i x j t k u sized b h l e f =
    apart back roll.shape (own_counts_in (stated_by roll i)) i x j t k u sized h l roll.sig b e f
