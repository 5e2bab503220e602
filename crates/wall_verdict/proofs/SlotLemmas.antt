-- What comes to a receiver between neighbours: its neighbours bring all of it.
use Rattle.std.proofs.Common.{◌≡◌, ℕ, ◌<◌, Bool, true, false, ◌&&◌, cond, List, Option, Some, None}
use Rattle.std.proofs.Common.{slice_get, refl, sym, ap, ◌∙◌, arith}
use Rattle.std.specs.Option.{option_and_then}
use Rattle.std.specs.List.{list_any}
use Rattle.std.proofs.lemmas.Bool.{false≢true}
use Rattle.std.proofs.lemmas.Option.{slice_get_within}
use Rattle.mpi_cart.specs.Grids.{below}
use Rattle.coll_routes.specs.declared.signature.Signature.{Signature}
use Rattle.coll_routes.specs.declared.signature.Signature.TheVariants.{Barrier, Bcast, Gather}
use Rattle.coll_routes.specs.declared.signature.Signature.TheVariants.{Gatherv, Scatter, Scatterv}
use Rattle.coll_routes.specs.declared.signature.Signature.TheVariants.{Allgather, Allgatherv}
use Rattle.coll_routes.specs.declared.signature.Signature.TheVariants.{Alltoall, Alltoallv, Reduce}
use Rattle.coll_routes.specs.declared.signature.Signature.TheVariants.{Allreduce, ReduceScatter}
use Rattle.coll_routes.specs.declared.signature.Signature.TheVariants.{ReduceScatterBlock, Scan}
use Rattle.coll_routes.specs.declared.signature.Signature.TheVariants.{Exscan, NeighborAllgather}
use Rattle.coll_routes.specs.declared.signature.Signature.TheVariants.{NeighborAllgatherv}
use Rattle.coll_routes.specs.declared.signature.Signature.TheVariants.{NeighborAlltoall}
use Rattle.coll_routes.specs.declared.signature.Signature.TheVariants.{NeighborAlltoallv, Dup}
use Rattle.coll_routes.specs.declared.signature.Signature.TheVariants.{Split, Create, CartCreate}
use Rattle.coll_routes.specs.declared.signature.Signature.TheVariants.{CartSub}
use Rattle.coll_routes.specs.declared.statement.Stated.{Stated}
use Rattle.coll_routes.specs.declared.roll.Shape.{Shape}
use Rattle.coll_routes.specs.declared.roll.Roll.{Roll}
use Rattle.coll_routes.specs.Signatures.{is_neighbourly, reduction}
use Rattle.coll_routes.specs.Rolls.{goes_by, is_neighbour, neighbour_in, stated_by}
use Rattle.coll_routes.specs.Rolls.{stated_in, label_in, label_of, own_counts_in, given, goes}
use Rattle.coll_routes.specs.Rolls.{places, sends, routed}
use Rattle.coll_routes.specs.Fit.{IsFit}
use Rattle.coll_routes.proofs.CollRoutesLemmas.{any_at, any_found, it_is}
use Rattle.wall_verdict.specs.Charges.{contribution, contributed, dataset_in, is_that}
use Rattle.wall_verdict.specs.Inflows.{from_slot, is_brought}

same_tests : (a b : Bool) → (a ≡ true → b ≡ true) → (b ≡ true → a ≡ true) → a ≡ b
same_tests true b there back = sym (there refl)
same_tests false true there back = back refl
same_tests false false there back = refl

first_holds : (a b : Bool) → (a && b) ≡ true → a ≡ true
first_holds true b h = refl
first_holds false b h = absurd (false≢true h)

---- What is routed comes from a neighbour.

goes_near : (sig : Signature) (shape : Shape) (counts : List ℕ) (i x j t : ℕ) →
    is_neighbourly sig ≡ true
    → goes_by sig shape counts i x j t ≡ true → is_neighbour shape i j t ≡ true
unfolding goes_by is_neighbourly
goes_near (NeighborAllgather ty n) shape counts i x j t e h = h
goes_near (NeighborAllgatherv ty) shape counts i x j t e h = h
goes_near (NeighborAlltoall ty n) shape counts i x j t e h =
    first_holds (is_neighbour shape i j t) _ h
goes_near (NeighborAlltoallv ty) shape counts i x j t e h =
    first_holds (is_neighbour shape i j t) _ h
goes_near Barrier shape counts i x j t e h = absurd (false≢true e)
goes_near (Bcast r ty n) shape counts i x j t e h = absurd (false≢true e)
goes_near (Gather r ty n) shape counts i x j t e h = absurd (false≢true e)
goes_near (Gatherv r ty) shape counts i x j t e h = absurd (false≢true e)
goes_near (Scatter r ty n) shape counts i x j t e h = absurd (false≢true e)
goes_near (Scatterv r ty) shape counts i x j t e h = absurd (false≢true e)
goes_near (Allgather ty n) shape counts i x j t e h = absurd (false≢true e)
goes_near (Allgatherv ty) shape counts i x j t e h = absurd (false≢true e)
goes_near (Alltoall ty n) shape counts i x j t e h = absurd (false≢true e)
goes_near (Alltoallv ty) shape counts i x j t e h = absurd (false≢true e)
goes_near (Reduce r op ty n) shape counts i x j t e h = absurd (false≢true e)
goes_near (Allreduce op ty n) shape counts i x j t e h = absurd (false≢true e)
goes_near (ReduceScatter op ty sizes) shape counts i x j t e h = absurd (false≢true e)
goes_near (ReduceScatterBlock op ty n) shape counts i x j t e h = absurd (false≢true e)
goes_near (Scan op ty n) shape counts i x j t e h = absurd (false≢true e)
goes_near (Exscan op ty n) shape counts i x j t e h = absurd (false≢true e)
goes_near Dup shape counts i x j t e h = absurd (false≢true e)
goes_near Split shape counts i x j t e h = absurd (false≢true e)
goes_near (Create ranks) shape counts i x j t e h = absurd (false≢true e)
goes_near (CartCreate dims periods) shape counts i x j t e h = absurd (false≢true e)
goes_near (CartSub keep) shape counts i x j t e h = absurd (false≢true e)

routed_near : (roll : Roll) (i j : ℕ) → is_neighbourly roll.sig ≡ true → routed roll i j ≡ true
    → (t : ℕ) × (t < places roll j) × (neighbour_in roll.shape.grid j t ≡ Some i)
unfolding routed
routed_near roll i j near h =
    let slot = any_found (λ t. sends roll i j t) 0 (places roll j) h in
    let element = any_found (λ x. goes roll i x j slot.0) 0 (given roll i) slot.2 in
    let is = goes_near roll.sig roll.shape (own_counts_in (stated_by roll i)) i element.0 j slot.0
    near element.2 in
    (slot.0, omega (arith, slot.1), it_is (neighbour_in roll.shape.grid j slot.0) i is)

---- Who contributes is a rank that is routed.

is_routed : (b : Bool) (o : Option ℕ) (d : ℕ) → is_that (cond b o None) d ≡ true → b ≡ true
is_routed true o d h = refl
is_routed false o d h = absurd (false≢true h)

unstated : (b : Bool) (d : ℕ) →
    is_that (cond b (dataset_in (label_in (stated_in None))) None) d ≡ false
unstated true d = refl
unstated false d = refl

contributor_within : (roll : Roll) (i j d : ℕ) → IsFit roll → (o : Option (Option Stated)) →
    slice_get roll.stated i ≡ o
    → is_that (contribution roll i j) d ≡ true → i < roll.shape.size
contributor_within roll i j d fit (Some s) at h =
    let rows = fit.sound.rows in
    omega (arith, slice_get_within roll.stated i s at, rows)
contributor_within roll i j d fit None at h = absurd (false≢true (
    sym (unstated (routed roll i j) d)
    ∙ ap (λ o. is_that (cond (routed roll i j) (dataset_in (label_in (stated_in o))) None) d)
    (sym at)
    ∙ h
    ))

---- The neighbours bring what all ranks bring.

some_rank : (roll : Roll) (j d : ℕ) (o : Option ℕ) →
    is_that (option_and_then (λ i. contribution roll i j) o) d ≡ true
    → (i : ℕ) × (is_that (contribution roll i j) d ≡ true)
some_rank roll j d (Some i) h = (i, h)
some_rank roll j d None h = absurd (false≢true h)

module _ (roll : Roll) (j d : ℕ) where
  abbrev slot_brings : ℕ → Bool
  slot_brings t = is_that (from_slot roll t j) d

  abbrev rank_brings : ℕ → Bool
  rank_brings i = is_that (contribution roll i j) d

  from_slots : IsFit roll → list_any slot_brings (below (places roll j)) ≡ true →
      contributed roll j d ≡ true
  from_slots fit h =
      let slot = any_found slot_brings 0 (places roll j) h in
      let rank = some_rank roll j d (neighbour_in roll.shape.grid j slot.0) slot.2 in
      let within = contributor_within roll rank.0 j d fit (slice_get roll.stated rank.0) refl rank.1
      in
      any_at rank_brings 0 roll.shape.size rank.0 (omega arith) (omega (arith, within)) rank.1

  from_ranks : is_neighbourly roll.sig ≡ true → contributed roll j d ≡ true →
      list_any slot_brings (below (places roll j)) ≡ true
  from_ranks near h =
      let rank = any_found rank_brings 0 roll.shape.size h in
      let slot = routed_near roll rank.0 j near
      (is_routed (routed roll rank.0 j) (dataset_in (label_of roll rank.0)) d rank.2) in
      any_at slot_brings 0 (places roll j) slot.0 (omega arith) (omega (arith, slot.1)) (
      ap (λ o. is_that (option_and_then (λ i. contribution roll i j) o) d) slot.2 ∙ rank.2
      )

pub slots_bring_all : (roll : Roll) (j d : ℕ) → IsFit roll → is_neighbourly roll.sig ≡ true
    → is_brought (λ t. from_slot roll t j) (places roll j) d ≡ contributed roll j d
slots_bring_all roll j d fit near =
    same_tests _ _ (from_slots roll j d fit) (from_ranks roll j d near)

---- No kind between neighbours reduces.

pub near_reduces_not : (sig : Signature) → is_neighbourly sig ≡ true → reduction sig ≡ None
unfolding is_neighbourly reduction
near_reduces_not (NeighborAllgather ty n) e = refl
near_reduces_not (NeighborAllgatherv ty) e = refl
near_reduces_not (NeighborAlltoall ty n) e = refl
near_reduces_not (NeighborAlltoallv ty) e = refl
near_reduces_not Barrier e = refl
near_reduces_not (Bcast r ty n) e = refl
near_reduces_not (Gather r ty n) e = refl
near_reduces_not (Gatherv r ty) e = refl
near_reduces_not (Scatter r ty n) e = refl
near_reduces_not (Scatterv r ty) e = refl
near_reduces_not (Allgather ty n) e = refl
near_reduces_not (Allgatherv ty) e = refl
near_reduces_not (Alltoall ty n) e = refl
near_reduces_not (Alltoallv ty) e = refl
near_reduces_not (Reduce r op ty n) e = absurd (false≢true e)
near_reduces_not (Allreduce op ty n) e = absurd (false≢true e)
near_reduces_not (ReduceScatter op ty sizes) e = absurd (false≢true e)
near_reduces_not (ReduceScatterBlock op ty n) e = absurd (false≢true e)
near_reduces_not (Scan op ty n) e = absurd (false≢true e)
near_reduces_not (Exscan op ty n) e = absurd (false≢true e)
near_reduces_not Dup e = refl
near_reduces_not Split e = refl
near_reduces_not (Create ranks) e = refl
near_reduces_not (CartCreate dims periods) e = refl
near_reduces_not (CartSub keep) e = refl
