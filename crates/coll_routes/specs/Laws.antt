-- What holds of all rolls.
use Rattle.std.specs.Prelude.{◌≡◌, ◌↔◌, ℕ, ◌<◌, ◌≤◌, Bool, true, false, Some, None, IsTrue}
use Rattle.wall_labels.specs.declared.op.Op.{Op}
use Rattle.coll_routes.specs.declared.signature.Signature.{Signature}
use Rattle.coll_routes.specs.declared.signature.Signature.TheVariants.{Scatter, Scatterv, Alltoall}
use Rattle.coll_routes.specs.declared.signature.Signature.TheVariants.{Alltoallv, ReduceScatter}
use Rattle.coll_routes.specs.declared.signature.Signature.TheVariants.{ReduceScatterBlock}
use Rattle.coll_routes.specs.declared.signature.Signature.TheVariants.{NeighborAlltoall}
use Rattle.coll_routes.specs.declared.signature.Signature.TheVariants.{NeighborAlltoallv}
use Rattle.coll_routes.specs.declared.roll.Roll.{Roll}
use Rattle.coll_routes.specs.Signatures.{reduction, is_constructor, same_signature}
use Rattle.coll_routes.specs.Rolls.{given, goes, places, routed, is_missing}
use Rattle.coll_routes.specs.Fit.{IsSized}

-- a rank gives a block for each rank or slot
unfoldable pub gives_blocks : Signature → Bool
gives_blocks (Scatter r ty n) = true
gives_blocks (Scatterv r ty) = true
gives_blocks (Alltoall ty n) = true
gives_blocks (Alltoallv ty) = true
gives_blocks (ReduceScatter op ty counts) = true
gives_blocks (ReduceScatterBlock op ty n) = true
gives_blocks (NeighborAlltoall ty n) = true
gives_blocks (NeighborAlltoallv ty) = true
gives_blocks _ = false

-- what goes goes to a place that the receiver has
abbrev pub JourneysEndAtPlaces : Type 0
JourneysEndAtPlaces =
    (roll : Roll) (i x j t : ℕ) → i < roll.shape.size → goes roll i x j t ≡ true → t < places roll j

-- nothing goes to a place that stays empty for want of a neighbour
abbrev pub MissingPlacesGetNothing : Type 0
MissingPlacesGetNothing =
    (roll : Roll) (i x j t : ℕ) → is_missing roll j t ≡ true → goes roll i x j t ≡ false

-- in the kinds that don't reduce, each place has one source
abbrev pub PlacesHaveOneSource : Type 0
PlacesHaveOneSource = (roll : Roll) (i x k y j t : ℕ) → reduction roll.sig ≡ None →
    goes roll i x j t ≡ true → goes roll k y j t ≡ true → i ≡ k

-- a kind that reduces has one block at most
abbrev pub ReductionsHaveOneBlock : Type 0
ReductionsHaveOneBlock =
    (roll : Roll) (op : Op) (j : ℕ) → reduction roll.sig ≡ Some op → places roll j ≤ 1

-- a rank is routed to another exactly where an element of it goes to some place there
abbrev pub RoutesAreJourneys : Type 0
RoutesAreJourneys = (roll : Roll) (i j : ℕ) → i < roll.shape.size → IsTrue (routed roll i j) ↔
    ((x : ℕ) × (t : ℕ) × (x < given roll i) × (goes roll i x j t ≡ true))

-- a rank without elements is routed to nobody
abbrev pub EmptyRanksReachNobody : Type 0
EmptyRanksReachNobody = (roll : Roll) (i j : ℕ) → given roll i ≡ 0 → routed roll i j ≡ false

-- where ranks give blocks, an element goes to one place of one rank
abbrev pub BlocksAreDisjoint : Type 0
BlocksAreDisjoint = (roll : Roll) (i x j t k u : ℕ) → IsSized roll.shape →
    gives_blocks roll.sig ≡ true → j < roll.shape.size → k < roll.shape.size →
    goes roll i x j t ≡ true → goes roll i x k u ≡ true → (j ≡ k) × (t ≡ u)

-- constructors move nothing
abbrev pub ConstructorsMoveNothing : Type 0
ConstructorsMoveNothing = (roll : Roll) (i x j t : ℕ) → is_constructor roll.sig ≡ true →
    (places roll j ≡ 0) × (goes roll i x j t ≡ false) × (routed roll i j ≡ false)

-- the test of signatures tells equal ones
abbrev pub SameSignaturesAreEqual : Type 0
SameSignaturesAreEqual = (a b : Signature) → IsTrue (same_signature a b) ↔ (a ≡ b)
