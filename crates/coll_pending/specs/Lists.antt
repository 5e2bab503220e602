-- Room for the lists of a signature.
use Rattle.std.specs.Prelude.{ℕ, Bool, ◌&&◌, ◌+◌, length, nat_le}
use Rattle.mpi_cart.specs.declared.grid.TheConstants.{DIMENSION_LIMIT}
use Rattle.coll_routes.specs.declared.signature.Signature.{Signature}
use Rattle.coll_routes.specs.declared.roll.Shape.{Shape}
use Rattle.coll_routes.specs.Signatures.{numbers, flags}
use Rattle.coll_routes.specs.Rolls.{slots}

-- how many items the lists may have
pub record ListRoom : Type 0 where
  pub numbers : ℕ
  pub flags : ℕ

-- the lists of the signature are no longer
abbrev pub fits : ListRoom → Signature → Bool
fits room sig = nat_le (length (numbers sig)) room.numbers && nat_le (length (flags sig)) room.flags

-- the room that is made for a signature before it is known: enough for each that has no fault on
-- a communicator of this shape
abbrev pub room_by : Shape → ListRoom
room_by shape =
    record { numbers = shape.size + DIMENSION_LIMIT; flags = slots shape + DIMENSION_LIMIT }
