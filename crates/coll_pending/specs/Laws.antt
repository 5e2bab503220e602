-- What holds of all arrivals.
use Rattle.std.specs.Prelude.{◌≡◌, ℕ, true, None}
use Rattle.mpi_elems.specs.declared.elem_type.ElemType.{ElemType}
use Rattle.coll_routes.specs.declared.signature.Signature.{Signature}
use Rattle.coll_routes.specs.declared.statement.Own.{Own}
use Rattle.coll_routes.specs.declared.roll.Shape.{Shape}
use Rattle.coll_routes.specs.Faults.{shape_fault}
use Rattle.coll_pending.specs.Lists.{fits, room_by}

-- the room that is made for a communicator of this shape is enough for the signature of each post
-- that has no fault by itself
abbrev pub FaultlessSignaturesFit : Type 0
FaultlessSignaturesFit =
    (shape : Shape) (rank : ℕ) (sig : Signature) (own : Own) (ty : ElemType) (given : ℕ) →
    shape_fault shape rank sig own ty given ≡ None → fits (room_by shape) sig ≡ true
