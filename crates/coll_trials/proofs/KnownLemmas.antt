-- Communicators as they are known.
use Rattle.std.proofs.Common.{◌<◌, ℕ, length, sym, subst, Option, Some, None}
use Rattle.std.specs.Prelude.{IfSome}
use Rattle.coll_pending.specs.Instances.{Communicator}
use Rattle.coll_pending.specs.Waiting.{IsKnownAs}

-- a member of a communicator is one of it as it is known
pub member_known : (w : Option Communicator) (comm : Communicator) (rank : ℕ) → IsKnownAs comm w →
    rank < length comm.members → IfSome w (λ m. rank < length m.members)
member_known None comm rank known lt = tt
member_known (Some first) comm rank known lt =
    subst (λ (m : Communicator). rank < length m.members) (sym known) lt
