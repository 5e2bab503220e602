-- What a full constructor makes, by its communicator and what its members ask.
use Rattle.std.specs.Prelude.{◌≡◌, ◌++◌, ℕ, List, Bool, true, false, not, length, slice_get, Option}
use Rattle.std.specs.Prelude.{None, Some, is_none}
use Rattle.std.specs.Option.{ForSome}
use Rattle.mpi_comm.specs.declared.values.Ask.{Ask}
use Rattle.mpi_comm.specs.Comms.{is_subgroup}
use Rattle.mpi_comm.specs.declared.fault.CommFault.{CommFault}
use Rattle.mpi_comm.specs.declared.fault.CommFault.TheVariants as faults
use Rattle.mpi_comm.specs.Splits.{has_bad_colour}
use Rattle.mpi_cart.specs.Grids.{Topology}
use Rattle.mpi_cart.specs.Faults.{first_fault, keep_fault}
use Rattle.coll_routes.specs.declared.signature.Signature.{Signature}
use Rattle.coll_routes.specs.declared.signature.Signature.TheVariants.{Split, Create}
use Rattle.coll_routes.specs.declared.signature.Signature.TheVariants.{CartCreate, CartSub}
use Rattle.run_model.specs.Comms.{Comm, if_fit}
use Rattle.run_model.specs.Posts.{constructor_outcome}
use Rattle.run_model.specs.declared.outcome.Outcome.{Outcome}

-- a grid, of whose dimensions the list says whether to keep them
abbrev pub is_kept : (keep : List Bool) → Option Topology → Bool
is_kept keep (Some g) = is_none (keep_fault keep g.dims)
is_kept keep None = false

-- the constructor has no fault of its own (7.3.2, 7.4.2, 8.5.1 and 8.5.7)
unfoldable pub is_faultless : Signature → Comm → List Ask → Bool
is_faultless Split comm asks = not (has_bad_colour asks)
is_faultless (Create ranks) comm asks = is_subgroup (length comm.members) ranks
is_faultless (CartCreate dims periods) comm asks =
    is_none (first_fault dims periods (length comm.members))
is_faultless (CartSub keep) comm asks = is_kept keep comm.grid
is_faultless _ comm asks = true

-- a constructor that makes these communicators has been carried out
pub record Makes (new : List Comm) (old after : List Comm) (outcome : Outcome) : Type 0 where
  pub grown : after ≡ old ++ if_fit (length old) new
  pub told : outcome ≡ constructor_outcome (length old) new

-- the constructor has been carried out on the communicator of this number: of its members are made
-- the communicators that the function gives
abbrev pub MakesOn : (old after : List Comm) → (comm : ℕ) → (Comm → List Comm) → Outcome → Type 0
MakesOn old after comm made outcome =
    ForSome (slice_get old comm) (λ found. Makes (made found) old after outcome)

-- the communicator of this number has as many members as there are that ask
abbrev pub IsAskedByAll : List Comm → (comm : ℕ) → List Ask → Type 0
IsAskedByAll table comm asks =
    ForSome (slice_get table comm) (λ found. length asks ≡ length found.members)

-- the faults that such a constructor can still meet
abbrev pub is_left : CommFault → Bool
is_left faults.NoRoom = true
is_left faults.NoMemory = true
is_left _ = false
