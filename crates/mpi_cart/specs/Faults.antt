-- Why there is no such grid.
use Rattle.std.specs.Prelude.{ℕ, List, Bool, not, ◌||◌, ◌==◌, length, Option, Some, None}
use Rattle.std.specs.Prelude.{if◌then◌else◌, nat_lt}
use Rattle.std.specs.List.{list_all}
use Rattle.mpi_cart.specs.declared.fault.GridFault.{GridFault}
use Rattle.mpi_cart.specs.declared.fault.GridFault.TheVariants.{BadDims, TooLarge, NoMemory}
use Rattle.mpi_cart.specs.Grids.{volume, dimensions_limit}

-- lengths that differ, too many dimensions, or a dimension of size 0 (own rules)
abbrev pub are_bad_dims : List ℕ → List Bool → Bool
are_bad_dims dims periods =
    not (length dims == length periods)
    || nat_lt dimensions_limit (length dims)
    || not (list_all (nat_lt 0) dims)

-- the first fault of a grid for so many processes, memory aside (MPI 4.1, 8.5.1)
abbrev pub first_fault : List ℕ → List Bool → ℕ → Option GridFault
first_fault dims periods size = if are_bad_dims dims periods then Some BadDims
    else (if nat_lt size (volume dims) then Some TooLarge else None)

-- the fault of a list that says which dimensions to keep, memory aside (8.5.7)
abbrev pub keep_fault : List Bool → List ℕ → Option GridFault
keep_fault keep dims = if length keep == length dims then None else Some BadDims

-- what a fault says of the arguments: out of memory, that they have no other
abbrev pub input_fault : GridFault → Option GridFault
input_fault NoMemory = None
input_fault BadDims = Some BadDims
input_fault TooLarge = Some TooLarge
