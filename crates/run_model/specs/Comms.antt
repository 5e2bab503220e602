-- Communicators with their grids, and those that a constructor makes. (MPI 4.1, sections 7.2, 7.4
-- and 8.5.)
use Rattle.std.specs.Prelude.{ℕ, pos, List, [], ◌∷◌, Bool, length, map, filter, Option, Some, None}
use Rattle.std.specs.Prelude.{if◌then◌else◌}
use Rattle.wall_policy.specs.Policy.{ChineseWall}
use Rattle.mpi_comm.specs.declared.values.Ask.{Ask}
use Rattle.mpi_comm.specs.Comms.{dup_groups, create_groups, subset_groups, fits}
use Rattle.mpi_comm.specs.Splits.{split_groups}
use Rattle.mpi_cart.specs.Grids.{Topology, volume, below, cells, coords, same_list, kept, dropped}
use Rattle.coll_routes.specs.declared.signature.Signature.{Signature}
use Rattle.coll_routes.specs.declared.signature.Signature.TheVariants.{Dup, Split, Create}
use Rattle.coll_routes.specs.declared.signature.Signature.TheVariants.{CartCreate, CartSub}
use Rattle.coll_routes.specs.declared.statement.Own.{Own}
use Rattle.coll_routes.specs.declared.statement.Own.TheVariants.{Split as SplitBy}
use Rattle.coll_routes.specs.declared.statement.Stated.{Stated}
use Rattle.coll_routes.specs.declared.roll.Shape.{Shape}
use Rattle.coll_routes.specs.declared.roll.Roll.{Roll}

-- a communicator: its group, and a grid or none
pub record Comm : Type 0 where
  pub members : List ℕ
  pub grid : Option Topology

abbrev pub processes : ChineseWall → ℕ
processes wall = length wall.process_names

-- communicator 0: all processes, in the order of the policy
abbrev pub world : ChineseWall → Comm
world wall = record { members = below (processes wall); grid = None }

abbrev pub shape_of : Comm → Shape
shape_of comm = record { size = length comm.members; grid = comm.grid }

-- communicators of these groups, all with this grid or all without one
abbrev pub with_grid : Option Topology → List (List ℕ) → List Comm
with_grid grid groups = map (λ members. record { members = members; grid = grid }) groups

-- what a member asks of a split
abbrev pub ask_by : Own → Ask
ask_by (SplitBy colour key) = record { colour = colour; key = key }
ask_by _ = record { colour = None; key = pos 0 }

abbrev pub ask_in : Option Stated → Ask
ask_in (Some s) = ask_by s.own
ask_in None = record { colour = None; key = pos 0 }

-- the asks of all members, by rank
abbrev pub asks : Roll → List Ask
asks roll = map ask_in roll.stated

-- the ranks of a grid whose coordinates in the dimensions that are not kept are these
abbrev pub ranks_apart : Topology → (keep : List Bool) → (apart : List ℕ) → List ℕ
ranks_apart g keep apart =
    filter (λ r. same_list (dropped keep (coords g r)) apart) (below (volume g.dims))

-- one list of ranks for each value of those coordinates, in row-major order of the values (8.5.7;
-- the order is an own rule)
abbrev pub grid_parts : Topology → (keep : List Bool) → List (List ℕ)
grid_parts g keep = map (λ apart. ranks_apart g keep apart) (cells (dropped keep g.dims))

abbrev pub subgrids : Option Topology → (keep : List Bool) → (members : List ℕ) → List Comm
subgrids (Some g) keep members =
    with_grid (Some (kept keep g)) (subset_groups (grid_parts g keep) members)
subgrids None keep members = []

-- The communicators that a full constructor on this one makes, in order, by what its members ask. A
-- duplicate has the grid too (7.4.2); a split and a subgroup have none; a grid lies over the lowest
-- ranks, in row-major order (8.5.1).
unfoldable pub new_comms_by : Signature → Comm → (wanted : List Ask) → List Comm
new_comms_by Dup comm wanted = with_grid comm.grid (dup_groups comm.members)
new_comms_by Split comm wanted = with_grid None (split_groups wanted comm.members)
new_comms_by (Create ranks) comm wanted = with_grid None (create_groups ranks comm.members)
new_comms_by (CartCreate dims periods) comm wanted = with_grid
    (Some (record { dims = dims; periods = periods }))
    (subset_groups (below (volume dims) ∷ []) comm.members)
new_comms_by (CartSub keep) comm wanted = subgrids comm.grid keep comm.members
new_comms_by _ comm wanted = []

-- the communicator of an instance
abbrev pub comm_in : Roll → Comm
comm_in roll = record { members = roll.members; grid = roll.shape.grid }

abbrev pub new_comms : Roll → List Comm
new_comms roll = new_comms_by roll.sig (comm_in roll) (asks roll)

-- those of these that are added to so many: all, or none where they would pass the limit (own rule)
abbrev pub if_fit : (before : ℕ) → List Comm → List Comm
if_fit before new = if fits before (length new) then new else []

-- those that an instance adds
abbrev pub added : (before : ℕ) → Option Roll → List Comm
added before (Some roll) = if_fit before (new_comms roll)
added before None = []
