-- The refusals that posts alone decide, the first of their order that holds.
use Rattle.std.specs.Prelude.{ℕ, List, Bool, false, not, length, slice_get, Option, Some, None}
use Rattle.std.specs.Prelude.{nat_lt, if◌then◌else◌}
use Rattle.std.specs.Option.{option_map}
use Rattle.std.specs.List.{list_any}
use Rattle.wall_policy.specs.Policy.{ChineseWall}
use Rattle.mpi_elems.specs.declared.elem_type.ElemType.{ElemType}
use Rattle.mpi_group.specs.Groups.{rank_in}
use Rattle.coll_routes.specs.declared.signature.Signature.{Signature}
use Rattle.coll_routes.specs.declared.statement.Own.{Own}
use Rattle.coll_routes.specs.declared.statement.Stated.{Stated}
use Rattle.coll_routes.specs.declared.fault.ShapeFault.{ShapeFault}
use Rattle.coll_routes.specs.declared.fault.ShapeFault.TheVariants as shapes
use Rattle.coll_routes.specs.Signatures.{same_signature}
use Rattle.coll_routes.specs.Faults.{shape_fault, stated_type}
use Rattle.run_model.specs.declared.refusal.Refusal.{Refusal}
use Rattle.run_model.specs.declared.refusal.Refusal.TheVariants.{NoSuchProcess, NoSuchComm}
use Rattle.run_model.specs.declared.refusal.Refusal.TheVariants.{NotMember, NoTopology, BadRoot}
use Rattle.run_model.specs.declared.refusal.Refusal.TheVariants.{BadOp, BadCount, BadColour}
use Rattle.run_model.specs.declared.refusal.Refusal.TheVariants.{NotSubgroup, BadDims, Mismatch}
use Rattle.run_model.specs.Comms.{Comm, processes, shape_of}
use Rattle.run_model.specs.Posts.{Post, posts_on, kth_posts, comms}

-- a fault of a post by itself, as a refusal
abbrev pub refused_for : ShapeFault → Refusal
refused_for shapes.NoTopology = NoTopology
refused_for shapes.BadRoot = BadRoot
refused_for shapes.BadOp = BadOp
refused_for shapes.BadCount = BadCount
refused_for shapes.BadColour = BadColour
refused_for shapes.NotSubgroup = NotSubgroup
refused_for shapes.BadDims = BadDims

-- another signature stands in the instance
abbrev pub differs : Signature → Option Stated → Bool
differs sig (Some s) = not (same_signature s.sig sig)
differs sig None = false

abbrev pub mismatches : Signature → List (Option Stated) → Bool
mismatches sig stated = list_any (differs sig) stated

-- the first of two
abbrev pub or_else : Option Refusal → Option Refusal → Option Refusal
or_else (Some refusal) other = Some refusal
or_else None other = other

-- the refusals of a member, whose instance has these statements: the post's own faults, and another
-- signature
abbrev pub fault_as : Comm → Option ℕ → Signature → Own → ElemType → (given : ℕ) →
    List (Option Stated) → Option Refusal
fault_as comm None sig own ty given stated = Some NotMember
fault_as comm (Some rank) sig own ty given stated = or_else
    (option_map refused_for (shape_fault (shape_of comm) rank sig own ty given))
    (if mismatches sig stated then Some Mismatch else None)

abbrev pub fault_on : List Post → (p c : ℕ) → Option Comm → Signature → Own → ElemType →
    (given : ℕ) → Option Refusal
fault_on past p c None sig own ty given = Some NoSuchComm
fault_on past p c (Some comm) sig own ty given = fault_as comm (rank_in comm.members p) sig own ty
    given (kth_posts comm c (length (posts_on c p past)) past)

-- the first refusal that holds of a post of p on communicator c after these posts, which gives so
-- many elements of this type
unfoldable pub fault : ChineseWall → List Post → (p c : ℕ) → Signature → Own → ElemType →
    (given : ℕ) → Option Refusal
fault wall past p c sig own ty given = if nat_lt p (processes wall)
    then fault_on past p c (slice_get (comms wall past) c) sig own ty given else Some NoSuchProcess

-- that of a post without its elements, which are then of the signature's type
abbrev pub post_fault : ChineseWall → List Post → Post → Option Refusal
post_fault wall past x = fault wall past x.process x.comm x.stated.sig x.stated.own
    (stated_type x.stated.sig) x.stated.given
