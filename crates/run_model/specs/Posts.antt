-- What counted posts make: instances, communicators, outcomes and histories. A list of posts has
-- the newest first.
use Rattle.std.specs.Prelude.{ℕ, List, [], ◌∷◌, ◌++◌, Bool, true, false, not, ◌&&◌, ◌||◌, ◌==◌}
use Rattle.std.specs.Prelude.{length, map, slice_get, Option, Some, None, if◌then◌else◌, is_some}
use Rattle.std.specs.Option.{option_and_then, option_map}
use Rattle.wall_policy.specs.Policy.{ChineseWall}
use Rattle.wall_rules.specs.Histories.{History, opening}
use Rattle.mpi_comm.specs.Comms.{fits}
use Rattle.coll_routes.specs.declared.signature.Signature.{Signature}
use Rattle.coll_routes.specs.declared.signature.Signature.TheVariants.{Barrier}
use Rattle.coll_routes.specs.declared.statement.Stated.{Stated}
use Rattle.coll_routes.specs.declared.roll.Roll.{Roll}
use Rattle.coll_routes.specs.Rolls.{is_full}
use Rattle.coll_routes.specs.Signatures.{is_constructor}
use Rattle.wall_verdict.specs.declared.verdict.Verdict.{Verdict}
use Rattle.wall_verdict.specs.declared.verdict.Verdict.TheVariants as verdicts
use Rattle.wall_verdict.specs.Star.{with_label}
use Rattle.wall_verdict.specs.Verdicts.{verdict}
use Rattle.wall_verdict.specs.Grants.{charged_to}
use Rattle.run_model.specs.declared.outcome.Outcome.{Outcome}
use Rattle.run_model.specs.declared.outcome.Outcome.TheVariants.{Granted, Denied, Made, NoRoom}
use Rattle.run_model.specs.Comms.{Comm, world, shape_of, new_comms, added}

-- a post that counts, without its elements
pub record Post : Type 0 where
  pub process : ℕ
  pub comm : ℕ
  pub stated : Stated

-- ## instances

-- what p has posted on communicator c, in order
abbrev pub posts_on : (c p : ℕ) → List Post → List Stated
posts_on c p [] = []
posts_on c p (x ∷ past) =
    if x.comm == c && x.process == p then posts_on c p past ++ x.stated ∷ [] else posts_on c p past

-- the k-th post of each member of c (MPI 4.1, section 6.12: collectives meet in the order in which
-- each member starts them)
abbrev pub kth_posts : Comm → (c k : ℕ) → List Post → List (Option Stated)
kth_posts comm c k past = map (λ m. slice_get (posts_on c m past) k) comm.members

-- the signature that the first of these states; where nobody has posted, any
abbrev pub signature_in : List (Option Stated) → Signature
signature_in [] = Barrier
signature_in (Some s ∷ rest) = s.sig
signature_in (None ∷ rest) = signature_in rest

abbrev pub roll_by : Comm → List (Option Stated) → Roll
roll_by comm stated = record
    { members = comm.members; shape = shape_of comm; sig = signature_in stated; stated = stated }

-- instance (c, k)
abbrev pub instance : Comm → (c k : ℕ) → List Post → Roll
instance comm c k past = roll_by comm (kth_posts comm c k past)

abbrev pub if_full : Roll → Option Roll
if_full roll = if is_full roll.stated then Some roll else None

-- the number of the instance on its communicator that post x, made after these posts, belongs to
abbrev pub place : Post → List Post → ℕ
place x past = length (posts_on x.comm x.process past)

-- the instance that post x fills, made after these posts, if it fills one; an instance is full when
-- its last member has posted (own rule)
unfoldable pub filled : List Comm → Post → List Post → Option Roll
filled table x past = option_and_then
    (λ comm. if_full (instance comm x.comm (place x past) (x ∷ past))) (slice_get table x.comm)

-- ## communicators

-- the communicators after post x, where these were there before it
abbrev pub with_filled : List Comm → Post → List Post → List Comm
with_filled table x past = table ++ added (length table) (filled table x past)

-- the communicators after these posts: the world, and then those of each full constructor, in the
-- order of filling
abbrev pub comms : ChineseWall → List Post → List Comm
comms wall [] = world wall ∷ []
comms wall (x ∷ past) = with_filled (comms wall past) x past

-- ## outcomes

-- the outcome of a full constructor, where so many communicators are there: the number of those
-- that it makes, and of the first of them, which is that of the next where it makes none
abbrev pub constructor_outcome : (before : ℕ) → List Comm → Outcome
constructor_outcome before new =
    if fits before (length new) then Made before (length new) else NoRoom

abbrev pub by_verdict : Verdict → Outcome
by_verdict verdicts.Granted = Granted
by_verdict (verdicts.Denied rule p label) = Denied rule p label

-- the outcome of a full instance under these histories, where so many communicators are there; a
-- constructor moves no elements and has no verdict (own rule)
abbrev pub outcome_of : ChineseWall → History → (before : ℕ) → Roll → Outcome
outcome_of wall has before roll = if is_constructor roll.sig
    then constructor_outcome before (new_comms roll) else by_verdict (verdict wall has roll)

-- ## histories

-- the histories with the label of post x, if it passed: a write is an access (own rule)
abbrev pub labelled : History → Post → History
labelled has x = with_label has x.process x.stated.label (not x.stated.barred)

abbrev pub is_granted : Outcome → Bool
is_granted Granted = true
is_granted (Denied rule p label) = false
is_granted (Made first number) = false
is_granted NoRoom = false

-- the histories after an instance that was filled: a grant enters the charged labels of each
-- member, any other outcome nothing
abbrev pub with_delivery : ChineseWall → History → (before : ℕ) → Option Roll → History
with_delivery wall has before None p d = has p d
with_delivery wall has before (Some roll) p d =
    has p d || (is_granted (outcome_of wall has before roll) && charged_to wall roll p d)

-- the histories after these posts
abbrev pub histories : ChineseWall → List Post → History
histories wall [] = opening wall
histories wall (x ∷ past) = with_delivery wall (labelled (histories wall past) x)
    (length (comms wall past)) (filled (comms wall past) x past)

-- the outcome of the instance that post x fills, if it fills one, under the histories with its own
-- label entered
abbrev pub outcome : ChineseWall → Post → List Post → Option Outcome
outcome wall x past = option_map
    (outcome_of wall (labelled (histories wall past) x) (length (comms wall past)))
    (filled (comms wall past) x past)

-- the outcome of instance (c, k)
abbrev pub outcome_at : ChineseWall → (c k : ℕ) → List Post → Option Outcome
outcome_at wall c k [] = None
outcome_at wall c k (x ∷ past) =
    if x.comm == c && place x past == k && is_some (filled (comms wall past) x past)
    then outcome wall x past
    else outcome_at wall c k past
