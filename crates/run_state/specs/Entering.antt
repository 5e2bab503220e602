-- What a post that meets no refusal makes of a state, by what is seen.
use Rattle.std.specs.Prelude.{◌≡◌, ◌≢◌, ℕ, ◌+◌, ◌++◌, true, false, length, map, slice_get, Option}
use Rattle.std.specs.Prelude.{Some, None, if◌then◌else◌}
use Rattle.wall_policy.specs.Policy.{ChineseWall}
use Rattle.wall_rules.specs.Histories.{History, has}
use Rattle.mpi_group.specs.Groups.{rank_in, is_distinct}
use Rattle.coll_routes.specs.declared.roll.Roll.{Roll}
use Rattle.coll_routes.specs.Fit.{IsFit}
use Rattle.coll_pending.specs.declared.arrival.Next.TheVariants.{Mismatch}
use Rattle.coll_routes.specs.Rolls.{is_full}
use Rattle.coll_pending.specs.Instances.{Instance}
use Rattle.coll_pending.specs.Keyed.{updated}
use Rattle.coll_pending.specs.Waiting.{next, updated_at, after as joined_at}
use Rattle.run_model.specs.Comms.{Comm, added}
use Rattle.run_model.specs.Posts.{if_full, labelled, with_delivery, outcome_of}
use Rattle.run_state.specs.declared.entered.Entered.{Entered}
use Rattle.run_state.specs.declared.entered.Entered.TheVariants.{Waiting, Settled}
use Rattle.run_model.specs.Contributions.{Contribution}
use Rattle.run_state.specs.Views.{PostStateView, communicator_of}

-- a post of this rank on this communicator
pub record Spot : Type 0 where
  pub rank : ℕ
  pub comm : Comm

-- the number of the instance that it belongs to
abbrev pub place_at : {X : Type 0} → PostStateView X → Spot → Contribution X → ℕ
place_at seen spot g = seen.waiting.arrivals g.post.comm spot.rank

-- the instance that it joins, with it
abbrev pub after : {X : Type 0} → PostStateView X → Spot → Contribution X → Instance X
after seen spot g =
    joined_at seen.waiting g.post.comm spot.rank (communicator_of spot.comm) g.post.stated g.part

-- the roll that it fills, if it fills one
abbrev pub fills : {X : Type 0} → PostStateView X → Spot → Contribution X → Option Roll
fills seen spot g = if_full (after seen spot g).roll

-- the instance, where it waits on
abbrev pub if_waiting : {X : Type 0} → Instance X → Option (Instance X)
if_waiting instance = if is_full instance.roll.stated then None else Some instance

-- the histories with its label
abbrev pub written : {X : Type 0} → PostStateView X → Contribution X → History
written seen g = labelled (has seen.accesses) g.post

-- the rank is that of the poster
pub record IsAt {X : Type 0} (seen : PostStateView X) (spot : Spot) (g : Contribution X)
    : Type 0 where
  pub there : slice_get seen.comms g.post.comm ≡ Some spot.comm
  pub rank : rank_in spot.comm.members g.post.process ≡ Some spot.rank
  pub once : is_distinct spot.comm.members ≡ true

-- what has arrived and waits, and the histories, once the post has been counted, where so many
-- communicators were there before
pub record Changes {X : Type 0} (wall : ChineseWall) (count : ℕ) (old new : PostStateView X)
    (spot : Spot) (g : Contribution X) : Type 0 where
  pub arrivals : new.waiting.arrivals
      ≡ updated_at old.waiting.arrivals g.post.comm spot.rank (place_at old spot g + 1)
  pub known :
      new.waiting.known ≡ updated old.waiting.known g.post.comm (Some (communicator_of spot.comm))
  pub pending : new.waiting.pending
      ≡ updated_at old.waiting.pending g.post.comm (place_at old spot g)
      (if_waiting (after old spot g))
  pub histories : has new.accesses ≡ with_delivery wall (written old g) count (fills old spot g)
  pub processes : new.accesses.processes ≡ old.accesses.processes
  pub classes : new.accesses.classes ≡ old.accesses.classes

-- and this is told of it
abbrev pub Answers : {X : Type 0} → ChineseWall → (count : ℕ) → PostStateView X → Spot →
    Contribution X → Entered X → Type 0
Answers wall count old spot g (Waiting k) =
    (k ≡ place_at old spot g)
    × (is_full (after old spot g).roll.stated ≡ false)
Answers wall count old spot g (Settled full k outcome) =
    (k ≡ place_at old spot g)
    × (is_full (after old spot g).roll.stated ≡ true)
    × (full.roll ≡ (after old spot g).roll)
    × (map (λ part. Some part) full.parts ≡ (after old spot g).parts)
    × (outcome ≡ outcome_of wall (written old g) count (after old spot g).roll)
    × IsFit full.roll

-- the post has been counted, of some rank, and this is told of it
pub record Enters {X : Type 0} (wall : ChineseWall) (old new : PostStateView X) (g : Contribution X)
    (entered : Entered X) : Type 0 where
  pub spot : Spot
  pub at : IsAt old spot g
  pub agrees : next old.waiting g.post.comm spot.rank g.post.stated.sig ≢ Mismatch
  pub comms : new.comms ≡ old.comms ++ added (length old.comms) (fills old spot g)
  pub changes : Changes wall (length old.comms) old new spot g
  pub answers : Answers wall (length old.comms) old spot g entered
