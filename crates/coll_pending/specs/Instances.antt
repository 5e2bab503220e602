-- One instance that waits for members, and what an arrival makes of it. (MPI 4.1, section 6.12.)
use Rattle.std.specs.Prelude.{◌≡◌, ℕ, List, Bool, ◌&&◌, ◌+◌, length, replicate, take, drop}
use Rattle.std.specs.Prelude.{slice_set, Option, Some, None, if◌then◌else◌, is_some}
use Rattle.std.specs.List.{list_any}
use Rattle.coll_routes.specs.declared.signature.Signature.{Signature}
use Rattle.coll_routes.specs.declared.statement.Stated.{Stated}
use Rattle.coll_routes.specs.declared.roll.Shape.{Shape}
use Rattle.coll_routes.specs.declared.roll.Roll.{Roll}
use Rattle.coll_routes.specs.Signatures.{same_signature}
use Rattle.coll_routes.specs.Rolls.{is_full, stated_by}
use Rattle.coll_pending.specs.declared.arrival.Next.{Next}
use Rattle.coll_pending.specs.declared.arrival.Next.TheVariants.{Opens, Joins, Fills, Mismatch}

-- the members of a communicator, by rank, and its shape (MPI 4.1, section 7.2)
pub record Communicator : Type 0 where
  pub members : List ℕ
  pub shape : Shape

abbrev pub made_of : List ℕ → Shape → Communicator
made_of members shape = record { members = members; shape = shape }

-- a roll, and for each rank the part that it brought, if it has posted
pub record Instance (X : Type 0) : Type 0 where
  pub roll : Roll
  pub parts : List (Option X)

-- each rank but this one has something in its row
abbrev pub is_full_but_for : {A : Type 0} → List (Option A) → ℕ → Bool
is_full_but_for rows rank = is_full (take rank rows) && is_full (drop (rank + 1) rows)

-- some rank has something in its row
abbrev pub is_begun : {A : Type 0} → List (Option A) → Bool
is_begun rows = list_any (λ row. is_some row) rows

-- an instance of a communicator, for which nobody has posted
abbrev pub vacant : {X : Type 0} → Communicator → Signature → Instance X
vacant comm sig = record {
  roll = record {
    members = comm.members;
    shape = comm.shape;
    sig = sig;
    stated =
        replicate (length comm.members) None;
  };
  parts = replicate (length comm.members) None;
}

-- the instance that a member posts to: one that waits, or a new one of the member's signature
abbrev pub met : {X : Type 0} → Communicator → Signature → Option (Instance X) → Instance X
met comm sig (Some waiting) = waiting
met comm sig None = vacant comm sig

-- an instance with what a rank stated and brought
abbrev pub entered : {X : Type 0} → (rank : ℕ) → Stated → X → Instance X → Instance X
entered rank stated part instance = record {
  roll = record {
    members = instance.roll.members;
    shape = instance.roll.shape;
    sig = instance.roll.sig;
    stated = slice_set instance.roll.stated rank (Some stated);
  };
  parts = slice_set instance.parts rank (Some part);
}

-- the instance after an arrival
abbrev pub joined : {X : Type 0} → Communicator → (rank : ℕ) → Stated → X → Option (Instance X) →
    Instance X
joined comm rank stated part waiting = entered rank stated part (met comm stated.sig waiting)

-- the roll of an instance, if there is one
abbrev pub roll_in : {X : Type 0} → Option (Instance X) → Option Roll
roll_in (Some waiting) = Some waiting.roll
roll_in None = None

-- what an arrival of a rank with this signature does to an instance of this roll: it is another
-- than the instance's, or it opens one, or joins it as the last one or not
abbrev pub next_by : Option Roll → (rank : ℕ) → Signature → Next
next_by None rank sig = Opens
next_by (Some roll) rank sig =
    if same_signature roll.sig sig
    then (if is_full_but_for roll.stated rank then Fills else Joins)
    else Mismatch

-- all that is stated is of the roll's signature
abbrev pub IsAgreed : Roll → Type 0
IsAgreed roll = (i : ℕ) (s : Stated) → stated_by roll i ≡ Some s → s.sig ≡ roll.sig
