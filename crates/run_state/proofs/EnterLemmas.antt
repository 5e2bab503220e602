-- A post as a look found it, in the parts of a state.
use Rattle.std.proofs.Common.{◌≡◌, ◌<◌, ℕ, List, not, Some, true, sym, subst, length, slice_get, ap}
use Rattle.std.proofs.Common.{Bool, false, ◌∙◌, Option}
use Rattle.std.proofs.lemmas.Option.{slice_get_within}
use Rattle.wall_rules.specs.Histories.{has, Accesses}
use Rattle.mpi_group.specs.Groups.{rank_in, is_distinct}
use Rattle.coll_routes.specs.declared.statement.Stated.{Stated}
use Rattle.coll_routes.specs.Faults.{stated_type}
use Rattle.coll_routes.specs.Fit.{IsSized}
use Rattle.coll_pending.specs.Waiting.{State, PendingView, view_of_pending, IsMeetingOf}
use Rattle.wall_verdict.specs.Star.{star}
use Rattle.run_model.specs.Comms.{Comm, shape_of, added}
use Rattle.run_model.specs.Posts.{if_full}
use Rattle.run_model.specs.declared.outcome.Outcome.{Outcome}
use Rattle.run_state.specs.declared.seat.Seat.{Seat}
use Rattle.run_state.specs.Views.{PostStateValue, PostStateView, IsPostState, view_of, LookedAt}
use Rattle.run_state.specs.Views.{seen}
use Rattle.run_state.specs.Upcoming.{IsNext, IsPrepared, roll_next}
use Rattle.run_state.proofs.RowLemmas.{get-prefix}
use Rattle.run_state.proofs.SeenLemmas.{is_next}
use Rattle.run_state.proofs.PostStateLemmas.{parts_seen}

-- what is not barred has passed
pub passed_is : (barred passed : Bool) → barred ≡ not passed → not barred ≡ passed
passed_is barred true e = ap not e
passed_is barred false e = ap not e

-- the communicator is there, the rank is the poster's, and its post can come
pub record IsSpotted {X : Type 0} (now : PostStateView X) (seat : Seat) (stated : Stated)
    (comm : Comm) : Type 0 where
  pub there : slice_get now.comms seat.meeting.comm ≡ Some comm
  pub rank : rank_in comm.members seat.process ≡ Some seat.meeting.rank
  pub once : is_distinct comm.members ≡ true
  pub met : IsMeetingOf now.waiting stated.sig seat.meeting
  pub upcoming : IsNext now.waiting seat.meeting.comm seat.meeting.rank comm stated
  pub word : stated.barred ≡ not (star (has now.accesses) seat.process stated.label)

-- the value of a state of these parts
abbrev pub kept_in : {X : Type 0} → List Comm → State X → Accesses → PostStateValue X
kept_in comms lines accesses = record { comms = comms; lines = lines; accesses = accesses }

module _ {X : Type 0} (comms : List Comm) (lines : State X) (accesses : Accesses)
    (now : PostStateValue X) (same : kept_in comms lines accesses ≡ now) (seat : Seat)
    (s : Stated) (looked : LookedAt (view_of now) seat s.sig s.own (stated_type s.sig) s.given)
  where
    abbrev old : PostStateView X
    old = seen comms lines accesses

    there : slice_get comms seat.meeting.comm ≡ Some looked.comm
    there =
        ap (λ (k : PostStateValue X). slice_get k.comms seat.meeting.comm) same ∙ looked.there

    pub within : seat.meeting.comm < length comms
    within = slice_get_within comms seat.meeting.comm looked.comm there

    met : IsMeetingOf old.waiting s.sig seat.meeting
    met = subst
        (λ (k : PostStateValue X). IsMeetingOf (view_of_pending k.lines) s.sig seat.meeting)
        (sym same) looked.met

    -- it was looked at in these parts
    abbrev at : LookedAt old seat s.sig s.own (stated_type s.sig) s.given
    at = record {
      comm = looked.comm;
      there = there;
      rank = looked.rank;
      faultless = looked.faultless;
      met = met;
      agrees = looked.agrees;
    }

    module _ (members : List ℕ) (post_state : IsPostState old)
        (barred : s.barred ≡ not (star (has now.accesses) seat.process s.label))
        (group : (found : Comm) → slice_get comms seat.meeting.comm ≡ Some found →
        members ≡ found.members)
        (once : is_distinct members ≡ true)
        (sized : (found : Comm) → slice_get comms seat.meeting.comm ≡ Some found →
        IsSized (shape_of found)) where
      word : s.barred ≡ not (star (has accesses) seat.process s.label)
      word = subst
          (λ (k : PostStateValue X). s.barred ≡ not (star (has k.accesses) seat.process s.label))
          (sym same) barred

      pub spotted : IsSpotted old seat s looked.comm
      spotted = record {
        there = there;
        rank = looked.rank;
        once = subst (λ (ms : List ℕ). is_distinct ms ≡ true) (group looked.comm there) once;
        met = met;
        upcoming = is_next old seat s post_state at word (sized looked.comm there);
        word = word;
      }

      -- once its communicators are made
      pub readied : (table : List Comm) (waiting : PendingView X) (made : Option Outcome) →
          waiting ≡ old.waiting →
          ((found : Comm) → slice_get comms seat.meeting.comm ≡ Some found →
          IsPrepared comms table made
          (roll_next old.waiting seat.meeting.comm seat.meeting.rank found s)) →
          IsSpotted (parts_seen table accesses waiting) seat s looked.comm
      readied table waiting made unchanged prepared = record {
        there = ap (λ xs. slice_get xs seat.meeting.comm) (prepared looked.comm there).comms
            ∙ get-prefix comms (added (length comms) (if_full
            (roll_next old.waiting seat.meeting.comm seat.meeting.rank looked.comm s)))
            seat.meeting.comm looked.comm there;
        rank = looked.rank;
        once = spotted.once;
        met = subst (λ (w : PendingView X). IsMeetingOf w s.sig seat.meeting) (sym unchanged) met;
        upcoming = subst
            (λ (w : PendingView X).
            IsNext w seat.meeting.comm seat.meeting.rank looked.comm s)
            (sym unchanged) spotted.upcoming;
        word = word;
      }
