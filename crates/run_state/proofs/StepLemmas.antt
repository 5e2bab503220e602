-- What entering a post changes, by what the parts of a state have told.
use Rattle.std.proofs.Common.{◌≡◌, ◌<◌, ℕ, List, [], not, length, refl, sym, ap, subst, ◌∙◌}
use Rattle.std.proofs.Common.{Option, Some, None, false}
use Rattle.std.specs.Prelude.{IfSome}
use Rattle.wall_policy.specs.Policy.{ChineseWall}
use Rattle.wall_rules.specs.Histories.{Accesses, has}
use Rattle.coll_routes.specs.declared.roll.Roll.{Roll}
use Rattle.coll_routes.specs.declared.statement.Stated.{Stated}
use Rattle.coll_values.specs.declared.full.Full.{Full}
use Rattle.coll_pending.specs.declared.arrival.Arrived.{Arrived}
use Rattle.coll_pending.specs.declared.arrival.Arrived.TheVariants as arrived
use Rattle.coll_routes.specs.Rolls.{is_full}
use Rattle.coll_pending.specs.Instances.{Communicator}
use Rattle.coll_pending.specs.declared.arrival.Meeting.{Meeting}
use Rattle.coll_pending.specs.Waiting.{PendingView, IsKnownAs, HasArrived}
use Rattle.wall_verdict.specs.Star.{star, with_label}
use Rattle.run_model.specs.Comms.{Comm}
use Rattle.run_model.specs.Posts.{outcome_of, with_delivery}
use Rattle.run_model.specs.declared.outcome.Outcome.{Outcome}
use Rattle.run_model.specs.Contributions.{Contribution, contribution}
use Rattle.run_state.specs.declared.entered.Entered.{Entered}
use Rattle.run_state.specs.declared.entered.Entered.TheVariants.{Waiting, Settled}
use Rattle.run_state.specs.declared.seat.Seat.{Seat}
use Rattle.run_state.specs.Views.{PostStateView, IsPostState, communicator_of}
use Rattle.run_state.specs.Entering.{Spot, Changes, Answers, written}
use Rattle.run_state.specs.Upcoming.{IsNext, IsPrepared, constructed, roll_next}
use Rattle.run_state.proofs.SeenLemmas.{roll_is}
use Rattle.run_state.proofs.PostStateLemmas.{IsStep, parts_seen, counted, prepared_waiting}
use Rattle.run_state.proofs.PostStateLemmas.{written_is, changes_waiting, changes_full}
use Rattle.run_state.proofs.VerdictLemmas.{roll_full, answers_full}
use Rattle.run_state.proofs.EnterLemmas.{IsSpotted, passed_is}

-- a member of a communicator is one of it as it is known
pub member_known : (w : Option Communicator) (comm : Comm) (rank : ℕ) →
    IsKnownAs (communicator_of comm) w → rank < length comm.members →
    IfSome w (λ m. rank < length m.members)
member_known None comm rank known lt = tt
member_known (Some first) comm rank known lt =
    subst (λ (m : Communicator). rank < length m.members) (sym known) lt

-- a policy, for what is so under any
pub no_wall : ChineseWall
no_wall = record {
  version = 0;
  class_names = [];
  dataset_names = [];
  process_names = [];
  classes = [];
  homes = [];
  leasts = [];
  distincts = [];
  held = [];
}

-- The communicators were these and are those of the table, what waited was `before`, is `waiting`
-- once there is room, and `after` once the post has arrived.
module _ {X : Type 0} (wall : ChineseWall) (comms table : List Comm) (accesses mid : Accesses)
    (before waiting after : PendingView X) (seat : Seat) (s : Stated) (part : X)
    (made : Option Outcome) (comm : Comm)
    (post_state : IsPostState (parts_seen comms accesses before))
    (is : IsSpotted (parts_seen comms accesses before) seat s comm) (same : waiting ≡ before)
    (prepared : IsPrepared comms table made
    (roll_next before seat.meeting.comm seat.meeting.rank comm s))
    (pairs : has mid ≡ with_label (has accesses) seat.process s.label (not s.barred))
    (processes : mid.processes ≡ accesses.processes) (classes : mid.classes ≡ accesses.classes)
  where
    abbrev ready : PostStateView X
    ready = parts_seen table accesses waiting

    abbrev spot : Spot
    spot = record { rank = seat.meeting.rank; comm = comm }

    abbrev it : Contribution X
    it = contribution seat.process seat.meeting.comm s part

    abbrev Arrival : Arrived X → Type 0
    Arrival a = HasArrived waiting after seat.meeting.comm seat.meeting.rank
        (communicator_of comm) s part a

    upcoming : IsNext waiting seat.meeting.comm seat.meeting.rank comm s
    upcoming = subst
        (λ (w : PendingView X). IsNext w seat.meeting.comm seat.meeting.rank comm s) (sym same)
        is.upcoming

    place : seat.meeting.k ≡ waiting.arrivals seat.meeting.comm seat.meeting.rank
    place = ap (λ (m : Meeting). m.k) is.met
        ∙ ap (λ (w : PendingView X). w.arrivals seat.meeting.comm seat.meeting.rank) (sym same)

    written_now : has mid ≡ written ready it
    written_now = written_is wall (length comms) ready (parts_seen table mid after) spot it
        processes classes is.word (not s.barred) (has mid)
        (passed_is s.barred (star (has accesses) seat.process s.label) is.word) pairs

    step : (entered : Entered X) (later : Accesses) →
        (made ≡ constructed (length comms)
        (roll_next waiting seat.meeting.comm seat.meeting.rank comm s) →
        Changes wall (length comms) ready (parts_seen table later after) spot it
        × Answers wall (length comms) ready spot it entered) →
        IsStep wall (parts_seen comms accesses before) (parts_seen table later after) it entered
    step entered later changed = counted wall comms table before waiting after accesses later spot
        it made entered post_state
        (record { there = is.there; rank = is.rank; once = is.once }) is.upcoming same prepared
        changed

    -- where its instance waits on
    pub waits_step : Arrival arrived.Waiting →
        IsStep wall (parts_seen comms accesses before) (parts_seen table mid after) it
        (Waiting seat.meeting.k)
    waits_step arrives = step (Waiting seat.meeting.k) mid (λ told. (
      changes_waiting wall (length comms) ready (parts_seen table mid after) spot it processes
          classes is.word arrives written_now,
      (place, arrives.0),
    ))

    -- where it fills it
    pub fills_step : (full : Full X) (outcome : Outcome) (later : Accesses) →
        Arrival (arrived.Full full) →
        ((count : ℕ) → made ≡ constructed count full.roll →
        outcome ≡ outcome_of wall (has mid) count full.roll) →
        ((count : ℕ) → made ≡ constructed count full.roll →
        has later ≡ with_delivery wall (has mid) count (Some full.roll)) →
        later.processes ≡ mid.processes → later.classes ≡ mid.classes →
        IsStep wall (parts_seen comms accesses before) (parts_seen table later after) it
        (Settled full seat.meeting.k outcome)
    fills_step full outcome later arrives tells grows processes_now classes_now =
        let count = length comms in
        step (Settled full seat.meeting.k outcome) later (λ told.
        let here : made ≡ constructed count full.roll = told ∙ ap (constructed count) (sym
        (roll_full wall count ready after comm seat.meeting.rank it full upcoming arrives)) in (
          changes_full wall count ready (parts_seen table later after) spot it
              (processes_now ∙ processes) (classes_now ∙ classes) is.word full arrives
              (grows count here
              ∙ ap (λ h. with_delivery wall h count (Some full.roll)) written_now),
          answers_full wall count ready after comm seat.meeting.rank it full upcoming arrives
              seat.meeting.k outcome (has mid) place written_now (tells count here),
        ))

-- a post of an instance that waits for others too
module _ {X : Type 0} (wall : ChineseWall) (comms : List Comm) (accesses mid : Accesses)
    (waiting after : PendingView X) (seat : Seat) (s : Stated) (part : X) (comm : Comm)
    (post_state : IsPostState (parts_seen comms accesses waiting))
    (is : IsSpotted (parts_seen comms accesses waiting) seat s comm)
    (pairs : has mid ≡ with_label (has accesses) seat.process s.label (not s.barred))
    (processes : mid.processes ≡ accesses.processes) (classes : mid.classes ≡ accesses.classes)
    (arrives : (of : Communicator) → IsKnownAs of (waiting.known seat.meeting.comm) →
    HasArrived waiting after seat.meeting.comm seat.meeting.rank of s part arrived.Waiting) where
  arrival : HasArrived waiting after seat.meeting.comm seat.meeting.rank (communicator_of comm) s
      part arrived.Waiting
  arrival = arrives (communicator_of comm) is.upcoming.known

  waits : is_full (roll_next waiting seat.meeting.comm seat.meeting.rank comm s).stated ≡ false
  waits = subst (λ (r : Roll). is_full r.stated ≡ false)
      (roll_is comm seat.meeting.rank s part
      (Rattle.coll_pending.specs.Waiting.before waiting seat.meeting.comm seat.meeting.rank))
      arrival.0

  pub joined_step : IsStep wall (parts_seen comms accesses waiting) (parts_seen comms mid after)
      (contribution seat.process seat.meeting.comm s part) (Waiting seat.meeting.k)
  joined_step = waits_step wall comms comms accesses mid waiting waiting after seat s part None
      comm post_state is refl
      (prepared_waiting waiting seat.meeting.comm seat.meeting.rank comm s is.upcoming comms
      waits)
      pairs processes classes arrival
