use Rattle.std.proofs.Common.{◌≡◌, ◌∙◌, ◌<◌, length, List, ℕ, true, sym, ap, subst, Ok}
use Rattle.std.proofs.lemmas.Option.{slice_get_within}
use Rattle.coll_routes.specs.declared.roll.Shape.{Shape}
use Rattle.coll_routes.specs.Faults.{stated_type}
use Rattle.coll_pending.specs.declared.arrival.Arrived.TheVariants.{Waiting, Full}
use Rattle.coll_pending.specs.Instances.{Communicator}
use Rattle.coll_pending.specs.Lists.{fits, room_by}
use Rattle.coll_pending.specs.Waiting.{view_of_pending, HasRoom}
use Rattle.run_model.specs.Comms.{Comm, shape_of}
use Rattle.run_model.specs.Contributions.{contribution}
use Rattle.run_state.specs.declared.entered.Entered.TheVariants as entered
use Rattle.run_state.specs.Views.{PostStateValue, view_of, seen, communicator_of}
use Rattle.run_state.specs.Stands.{StandsForPosts}
use Rattle.run_state.specs.Upcoming.{IsNext}
use Rattle.run_state.proofs.RowLemmas.{some_same}
use Rattle.run_state.proofs.PostStateLemmas.{parts_seen}
use Rattle.run_state.proofs.StandLemmas.{lifted}
use Rattle.run_state.proofs.VerdictLemmas.{known_as, arrived_for, fit_full}
use Rattle.run_state.proofs.EnterLemmas.{within, spotted, readied, passed_is}
use Rattle.run_state.proofs.StepLemmas.{waits_step, fills_step}
use Rattle.run_state.proofs.post_state.PostState.enter.Goals as goal

pub group-requires : goal.group-requires
group-requires g c = within c.self.inside.comms c.self.inside.pending c.self.inside.histories
    c.args.self.now c.self.view_is c.args.seat c.args.stated c.requires.looked

pub prepare-requires : goal.prepare-requires
prepare-requires g c =
    let is = spotted c.self.inside.comms c.self.inside.pending c.self.inside.histories
    c.args.self.now c.self.view_is c.args.seat c.args.stated c.requires.looked c.group.result.now
    c.self.invariant c.requires.word c.group.ensures.members c.group.ensures.distinct
    c.group.ensures.sized in
    record {
      there = within c.self.inside.comms c.self.inside.pending c.self.inside.histories
          c.args.self.now c.self.view_is c.args.seat c.args.stated c.requires.looked;
      met = is.met;
      upcoming = λ found e.
          subst (λ (f : Comm). IsNext (view_of_pending c.self.inside.pending)
          c.args.seat.meeting.comm c.args.seat.meeting.rank f c.args.stated)
          (some_same c.requires.looked.comm found (sym is.there ∙ e)) is.upcoming;
    }

pub enter_passed-requires : goal.enter_passed-requires
enter_passed-requires g c =
    let is = spotted c.self.inside.comms c.self.inside.pending c.self.inside.histories
    c.args.self.now c.self.view_is c.args.seat c.args.stated c.requires.looked c.group.result.now
    c.self.invariant c.requires.word c.group.ensures.members c.group.ensures.distinct
    c.group.ensures.sized in
    passed_is _ _ is.word

pub group-group-requires : goal.group-group-requires
group-group-requires g c =
    let now = readied c.self.inside.comms c.self.inside.pending c.self.inside.histories
    c.args.self.now c.self.view_is c.args.seat c.args.stated c.requires.looked c.group.result.now
    c.self.invariant c.requires.word c.group.ensures.members c.group.ensures.distinct
    c.group.ensures.sized c.prepare.new.comms (view_of_pending c.prepare.new.pending) c.in-Ok.made
    c.in-Ok.ensures.waiting c.in-Ok.ensures.made in
    slice_get_within c.prepare.new.comms c.args.seat.meeting.comm c.requires.looked.comm now.there

pub shape-shape-requires : goal.shape-shape-requires
shape-shape-requires g c =
    let now = readied c.self.inside.comms c.self.inside.pending c.self.inside.histories
    c.args.self.now c.self.view_is c.args.seat c.args.stated c.requires.looked c.group.result.now
    c.self.invariant c.requires.word c.group.ensures.members c.group.ensures.distinct
    c.group.ensures.sized c.prepare.new.comms (view_of_pending c.prepare.new.pending) c.in-Ok.made
    c.in-Ok.ensures.waiting c.in-Ok.ensures.made in
    slice_get_within c.prepare.new.comms c.args.seat.meeting.comm c.requires.looked.comm now.there

pub arrive_ready-requires-clause-met : goal.arrive_ready-requires-clause-met
arrive_ready-requires-clause-met g c =
    let now = readied c.self.inside.comms c.self.inside.pending c.self.inside.histories
    c.args.self.now c.self.view_is c.args.seat c.args.stated c.requires.looked c.group.result.now
    c.self.invariant c.requires.word c.group.ensures.members c.group.ensures.distinct
    c.group.ensures.sized c.prepare.new.comms (view_of_pending c.prepare.new.pending) c.in-Ok.made
    c.in-Ok.ensures.waiting c.in-Ok.ensures.made in
    now.met

pub arrive_ready-requires-clause-agrees : goal.arrive_ready-requires-clause-agrees
arrive_ready-requires-clause-agrees g c = c.requires.looked.agrees

pub arrive_ready-requires-clause-rank : goal.arrive_ready-requires-clause-rank
arrive_ready-requires-clause-rank g c =
    let now = readied c.self.inside.comms c.self.inside.pending c.self.inside.histories
    c.args.self.now c.self.view_is c.args.seat c.args.stated c.requires.looked c.group.result.now
    c.self.invariant c.requires.word c.group.ensures.members c.group.ensures.distinct
    c.group.ensures.sized c.prepare.new.comms (view_of_pending c.prepare.new.pending) c.in-Ok.made
    c.in-Ok.ensures.waiting c.in-Ok.ensures.made in
    subst (λ (ms : List ℕ). c.args.seat.meeting.rank < length ms)
    (sym (c.group-group.ensures.members c.requires.looked.comm now.there)) now.upcoming.member

pub arrive_ready-requires-clause-known : goal.arrive_ready-requires-clause-known
arrive_ready-requires-clause-known g c =
    let now = readied c.self.inside.comms c.self.inside.pending c.self.inside.histories
    c.args.self.now c.self.view_is c.args.seat c.args.stated c.requires.looked c.group.result.now
    c.self.invariant c.requires.word c.group.ensures.members c.group.ensures.distinct
    c.group.ensures.sized c.prepare.new.comms (view_of_pending c.prepare.new.pending) c.in-Ok.made
    c.in-Ok.ensures.waiting c.in-Ok.ensures.made in
    known_as c.group-group.result.now c.shape-shape.result.now c.requires.looked.comm
    ((view_of_pending c.prepare.new.pending).known c.args.seat.meeting.comm)
    (c.group-group.ensures.members c.requires.looked.comm now.there)
    (c.shape-shape.ensures c.requires.looked.comm now.there) now.upcoming.known

pub arrive_ready-requires-clause-room : goal.arrive_ready-requires-clause-room
arrive_ready-requires-clause-room g c = λ opens.
    let is = spotted c.self.inside.comms c.self.inside.pending c.self.inside.histories
    c.args.self.now c.self.view_is c.args.seat c.args.stated c.requires.looked c.group.result.now
    c.self.invariant c.requires.word c.group.ensures.members c.group.ensures.distinct
    c.group.ensures.sized in
    let now = readied c.self.inside.comms c.self.inside.pending c.self.inside.histories
    c.args.self.now c.self.view_is c.args.seat c.args.stated c.requires.looked c.group.result.now
    c.self.invariant c.requires.word c.group.ensures.members c.group.ensures.distinct
    c.group.ensures.sized c.prepare.new.comms (view_of_pending c.prepare.new.pending) c.in-Ok.made
    c.in-Ok.ensures.waiting c.in-Ok.ensures.made in
    let same : communicator_of c.requires.looked.comm ≡ record
    { members = c.group-group.result.now; shape = c.shape-shape.result.now } = λ i. record {
      members = sym (c.group-group.ensures.members c.requires.looked.comm now.there) i;
      shape = sym (c.shape-shape.ensures c.requires.looked.comm now.there) i;
    } in
    subst (λ (k : Communicator). HasRoom c.prepare.new.pending c.args.seat.meeting.comm
    c.args.seat.meeting.rank k) same (c.in-Ok.ensures.room c.requires.looked.comm is.there)

pub arrive_ready-requires-clause-fits : goal.arrive_ready-requires-clause-fits
arrive_ready-requires-clause-fits g c = λ opens.
    let now = readied c.self.inside.comms c.self.inside.pending c.self.inside.histories
    c.args.self.now c.self.view_is c.args.seat c.args.stated c.requires.looked c.group.result.now
    c.self.invariant c.requires.word c.group.ensures.members c.group.ensures.distinct
    c.group.ensures.sized c.prepare.new.comms (view_of_pending c.prepare.new.pending) c.in-Ok.made
    c.in-Ok.ensures.waiting c.in-Ok.ensures.made in
    subst (λ (s : Shape). fits (room_by s) c.args.stated.sig ≡ true)
    (sym (c.shape-shape.ensures c.requires.looked.comm now.there))
    (c.faultless_signatures_fit.ensures (shape_of c.requires.looked.comm) c.args.seat.meeting.rank
    c.args.stated.sig c.args.stated.own (stated_type c.args.stated.sig) c.args.stated.given
    c.requires.looked.faultless)

pub settle_full-outcome-requires-clause-fit : goal.settle_full-outcome-requires-clause-fit
settle_full-outcome-requires-clause-fit g c =
    let m = c.args.seat.meeting in
    let now = readied c.self.inside.comms c.self.inside.pending c.self.inside.histories
    c.args.self.now c.self.view_is c.args.seat c.args.stated c.requires.looked c.group.result.now
    c.self.invariant c.requires.word c.group.ensures.members c.group.ensures.distinct
    c.group.ensures.sized c.prepare.new.comms (view_of_pending c.prepare.new.pending) c.in-Ok.made
    c.in-Ok.ensures.waiting c.in-Ok.ensures.made in
    let arrived = arrived_for (view_of_pending c.prepare.new.pending)
    (view_of_pending c.arrive_ready.new.self) m.comm m.rank c.group-group.result.now
    c.shape-shape.result.now c.requires.looked.comm c.args.stated c.args.part (Full c.in-Full.full)
    (c.group-group.ensures.members c.requires.looked.comm now.there)
    (c.shape-shape.ensures c.requires.looked.comm now.there) c.in-Full.ensures in
    fit_full c.args.policy.now 0
    (parts_seen c.prepare.new.comms c.self.inside.histories (view_of_pending c.prepare.new.pending))
    (view_of_pending c.arrive_ready.new.self) c.requires.looked.comm m.rank
    (contribution c.args.seat.process m.comm c.args.stated c.args.part) c.in-Full.full now.upcoming
    arrived

pub settle_full-outcome-requires-clause-classes : goal.settle_full-outcome-requires-clause-classes
settle_full-outcome-requires-clause-classes g c = c.enter_passed.ensures.classes
    ∙ (ap (λ (k : PostStateValue g.row.X.Denot). k.accesses.classes) c.self.view_is
    ∙ c.requires.policy)

pub invariant_of-self-in-Waiting : goal.invariant_of-self-in-Waiting
invariant_of-self-in-Waiting g c =
    let m = c.args.seat.meeting in
    let is = spotted c.self.inside.comms c.self.inside.pending c.self.inside.histories
    c.args.self.now c.self.view_is c.args.seat c.args.stated c.requires.looked c.group.result.now
    c.self.invariant c.requires.word c.group.ensures.members c.group.ensures.distinct
    c.group.ensures.sized in
    let now = readied c.self.inside.comms c.self.inside.pending c.self.inside.histories
    c.args.self.now c.self.view_is c.args.seat c.args.stated c.requires.looked c.group.result.now
    c.self.invariant c.requires.word c.group.ensures.members c.group.ensures.distinct
    c.group.ensures.sized c.prepare.new.comms (view_of_pending c.prepare.new.pending) c.in-Ok.made
    c.in-Ok.ensures.waiting c.in-Ok.ensures.made in
    let arrived = arrived_for (view_of_pending c.prepare.new.pending)
    (view_of_pending c.arrive_ready.new.self) m.comm m.rank c.group-group.result.now
    c.shape-shape.result.now c.requires.looked.comm c.args.stated c.args.part Waiting
    (c.group-group.ensures.members c.requires.looked.comm now.there)
    (c.shape-shape.ensures c.requires.looked.comm now.there) c.in-Waiting.ensures in
    let step = waits_step c.args.policy.now c.self.inside.comms c.prepare.new.comms
    c.self.inside.histories c.enter_passed.new.histories (view_of_pending c.self.inside.pending)
    (view_of_pending c.prepare.new.pending) (view_of_pending c.arrive_ready.new.self) c.args.seat
    c.args.stated c.args.part c.in-Ok.made c.requires.looked.comm c.self.invariant is
    c.in-Ok.ensures.waiting (c.in-Ok.ensures.made c.requires.looked.comm is.there)
    c.enter_passed.ensures.pairs c.enter_passed.ensures.processes c.enter_passed.ensures.classes
    arrived in
    step.post_state

pub invariant_of-self-in-Full : goal.invariant_of-self-in-Full
invariant_of-self-in-Full g c =
    let m = c.args.seat.meeting in
    let is = spotted c.self.inside.comms c.self.inside.pending c.self.inside.histories
    c.args.self.now c.self.view_is c.args.seat c.args.stated c.requires.looked c.group.result.now
    c.self.invariant c.requires.word c.group.ensures.members c.group.ensures.distinct
    c.group.ensures.sized in
    let now = readied c.self.inside.comms c.self.inside.pending c.self.inside.histories
    c.args.self.now c.self.view_is c.args.seat c.args.stated c.requires.looked c.group.result.now
    c.self.invariant c.requires.word c.group.ensures.members c.group.ensures.distinct
    c.group.ensures.sized c.prepare.new.comms (view_of_pending c.prepare.new.pending) c.in-Ok.made
    c.in-Ok.ensures.waiting c.in-Ok.ensures.made in
    let arrived = arrived_for (view_of_pending c.prepare.new.pending)
    (view_of_pending c.arrive_ready.new.self) m.comm m.rank c.group-group.result.now
    c.shape-shape.result.now c.requires.looked.comm c.args.stated c.args.part (Full c.in-Full.full)
    (c.group-group.ensures.members c.requires.looked.comm now.there)
    (c.shape-shape.ensures c.requires.looked.comm now.there) c.in-Full.ensures in
    let step = fills_step c.args.policy.now c.self.inside.comms c.prepare.new.comms
    c.self.inside.histories c.enter_passed.new.histories (view_of_pending c.self.inside.pending)
    (view_of_pending c.prepare.new.pending) (view_of_pending c.arrive_ready.new.self) c.args.seat
    c.args.stated c.args.part c.in-Ok.made c.requires.looked.comm c.self.invariant is
    c.in-Ok.ensures.waiting (c.in-Ok.ensures.made c.requires.looked.comm is.there)
    c.enter_passed.ensures.pairs c.enter_passed.ensures.processes c.enter_passed.ensures.classes
    c.in-Full.full c.settle_full-outcome.result c.settle_full-outcome.new.histories arrived
    c.settle_full-outcome.ensures.outcome c.settle_full-outcome.ensures.pairs
    c.settle_full-outcome.ensures.processes c.settle_full-outcome.ensures.classes in
    step.post_state

pub returns-in-Waiting-clause-entered : goal.returns-in-Waiting-clause-entered
returns-in-Waiting-clause-entered g c = λ past stands.
    let m = c.args.seat.meeting in
    let is = spotted c.self.inside.comms c.self.inside.pending c.self.inside.histories
    c.args.self.now c.self.view_is c.args.seat c.args.stated c.requires.looked c.group.result.now
    c.self.invariant c.requires.word c.group.ensures.members c.group.ensures.distinct
    c.group.ensures.sized in
    let now = readied c.self.inside.comms c.self.inside.pending c.self.inside.histories
    c.args.self.now c.self.view_is c.args.seat c.args.stated c.requires.looked c.group.result.now
    c.self.invariant c.requires.word c.group.ensures.members c.group.ensures.distinct
    c.group.ensures.sized c.prepare.new.comms (view_of_pending c.prepare.new.pending) c.in-Ok.made
    c.in-Ok.ensures.waiting c.in-Ok.ensures.made in
    let arrived = arrived_for (view_of_pending c.prepare.new.pending)
    (view_of_pending c.arrive_ready.new.self) m.comm m.rank c.group-group.result.now
    c.shape-shape.result.now c.requires.looked.comm c.args.stated c.args.part Waiting
    (c.group-group.ensures.members c.requires.looked.comm now.there)
    (c.shape-shape.ensures c.requires.looked.comm now.there) c.in-Waiting.ensures in
    let step = waits_step c.args.policy.now c.self.inside.comms c.prepare.new.comms
    c.self.inside.histories c.enter_passed.new.histories (view_of_pending c.self.inside.pending)
    (view_of_pending c.prepare.new.pending) (view_of_pending c.arrive_ready.new.self) c.args.seat
    c.args.stated c.args.part c.in-Ok.made c.requires.looked.comm c.self.invariant is
    c.in-Ok.ensures.waiting (c.in-Ok.ensures.made c.requires.looked.comm is.there)
    c.enter_passed.ensures.pairs c.enter_passed.ensures.processes c.enter_passed.ensures.classes
    arrived in
    lifted c.args.policy.now
    (seen c.self.inside.comms c.self.inside.pending c.self.inside.histories)
    (parts_seen c.prepare.new.comms c.enter_passed.new.histories
    (view_of_pending c.arrive_ready.new.self))
    (contribution c.args.seat.process m.comm c.args.stated c.args.part)
    (Ok (entered.Waiting m.k)) step.moves past
    (subst (λ (k : PostStateValue g.row.X.Denot). StandsForPosts c.args.policy.now (view_of k) past)
    (sym c.self.view_is) stands)

pub returns-in-Full-clause-entered : goal.returns-in-Full-clause-entered
returns-in-Full-clause-entered g c = λ past stands.
    let m = c.args.seat.meeting in
    let is = spotted c.self.inside.comms c.self.inside.pending c.self.inside.histories
    c.args.self.now c.self.view_is c.args.seat c.args.stated c.requires.looked c.group.result.now
    c.self.invariant c.requires.word c.group.ensures.members c.group.ensures.distinct
    c.group.ensures.sized in
    let now = readied c.self.inside.comms c.self.inside.pending c.self.inside.histories
    c.args.self.now c.self.view_is c.args.seat c.args.stated c.requires.looked c.group.result.now
    c.self.invariant c.requires.word c.group.ensures.members c.group.ensures.distinct
    c.group.ensures.sized c.prepare.new.comms (view_of_pending c.prepare.new.pending) c.in-Ok.made
    c.in-Ok.ensures.waiting c.in-Ok.ensures.made in
    let arrived = arrived_for (view_of_pending c.prepare.new.pending)
    (view_of_pending c.arrive_ready.new.self) m.comm m.rank c.group-group.result.now
    c.shape-shape.result.now c.requires.looked.comm c.args.stated c.args.part (Full c.in-Full.full)
    (c.group-group.ensures.members c.requires.looked.comm now.there)
    (c.shape-shape.ensures c.requires.looked.comm now.there) c.in-Full.ensures in
    let step = fills_step c.args.policy.now c.self.inside.comms c.prepare.new.comms
    c.self.inside.histories c.enter_passed.new.histories (view_of_pending c.self.inside.pending)
    (view_of_pending c.prepare.new.pending) (view_of_pending c.arrive_ready.new.self) c.args.seat
    c.args.stated c.args.part c.in-Ok.made c.requires.looked.comm c.self.invariant is
    c.in-Ok.ensures.waiting (c.in-Ok.ensures.made c.requires.looked.comm is.there)
    c.enter_passed.ensures.pairs c.enter_passed.ensures.processes c.enter_passed.ensures.classes
    c.in-Full.full c.settle_full-outcome.result c.settle_full-outcome.new.histories arrived
    c.settle_full-outcome.ensures.outcome c.settle_full-outcome.ensures.pairs
    c.settle_full-outcome.ensures.processes c.settle_full-outcome.ensures.classes in
    lifted c.args.policy.now
    (seen c.self.inside.comms c.self.inside.pending c.self.inside.histories)
    (parts_seen c.prepare.new.comms c.settle_full-outcome.new.histories
    (view_of_pending c.arrive_ready.new.self))
    (contribution c.args.seat.process m.comm c.args.stated c.args.part)
    (Ok (entered.Settled c.in-Full.full m.k c.settle_full-outcome.result)) step.moves past
    (subst (λ (k : PostStateValue g.row.X.Denot). StandsForPosts c.args.policy.now (view_of k) past)
    (sym c.self.view_is) stands)

pub returns-in-Full-clause-classes : goal.returns-in-Full-clause-classes
returns-in-Full-clause-classes g c = c.settle_full-outcome.ensures.classes
    ∙ (c.enter_passed.ensures.classes
    ∙ ap (λ (k : PostStateValue g.row.X.Denot). k.accesses.classes) c.self.view_is)
