use Rattle.std.proofs.Common.{sym, subst, Ok}
use Rattle.coll_pending.specs.Waiting.{view_of_pending}
use Rattle.run_model.specs.Contributions.{contribution}
use Rattle.run_state.specs.declared.entered.Entered.TheVariants.{Waiting}
use Rattle.run_state.specs.Views.{PostStateValue, view_of, seen}
use Rattle.run_state.specs.Stands.{StandsForPosts}
use Rattle.run_state.proofs.PostStateLemmas.{parts_seen}
use Rattle.run_state.proofs.StandLemmas.{lifted}
use Rattle.run_state.proofs.EnterLemmas.{within, spotted, passed_is}
use Rattle.run_state.proofs.StepLemmas.{member_known, joined_step, no_wall}
use Rattle.run_state.proofs.post_state.PostState.join.Goals as goal

pub group-requires : goal.group-requires
group-requires g c = within c.self.inside.comms c.self.inside.pending c.self.inside.histories
    c.args.self.now c.self.view_is c.args.seat c.args.stated c.requires.looked

pub enter_passed-requires : goal.enter_passed-requires
enter_passed-requires g c =
    let is = spotted c.self.inside.comms c.self.inside.pending c.self.inside.histories
    c.args.self.now c.self.view_is c.args.seat c.args.stated c.requires.looked c.group.result.now
    c.self.invariant c.requires.word c.group.ensures.members c.group.ensures.distinct
    c.group.ensures.sized in
    passed_is _ _ is.word

pub join-requires-clause-met : goal.join-requires-clause-met
join-requires-clause-met g c =
    let is = spotted c.self.inside.comms c.self.inside.pending c.self.inside.histories
    c.args.self.now c.self.view_is c.args.seat c.args.stated c.requires.looked c.group.result.now
    c.self.invariant c.requires.word c.group.ensures.members c.group.ensures.distinct
    c.group.ensures.sized in
    is.met

pub join-requires-clause-rank : goal.join-requires-clause-rank
join-requires-clause-rank g c =
    let is = spotted c.self.inside.comms c.self.inside.pending c.self.inside.histories
    c.args.self.now c.self.view_is c.args.seat c.args.stated c.requires.looked c.group.result.now
    c.self.invariant c.requires.word c.group.ensures.members c.group.ensures.distinct
    c.group.ensures.sized in
    member_known ((view_of_pending c.self.inside.pending).known c.args.seat.meeting.comm)
    c.requires.looked.comm c.args.seat.meeting.rank is.upcoming.known is.upcoming.member

pub invariant_of-self : goal.invariant_of-self
invariant_of-self g c =
    let is = spotted c.self.inside.comms c.self.inside.pending c.self.inside.histories
    c.args.self.now c.self.view_is c.args.seat c.args.stated c.requires.looked c.group.result.now
    c.self.invariant c.requires.word c.group.ensures.members c.group.ensures.distinct
    c.group.ensures.sized in
    let step = joined_step no_wall c.self.inside.comms c.self.inside.histories
    c.enter_passed.new.histories (view_of_pending c.self.inside.pending)
    (view_of_pending c.join.new.self) c.args.seat c.args.stated c.args.part c.requires.looked.comm
    c.self.invariant is c.enter_passed.ensures.pairs c.enter_passed.ensures.processes
    c.enter_passed.ensures.classes c.join.ensures in
    step.post_state

pub returns-clause-entered : goal.returns-clause-entered
returns-clause-entered g c = λ wall past stands.
    let is = spotted c.self.inside.comms c.self.inside.pending c.self.inside.histories
    c.args.self.now c.self.view_is c.args.seat c.args.stated c.requires.looked c.group.result.now
    c.self.invariant c.requires.word c.group.ensures.members c.group.ensures.distinct
    c.group.ensures.sized in
    let step = joined_step wall c.self.inside.comms c.self.inside.histories
    c.enter_passed.new.histories (view_of_pending c.self.inside.pending)
    (view_of_pending c.join.new.self) c.args.seat c.args.stated c.args.part c.requires.looked.comm
    c.self.invariant is c.enter_passed.ensures.pairs c.enter_passed.ensures.processes
    c.enter_passed.ensures.classes c.join.ensures in
    lifted wall (seen c.self.inside.comms c.self.inside.pending c.self.inside.histories)
    (parts_seen c.self.inside.comms c.enter_passed.new.histories (view_of_pending c.join.new.self))
    (contribution c.args.seat.process c.args.seat.meeting.comm c.args.stated c.args.part)
    (Ok (Waiting c.args.seat.meeting.k)) step.moves past
    (subst (λ (k : PostStateValue g.row.X.Denot). StandsForPosts wall (view_of k) past)
    (sym c.self.view_is) stands)
