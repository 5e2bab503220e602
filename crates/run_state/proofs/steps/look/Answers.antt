use Rattle.std.proofs.Common.{◌<◌, ap, ◌∙◌, subst}
use Rattle.mpi_group.specs.Groups.{rank_in}
use Rattle.coll_pending.specs.declared.arrival.Meeting.{Meeting}
use Rattle.coll_pending.specs.Waiting.{view_of_pending}
use Rattle.run_state.specs.Views.{fault_after}
use Rattle.run_state.proofs.VerdictLemmas.{told_some, told_none, looked_some}
use Rattle.run_state.proofs.steps.look.Goals as goal

pub returns-in-None-clause-test : goal.returns-in-None-clause-test
returns-in-None-clause-test g c =
    let low = subst (λ n. c.args.poster.comm < n) c.len.ensures c.if-comm-len.false in
    told_none c.args.poster.processes c.args.comms.now (view_of_pending c.args.pending.now)
    c.args.poster.process
    c.args.poster.comm c.group.result.now low c.group.ensures.members c.args.terms.sig.now
    c.args.terms.own.now
    c.args.terms.elem_type c.args.terms.given c.if-process-processes.false
    (c.in-None.ensures ∙ ap (λ q. rank_in c.group.result.now q) c.in-Some.ensures.value)

pub returns-in-Some-refusal_after-clause-test : goal.returns-in-Some-refusal_after-clause-test
returns-in-Some-refusal_after-clause-test g c =
    let low = subst (λ n. c.args.poster.comm < n) c.len.ensures c.if-comm-len.false in
    c.in-Some-refusal_after.ensures ∙ ((λ i. fault_after (c.shape_fault-fault.ensures i)
    (ap (λ (m : Meeting). m.does) c.look-meeting.ensures i))
    ∙ told_some c.args.poster.processes c.args.comms.now (view_of_pending c.args.pending.now)
    c.args.poster.process c.args.poster.comm c.group.result.now low c.group.ensures.members
    c.shape.result.now
    c.in-Some-rank_of.rank c.args.terms.sig.now c.args.terms.own.now c.args.terms.elem_type
    c.args.terms.given
    c.if-process-processes.false c.shape.ensures
    (c.in-Some-rank_of.ensures ∙ ap (λ q. rank_in c.group.result.now q) c.in-Some.ensures.value))

pub returns-in-None-refusal_after-clause-test : goal.returns-in-None-refusal_after-clause-test
returns-in-None-refusal_after-clause-test g c =
    let low = subst (λ n. c.args.poster.comm < n) c.len.ensures c.if-comm-len.false in
    c.in-None-refusal_after.ensures ∙ ((λ i. fault_after (c.shape_fault-fault.ensures i)
    (ap (λ (m : Meeting). m.does) c.look-meeting.ensures i))
    ∙ told_some c.args.poster.processes c.args.comms.now (view_of_pending c.args.pending.now)
    c.args.poster.process c.args.poster.comm c.group.result.now low c.group.ensures.members
    c.shape.result.now
    c.in-Some-rank_of.rank c.args.terms.sig.now c.args.terms.own.now c.args.terms.elem_type
    c.args.terms.given
    c.if-process-processes.false c.shape.ensures
    (c.in-Some-rank_of.ensures ∙ ap (λ q. rank_in c.group.result.now q) c.in-Some.ensures.value))

pub returns-in-None-refusal_after-clause-looked : goal.returns-in-None-refusal_after-clause-looked
returns-in-None-refusal_after-clause-looked g c =
    let low = subst (λ n. c.args.poster.comm < n) c.len.ensures c.if-comm-len.false in
    looked_some c.args.poster.processes c.args.comms.now (view_of_pending c.args.pending.now)
    c.in-Some.member c.args.poster.comm c.group.result.now low c.group.ensures.members
    c.shape.result.now c.look-meeting.result
    c.in-Some-rank_of.rank c.args.terms.sig.now c.args.terms.own.now c.args.terms.elem_type
    c.args.terms.given c.shape.ensures c.in-Some-rank_of.ensures c.look-meeting.ensures
    (c.in-None-refusal_after.ensures ∙ (λ i. fault_after (c.shape_fault-fault.ensures i)
    c.look-meeting.result.does))
