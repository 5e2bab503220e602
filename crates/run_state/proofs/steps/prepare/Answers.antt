use Rattle.std.proofs.Common.{◌<◌, length, sym, subst, List, ℕ}
use Rattle.std.specs.Prelude.{IfOk}
use Rattle.coll_pending.specs.Waiting.{view_of_pending, PendingView}
use Rattle.run_state.specs.Upcoming.{IsUpcoming, IsMade}
use Rattle.run_state.proofs.LaidLemmas.{some_at}
use Rattle.run_state.proofs.VerdictLemmas.{known_as}
use Rattle.run_state.proofs.steps.prepare.Goals as goal

pub ready-requires-clause-rank : goal.ready-requires-clause-rank
ready-requires-clause-rank g c =
    let found = some_at c.args.comms.now c.args.meeting.comm c.requires.there in
    subst (λ (ms : List ℕ). c.args.meeting.rank < length ms) (sym (c.group.ensures.members found.0
    found.1))
    (c.requires.upcoming found.0 found.1).member

pub ready-requires-clause-known : goal.ready-requires-clause-known
ready-requires-clause-known g c =
    let found = some_at c.args.comms.now c.args.meeting.comm c.requires.there in
    known_as c.group.result.now c.shape.result.now found.0
    ((view_of_pending c.args.pending.now).known c.args.meeting.comm)
    (c.group.ensures.members found.0 found.1) (c.shape.ensures found.0 found.1)
    (c.requires.upcoming found.0 found.1).known

pub make_if_full-requires : goal.make_if_full-requires
make_if_full-requires g c =
    subst (λ (w : PendingView g.row.X.Denot).
    IsUpcoming c.args.comms.now w c.args.meeting c.args.stated.now)
    (sym c.in_ok-ready.ensures.unchanged) c.requires

pub returns-clause-made : goal.returns-clause-made
returns-clause-made g c =
    subst (λ (w : PendingView g.row.X.Denot). IfOk c.make_if_full.result
    (IsMade c.args.comms.now c.make_if_full.new.comms w c.args.meeting c.args.stated.now))
    c.in_ok-ready.ensures.unchanged c.make_if_full.ensures.made
