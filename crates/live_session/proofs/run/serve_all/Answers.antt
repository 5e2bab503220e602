use Rattle.std.proofs.Common.{sym, subst}
use Rattle.live_session.specs.Served.{ServedAll}
use Rattle.live_session.specs.Sessions.{Stood}
use Rattle.live_session.proofs.ServedLemmas.{all_fresh, all_come, come_back, served_all}
use Rattle.live_session.proofs.run.serve_all.Goals as goal

pub run_jobs-requires-clause-fresh : goal.run_jobs-requires-clause-fresh
run_jobs-requires-clause-fresh g c κs within =
    let r = c.in-Ok.ready in
    all_fresh c.args.most c.args.policy.now c.args.peers.items r.door r.jobs.items c.in-Ok.ensures.prepared

pub close_up-requires-clause-of : goal.close_up-requires-clause-of
close_up-requires-clause-of g c =
    let r = c.in-Ok.ready in
    come_back (Stood g.M.Machine.stands g.M.Machine.booked)
    g.S.Desk.failures g.S.Desk.remaining g.S.Desk.heard g.O.Sink.failures
    g.O.Sink.contents
    c.args.most c.args.policy.now c.args.peers.items r.door r.jobs.items c.in-Some.ended
    c.in-Ok.ensures.prepared c.in-Some.ensures

pub close_up-requires-clause-all : goal.close_up-requires-clause-all
close_up-requires-clause-all g c =
    let r = c.in-Ok.ready in
    all_come (Stood g.M.Machine.stands g.M.Machine.booked)
    g.S.Desk.failures g.S.Desk.remaining g.S.Desk.heard g.O.Sink.failures g.O.Sink.contents
    c.args.most c.args.policy.now c.args.peers.items r.door r.jobs.items c.in-Some.ended
    c.in-Ok.ensures.prepared c.in-Some.ensures

pub returns-clause-served : goal.returns-clause-served
returns-clause-served g c =
    let r = c.in-Ok.ready in
    subst (λ v. ServedAll g.S.Desk.failures g.S.Desk.remaining g.S.Desk.heard g.O.Sink.failures
    g.O.Sink.contents g.M.Machine.stands g.M.Machine.booked c.args.most c.args.policy.now
    c.args.peers.items
    v.items c.close_up.result.machine)
    (sym c.close_up.ensures.sessions)
    (served_all g.M.Machine.stands g.M.Machine.booked g.S.Desk.failures g.S.Desk.remaining
    g.S.Desk.heard g.O.Sink.failures g.O.Sink.contents c.args.most c.args.policy.now
    c.args.peers.items r.door
    r.jobs.items c.in-Some.ended c.in-Ok.ensures.prepared c.in-Some.ensures
    c.close_up.result.machine c.close_up.ensures.machine)
