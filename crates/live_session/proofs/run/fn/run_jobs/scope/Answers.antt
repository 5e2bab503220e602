use Rattle.std.proofs.Common.{◌∙◌, arith}
use Rattle.std.specs.Vec.Iter.{into_iter_items}
use Rattle.live_session.specs.Sessions.{Stood}
use Rattle.live_session.proofs.ServedLemmas.{all_handed, refused}
use Rattle.live_session.proofs.run.fn.run_jobs.scope.Goals as goal

pub returns-in_default : goal.returns-in_default
returns-in_default g c =
    refused c.end_all.result c.release.result _ c.release.ensures.begun c.end_all.ensures.begun

pub returns : goal.returns
returns g c =
    let i = c.loop-job.invariant in
    all_handed (Stood g.M.Machine.stands g.M.Machine.booked)
    g.S.Desk.failures g.S.Desk.remaining g.S.Desk.heard g.O.Sink.failures
    g.O.Sink.contents
    c.end_all-2.result c.captures.jobs.items c.loop-job.yielded
    (into_iter_items c.loop-job.job-iterator) c.loop-job.handles.items i.handed
    (i.whole ∙ c.into_iter-job-iterator.ensures.into_iter_gives.0)
    (let o = c.loop-job.job-iterator.rest.ok in let none = c.in-None.ensures.steps.0 in omega arith)
    c.end_all-2.ensures.served
