use Rattle.rank_run.specs.declared.waiting.TheConstants.{PATIENCE}
use Rattle.rank_run.proofs.EndLemmas.{prepared_fresh, come_back, all_come, whole_ran}
use Rattle.rank_run.proofs.EndLemmas.{may_run_out}
use Rattle.rank_run.proofs.run.run_ranks.Goals as goal

pub run_jobs-ended-requires-clause-fresh : goal.run_jobs-ended-requires-clause-fresh
run_jobs-ended-requires-clause-fresh g c κs within =
    let r = c.in_ok-ready in
    prepared_fresh c.args.policy c.args.scripts r.ready.door r.ready.jobs.items
    r.ensures.prepared c.requires

pub close_up-requires-clause-of : goal.close_up-requires-clause-of
close_up-requires-clause-of g c =
    let r = c.in_ok-ready in
    let e = c.run_jobs-ended in
    come_back PATIENCE c.args.policy c.args.scripts r.ready.door r.ready.jobs.items e.result
    r.ensures.prepared c.requires e.ensures

pub close_up-requires-clause-all : goal.close_up-requires-clause-all
close_up-requires-clause-all g c =
    let r = c.in_ok-ready in
    let e = c.run_jobs-ended in
    all_come PATIENCE c.args.policy c.args.scripts r.ready.door r.ready.jobs.items e.result
    r.ensures.prepared e.ensures

pub returns-clause-ran : goal.returns-clause-ran
returns-clause-ran g c =
    let r = c.in_ok-ready in
    let e = c.run_jobs-ended in
    let f = c.close_up.ensures in
    whole_ran PATIENCE c.args.policy c.args.scripts r.ready.door r.ready.jobs.items e.result
    r.ensures.prepared e.ensures c.close_up.result f.whole f.replies f.hall

pub returns-clause-exhausted : goal.returns-clause-exhausted
returns-clause-exhausted g c =
    let r = c.in_ok-ready in
    let e = c.run_jobs-ended in
    let f = c.close_up.ensures in
    may_run_out PATIENCE c.args.policy c.args.scripts r.ready.door r.ready.jobs.items e.result
    r.ensures.prepared e.ensures c.close_up.result f.fault f.closed
