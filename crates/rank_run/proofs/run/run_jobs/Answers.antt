use Rattle.std.proofs.Common.{arith}
use Rattle.rank_run.specs.declared.waiting.TheConstants.{PATIENCE}
use Rattle.rank_run.proofs.RunLemmas.{played_long}
use Rattle.rank_run.proofs.run.run_jobs.Goals as goal

pub sort_out-requires-clause-passes : goal.sort_out-requires-clause-passes
sort_out-requires-clause-passes g c =
    let back = c.scoped-back in
    let long = played_long PATIENCE c.args.jobs.items back.result.played.items back.ensures.1 in
    let jobs = c.args.jobs.ok in
    let played = back.result.played.ok in
    let room = c.requires.room.passes in
    (room.0, omega (arith, room.1))

pub sort_out-requires-clause-replies : goal.sort_out-requires-clause-replies
sort_out-requires-clause-replies g c =
    let back = c.scoped-back in
    let long = played_long PATIENCE c.args.jobs.items back.result.played.items back.ensures.1 in
    let jobs = c.args.jobs.ok in
    let played = back.result.played.ok in
    let room = c.requires.room.replies in
    (room.0, omega (arith, room.1))
