use Rattle.std.proofs.Common.{◌≡◌, ◌++◌, ◌≤◌, length, vec_len, vec_capacity}
use Rattle.std.specs.Vec.Iter.{into_iter_items, into_iter_len}
use Rattle.live_session.specs.Joining.{handed}
use Rattle.live_session.proofs.run.fn.run_jobs.scope.Given as goal

abbrev pub invariant-loop-job : goal.invariant-loop-job
invariant-loop-job g l = record {
  whole : l.yielded ++ into_iter_items l.job-iterator ≡ into_iter_items l.initial.job-iterator;
  handed : handed l.handles.items ≡ l.yielded;
  count : vec_len l.handles ≡ length l.yielded;
  fit : into_iter_len l.initial.job-iterator ≤ vec_capacity l.handles;
}
