use Rattle.std.proofs.Common.{◌≡◌, ◌++◌, ◌≤◌, length, vec_len, vec_capacity}
use Rattle.std.specs.Vec.Iter.{into_iter_items, into_iter_len}
use Rattle.rank_run.specs.declared.waiting.TheConstants.{PATIENCE}
use Rattle.rank_run.specs.Jobs.{AllSent}
use Rattle.rank_run.proofs.run.fn.run_jobs.scope.Given as goal

abbrev pub invariant-loop-job : goal.invariant-loop-job
invariant-loop-job g l = record {
  whole : l.yielded ++ into_iter_items l.job-iterator ≡ into_iter_items l.initial.job-iterator;
  sent : AllSent PATIENCE l.yielded l.sent.items;
  count : vec_len l.sent ≡ length l.yielded;
  fit : into_iter_len l.initial.job-iterator ≤ vec_capacity l.sent;
}
