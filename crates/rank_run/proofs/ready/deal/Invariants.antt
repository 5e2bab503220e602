use Rattle.std.proofs.Common.{◌≡◌, ◌++◌, ◌+◌, ◌≤◌, length, vec_len, vec_capacity}
use Rattle.std.specs.Vec.Iter.{into_iter_items}
use Rattle.rank_run.specs.Jobs.{HaveRoom, AreRoomy, passes_of, scripts_of, scripts_shared}
use Rattle.rank_run.proofs.ready.deal.Given as goal

abbrev pub invariant-loop-share : goal.invariant-loop-share
invariant-loop-share l = record {
  rest : AreRoomy (into_iter_items l.share-iterator);
  passes : passes_of l.jobs.items ++ into_iter_items l.passes ≡ l.fn.passes.items;
  scripts : scripts_of l.jobs.items ++ scripts_shared (into_iter_items l.share-iterator)
      ≡ scripts_shared l.fn.shares.items;
  room : HaveRoom l.jobs.items;
  left : length (into_iter_items l.passes) ≡ length (into_iter_items l.share-iterator);
  count : vec_len l.jobs + length (into_iter_items l.share-iterator) ≡ vec_len l.fn.shares;
  fits : vec_len l.jobs + length (into_iter_items l.share-iterator) ≤ vec_capacity l.jobs;
}
