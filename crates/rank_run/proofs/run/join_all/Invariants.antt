use Rattle.std.proofs.Common.{◌≡◌, ◌++◌, ◌≤◌, length, vec_len, vec_capacity}
use Rattle.std.specs.Vec.Iter.{into_iter_items}
use Rattle.rank_run.specs.declared.waiting.TheConstants.{PATIENCE}
use Rattle.rank_run.specs.Jobs.{AllCameBack}
use Rattle.rank_run.proofs.run.join_all.Given as goal

abbrev pub invariant-loop-one : goal.invariant-loop-one
invariant-loop-one g l = record {
  whole : l.yielded ++ into_iter_items l.one-iterator ≡ l.fn.sent.items;
  back : AllCameBack PATIENCE l.yielded l.ended.items;
  count : vec_len l.ended ≡ length l.yielded;
  fit : vec_len l.fn.sent ≤ vec_capacity l.ended;
}
