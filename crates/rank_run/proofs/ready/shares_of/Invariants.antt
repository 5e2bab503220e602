use Rattle.std.proofs.Common.{◌≡◌, ◌++◌, ◌≤◌, length, vec_len, vec_capacity}
use Rattle.std.specs.Vec.Iter.{into_iter_items}
use Rattle.rank_run.specs.Jobs.{AreRoomy, scripts_shared}
use Rattle.rank_run.proofs.ready.shares_of.Given as goal

abbrev pub invariant-loop-acts : goal.invariant-loop-acts
invariant-loop-acts l = record {
  whole : l.yielded ++ into_iter_items l.acts-iterator ≡ l.fn.scripts.items;
  scripts : scripts_shared l.shares.items ≡ l.yielded;
  room : AreRoomy l.shares.items;
  count : vec_len l.shares ≡ length l.yielded;
  fits : vec_len l.fn.scripts ≤ vec_capacity l.shares;
}
