use Rattle.std.proofs.Common.{◌≡◌, ◌++◌, ◌≤◌, vec_len, vec_capacity}
use Rattle.std.specs.Vec.Iter.{into_iter_items}
use Rattle.rank_run.specs.Jobs.{passes_in, replies_in}
use Rattle.rank_run.proofs.run.sort_out.Given as goal

abbrev pub invariant-loop-one : goal.invariant-loop-one
invariant-loop-one l = record {
  done : l.yielded ++ into_iter_items l.one-iterator ≡ l.fn.back.played.items;
  passes : l.passes.items ≡ passes_in l.yielded;
  replies : l.replies.items ≡ replies_in l.yielded;
  passes_fit : vec_len l.fn.back.played ≤ vec_capacity l.passes;
  replies_fit : vec_len l.fn.back.played ≤ vec_capacity l.replies;
}
