use Rattle.std.proofs.Common.{◌≡◌, ◌++◌, ◌≤◌, length, vec_len, vec_capacity}
use Rattle.std.specs.Vec.Iter.{into_iter_items}
use Rattle.live_session.specs.Joining.{passes_in, ends_of, ends_in}
use Rattle.live_session.proofs.run.sort_out.Given as goal

abbrev pub invariant-loop-played : goal.invariant-loop-played
invariant-loop-played g l = record {
  done : l.yielded ++ into_iter_items l.played-iterator ≡ l.fn.all.items;
  passes : l.passes.items ≡ passes_in l.yielded;
  sessions : ends_of l.sessions.items ≡ ends_in l.yielded;
  count : vec_len l.sessions ≡ length l.yielded;
  passes_fit : vec_len l.fn.all ≤ vec_capacity l.passes;
  sessions_fit : vec_len l.fn.all ≤ vec_capacity l.sessions;
}
