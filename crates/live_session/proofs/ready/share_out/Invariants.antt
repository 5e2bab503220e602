use Rattle.std.proofs.Common.{◌≡◌, ◌++◌, ◌≤◌, length, vec_len, vec_capacity}
use Rattle.std.specs.List.{All}
use Rattle.std.specs.Vec.Iter.{into_iter_items}
use Rattle.live_session.specs.Joining.{passes_of, peers_of}
use Rattle.live_session.proofs.ready.share_out.Given as goal

abbrev pub invariant-loop-peer : goal.invariant-loop-peer
invariant-loop-peer g l = record {
  whole : l.yielded ++ into_iter_items l.peer-iterator ≡ l.fn.peers.items;
  passes : passes_of l.jobs.items ++ into_iter_items l.passes ≡ l.fn.passes.items;
  peers : peers_of l.jobs.items ≡ l.yielded;
  bounds : All (λ job. job.most ≡ l.most) l.jobs.items;
  count : vec_len l.jobs ≡ length l.yielded;
  fits : vec_len l.fn.passes ≤ vec_capacity l.jobs;
}
