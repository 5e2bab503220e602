use Rattle.std.proofs.Common.{◌≡◌, ◌++◌, ◌≤◌, length, vec_len, vec_capacity}
use Rattle.std.specs.Vec.Iter.{into_iter_items}
use Rattle.live_session.specs.Joining.{AllServed, handed}
use Rattle.live_session.specs.Sessions.{Stood}
use Rattle.live_session.proofs.run.end_all.Given as goal

abbrev pub invariant-loop-handle : goal.invariant-loop-handle
invariant-loop-handle g l = record {
  whole : l.yielded ++ into_iter_items l.handle-iterator ≡ l.fn.handles.items;
  served : AllServed (Stood g.M.Machine.stands g.M.Machine.booked)
      g.S.Desk.failures g.S.Desk.remaining g.S.Desk.heard g.O.Sink.failures
      g.O.Sink.contents
      (handed l.yielded) l.ended.items;
  count : vec_len l.ended ≡ length l.yielded;
  fit : vec_len l.fn.handles ≤ vec_capacity l.ended;
}
