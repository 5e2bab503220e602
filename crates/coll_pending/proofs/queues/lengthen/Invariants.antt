use Rattle.std.proofs.Common.{◌≡◌, ◌≤◌, ◌-◌, ◌+◌, ℕ, length}
use Rattle.coll_pending.specs.Queues.{queue_at}
use Rattle.coll_pending.proofs.queues.lengthen.Given as goal

abbrev pub invariant-loop-by_comm : goal.invariant-loop-by_comm
invariant-loop-by_comm l = record {
  same : (c : ℕ) → queue_at l.by_comm.items c ≡ queue_at l.initial.by_comm.items c;
  longer : length l.initial.by_comm.items ≤ length l.by_comm.items;
}

abbrev pub decreases-loop-by_comm : goal.decreases-loop-by_comm
decreases-loop-by_comm l = l.comm + 1 - length l.by_comm.items
