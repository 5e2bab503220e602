use Rattle.std.proofs.Common.{◌≡◌, replicate}
use Rattle.coll_pending.proofs.queue.no_arrivals.Given as goal

abbrev pub invariant-loop : goal.invariant-loop
invariant-loop l = l.counts.items ≡ replicate l.counter 0
