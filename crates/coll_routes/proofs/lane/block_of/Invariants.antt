use Rattle.std.proofs.Common.{◌≡◌, ◌≤◌, sum, take}
use Rattle.coll_routes.proofs.lane.block_of.Given as goal

abbrev pub invariant-loop-k : goal.invariant-loop-k
invariant-loop-k l = record { before : l.k ≤ l.b; start_is : l.start ≡ sum (take l.k l.sizes) }
