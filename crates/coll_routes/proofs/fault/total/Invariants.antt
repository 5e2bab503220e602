use Rattle.std.proofs.Common.{◌≡◌, ◌≤◌, ◌*◌, ◌^◌, sum, take}
use Rattle.coll_routes.proofs.fault.total.Given as goal

abbrev pub invariant-loop-count : goal.invariant-loop-count
invariant-loop-count l = record {
  total_is : l.total ≡ sum (take l.count-index l.counts);
  small : l.total ≤ 2 ^ 32 * l.count-index;
}
