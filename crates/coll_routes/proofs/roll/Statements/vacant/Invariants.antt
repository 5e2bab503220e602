use Rattle.std.proofs.Common.{◌≡◌, replicate, None}
use Rattle.coll_routes.proofs.roll.Statements.vacant.Given as goal

abbrev pub invariant-loop : goal.invariant-loop
invariant-loop l = l.items.items ≡ replicate l.counter None
