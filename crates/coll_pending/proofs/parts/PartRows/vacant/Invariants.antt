use Rattle.std.proofs.Common.{◌≡◌, replicate, None, vec_len}
use Rattle.coll_pending.proofs.parts.PartRows.vacant.Given as goal

abbrev pub invariant-loop : goal.invariant-loop
invariant-loop g l =
    record { filled : l.rows.items ≡ replicate l.counter None; many : vec_len l.rows ≡ l.counter }
