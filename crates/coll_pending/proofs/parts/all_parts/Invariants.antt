use Rattle.std.proofs.Common.{◌≡◌, ◌≤◌, map, length, Some, vec_len}
use Rattle.std.specs.Prelude.{vec_capacity}
use Rattle.coll_pending.proofs.parts.all_parts.Given as goal

abbrev pub invariant-loop-row : goal.invariant-loop-row
invariant-loop-row g l =
    record {
      filled : map (λ p. Some p) l.gathered.items ≡ l.yielded;
      many : vec_len l.gathered ≡ length l.yielded;
      roomy : vec_len l.fn.rows ≤ vec_capacity l.gathered;
    }
