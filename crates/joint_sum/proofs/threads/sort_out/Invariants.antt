use Rattle.std.proofs.Common.{◌≡◌, ◌+◌, ◌≤◌, length, vec_len, vec_capacity}
use Rattle.std.specs.List.{All}
use Rattle.std.specs.Vec.Iter.{into_iter_items}
use Rattle.joint_sum.proofs.threads.sort_out.Given as goal

abbrev pub invariant-loop-handle : goal.invariant-loop-handle
invariant-loop-handle g l = record {
  rest : All (λ handle. handle.promise.0.value.door ≡ l.door) (into_iter_items l.handle-iterator);
  passes : All (λ pass. pass.door ≡ l.door) l.ended.passes.items;
  passes_fit : vec_len l.ended.passes + length (into_iter_items l.handle-iterator)
      ≤ vec_capacity l.ended.passes;
  told_fit : vec_len l.ended.told + length (into_iter_items l.handle-iterator)
      ≤ vec_capacity l.ended.told;
}
