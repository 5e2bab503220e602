use Rattle.std.proofs.Common.{◌≡◌, ◌+◌, ◌≤◌, length, vec_len, vec_capacity}
use Rattle.std.specs.List.{All}
use Rattle.std.specs.Vec.Iter.{into_iter_items}
use Rattle.joint_sum.proofs.threads.fn.play_all.scope.Given as goal

abbrev pub invariant-loop-pass : goal.invariant-loop-pass
invariant-loop-pass g l = record {
  rest : All (λ pass. pass.door ≡ l.door) (into_iter_items l.pass-iterator);
  handles : All (λ handle. handle.promise.0.value.door ≡ l.door) l.handles.items;
  fit : vec_len l.handles + length (into_iter_items l.pass-iterator) ≤ vec_capacity l.handles;
  back_fits : vec_len l.handles + length (into_iter_items l.pass-iterator)
      ≤ vec_capacity l.back.passes;
  told_fits : vec_len l.handles + length (into_iter_items l.pass-iterator)
      ≤ vec_capacity l.back.told;
}
