use Rattle.std.proofs.Common.{◌≡◌, ◌∙◌, arith, ap, sym, length}
use Rattle.std.proofs.lemmas.List.Elements.{All-head, All-push, All-rest, All-same}
use Rattle.std.specs.Vec.Iter.{into_iter_items}
use Rattle.std.specs.declared.thread.PromisedHandle.{PromisedHandle}
use Rattle.joint_sum.specs.declared.firm.Firm.{Firm}
use Rattle.joint_sum.specs.declared.threads.Playing.{Playing}
use Rattle.hall_turn.specs.Known.{Known}
use Rattle.joint_sum.proofs.threads.sort_out.Goals as goal

pub loop-handle-preserved : goal.loop-handle-preserved
loop-handle-preserved g c =
    let i = c.loop-handle.invariant in
    let handle = c.in-Some.handle in
    let rest = into_iter_items c.next.new.self in
    let split = c.in-Some.ensures.steps.0 in
    let one = c.push_reserved.ensures in
    let two = c.push_reserved-in-loop-handle.ensures in
    let Back = λ (h : PromisedHandle Firm Playing). h.promise.0.value.door ≡ c.args.door.now in
    record {
      rest = All-rest Back handle rest _ split i.rest;
      passes = rw one.items (All-push (λ (p : Known). p.door ≡ c.args.door.now) _ _ i.passes
          (c.join-firm.ensures ∙ All-head Back handle rest (All-same Back _ _ (sym split) i.rest)));
      passes_fit = omega (arith, one.len, one.capacity, i.passes_fit, ap length split);
      told_fit = omega (arith, two.len, two.capacity, i.told_fit, ap length split);
    }
