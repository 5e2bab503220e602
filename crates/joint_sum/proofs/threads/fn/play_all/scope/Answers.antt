use Rattle.std.proofs.Common.{◌≡◌, ◌∙◌, arith, ap, sym, length}
use Rattle.std.proofs.lemmas.List.Elements.{All-head, All-push, All-rest, All-same}
use Rattle.std.specs.Vec.Iter.{into_iter_items}
use Rattle.std.specs.declared.thread.PromisedHandle.{PromisedHandle}
use Rattle.hall_turn.specs.Known.{Known}
use Rattle.joint_sum.specs.declared.firm.Firm.{Firm}
use Rattle.joint_sum.specs.declared.threads.Playing.{Playing}
use Rattle.joint_sum.proofs.threads.fn.play_all.scope.Goals as goal

pub loop-pass-preserved : goal.loop-pass-preserved
loop-pass-preserved g c =
    let i = c.loop-pass.invariant in
    let pass = c.in-Some.pass in
    let rest = into_iter_items c.next.new.self in
    let split = c.in-Some.ensures.steps.0 in
    let push = c.push_reserved.ensures in
    let Its = λ (p : Known). p.door ≡ c.captures.door.now in
    let Back = λ (h : PromisedHandle Firm Playing). h.promise.0.value.door ≡ c.captures.door.now in
    let promised = ap (λ (p : Playing). p.0.value.door) c.in-Ok.ensures.ok
    ∙ ap (λ (p : Known). p.door) c.of.ensures in
    record {
      rest = All-rest Its pass rest _ split i.rest;
      handles = rw push.items (All-push Back _ _ i.handles
          (promised ∙ All-head Its pass rest (All-same Its _ _ (sym split) i.rest)));
      fit = omega (arith, push.len, push.capacity, i.fit, ap length split);
      back_fits = omega (arith, push.len, i.back_fits, ap length split);
      told_fits = omega (arith, push.len, i.told_fits, ap length split);
    }
