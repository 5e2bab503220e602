use Rattle.std.proofs.Common.{◌∙◌, ◌++◌, ◌∷◌, [], ap, sym, arith, append_assoc}
use Rattle.std.proofs.lemmas.List.{length_push}
use Rattle.std.specs.Vec.Iter.{into_iter_items}
use Rattle.live_session.specs.Sessions.{Stood}
use Rattle.live_session.proofs.ServedLemmas.{more_served}
use Rattle.live_session.proofs.run.end_all.Goals as goal

pub loop-handle-preserved : goal.loop-handle-preserved
loop-handle-preserved g c =
    let i = c.loop-handle.invariant in
    let h = c.in-Some.handle in
    let done = c.loop-handle.yielded in
    let push = c.push_reserved.ensures in
    let long = length_push done h in
    let count = i.count in
    record {
      whole = append_assoc done (h ∷ []) (into_iter_items c.next.new.self)
          ∙ ap (λ l. done ++ l) (sym c.in-Some.ensures.steps.0) ∙ i.whole;
      served = more_served (Stood g.M.Machine.stands g.M.Machine.booked)
          g.S.Desk.failures g.S.Desk.remaining g.S.Desk.heard g.O.Sink.failures
          g.O.Sink.contents done h c.loop-handle.ended.items c.push_reserved.new.self.items
          c.join.result i.served c.join.ensures push.items;
      count = omega (arith, push.len);
      fit = omega (arith, push.capacity, i.fit);
    }
