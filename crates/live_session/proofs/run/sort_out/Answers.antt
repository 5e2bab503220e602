use Rattle.std.proofs.Common.{◌∙◌, ◌++◌, ◌∷◌, [], refl, ap, sym, arith, append_assoc}
use Rattle.std.proofs.lemmas.List.{length_push}
use Rattle.std.specs.Vec.Iter.{into_iter_items}
use Rattle.live_session.specs.Joining.{ends_in}
use Rattle.live_session.proofs.ServedLemmas.{all_yielded, one_pass_more, one_end_more}
use Rattle.live_session.proofs.run.sort_out.Goals as goal

pub loop-played-preserved : goal.loop-played-preserved
loop-played-preserved g c =
    let i = c.loop-played.invariant in
    let played = c.in-Some.played in
    let done = c.loop-played.yielded in
    let one = c.push_reserved.ensures in
    let two = c.push_reserved-in-Some-ended.ensures in
    let long = length_push done played in
    let count = i.count in
    record {
      done = append_assoc done (played ∷ []) (into_iter_items c.next.new.self)
          ∙ ap (λ l. done ++ l) (sym c.in-Some.ensures.steps.0) ∙ i.done;
      passes = one_pass_more done played c.loop-played.passes.items
          c.push_reserved.new.self.items i.passes one.items;
      sessions = one_end_more done played c.loop-played.sessions.items
          c.push_reserved-in-Some-ended.new.self.items
          (record { peer = played.peer; closing = c.in-Some-ended.closing }) i.sessions two.items refl
          c.in-Some-ended.is;
      count = omega (arith, two.len);
      passes_fit = omega (arith, one.capacity, i.passes_fit);
      sessions_fit = omega (arith, two.capacity, i.sessions_fit);
    }

pub returns-clause-sessions : goal.returns-clause-sessions
returns-clause-sessions g c =
    let i = c.loop-played.invariant in
    let o = c.loop-played.played-iterator.rest.ok in
    let none = c.in-None.ensures.steps.0 in
    i.sessions ∙ ap ends_in (all_yielded c.loop-played.yielded
    (into_iter_items c.loop-played.played-iterator) c.args.all.items i.done (omega arith))
