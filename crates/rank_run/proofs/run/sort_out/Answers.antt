use Rattle.std.proofs.Common.{◌∙◌, ◌++◌, ◌∷◌, [], ap, sym, arith, List, append_assoc}
use Rattle.std.specs.Global.{Vec}
use Rattle.std.proofs.lemmas.List.{map-append}
use Rattle.std.specs.Vec.Iter.{into_iter_items}
use Rattle.run_model.specs.declared.reply.Reply.{Reply}
use Rattle.hall_turn.specs.Known.{Known}
use Rattle.rank_run.specs.declared.rank.Played.{Played}
use Rattle.rank_run.proofs.run.sort_out.Goals as goal

pub loop-one-preserved : goal.loop-one-preserved
loop-one-preserved c =
    let i = c.loop-one.invariant in
    let played = c.in-Some.one in
    let done = c.loop-one.yielded in
    let one = c.push_reserved.ensures in
    let two = c.push_reserved-in-loop-one.ensures in
    record {
      done = append_assoc done (played ∷ []) (into_iter_items c.next.new.self)
          ∙ ap (λ l. done ++ l) (sym c.in-Some.ensures.steps.0) ∙ i.done;
      passes = one.items ∙ ap (λ (l : List Known). l ++ played.pass ∷ []) i.passes
          ∙ sym (map-append (λ (p : Played). p.pass) done (played ∷ []));
      replies = two.items ∙ ap (λ (l : List (Vec Reply)). l ++ played.replies ∷ []) i.replies
          ∙ sym (map-append (λ (p : Played). p.replies) done (played ∷ []));
      passes_fit = omega (arith, one.capacity, i.passes_fit);
      replies_fit = omega (arith, two.capacity, i.replies_fit);
    }
