use Rattle.std.proofs.Common.{◌∙◌, ◌++◌, ◌∷◌, [], ap, sym, arith, List, length, append_assoc}
use Rattle.std.proofs.lemmas.List.{length_push}
use Rattle.std.specs.Vec.Iter.{into_iter_items}
use Rattle.rank_run.specs.declared.rank.Played.{Played}
use Rattle.rank_run.specs.declared.waiting.TheConstants.{PATIENCE}
use Rattle.rank_run.proofs.RunLemmas.{none_back, one_back}
use Rattle.rank_run.proofs.run.join_all.Goals as goal

pub loop-one-init : goal.loop-one-init
loop-one-init g c =
    let o = c.args.ended.ok in
    let a = ap (λ (l : List Played). length l) c.requires.0 in
    record {
      whole = c.into_iter-one-iterator.ensures.into_iter_gives.0;
      back = none_back PATIENCE c.args.ended.items c.requires.0;
      count = omega arith;
      fit = c.requires.1;
    }

pub loop-one-preserved : goal.loop-one-preserved
loop-one-preserved g c =
    let i = c.loop-one.invariant in
    let one = c.in-Some.one in
    let done = c.loop-one.yielded in
    let push = c.push_reserved.ensures in
    let long = length_push done one in
    let count = i.count in
    record {
      whole = append_assoc done (one ∷ []) (into_iter_items c.next.new.self)
          ∙ ap (λ l. done ++ l) (sym c.in-Some.ensures.steps.0) ∙ i.whole;
      back = one_back PATIENCE done c.loop-one.ended.items c.push_reserved.new.self.items one
          c.back.result i.back c.back.ensures push.items;
      count = omega (arith, push.len);
      fit = omega (arith, push.capacity, i.fit);
    }
