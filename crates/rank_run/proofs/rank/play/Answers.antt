use Rattle.std.proofs.Common.{◌∙◌, ◌++◌, ◌∷◌, [], ap, sym, subst, arith, List, length, append_assoc}
use Rattle.std.proofs.lemmas.List.{length_push}
use Rattle.std.specs.Vec.Iter.{into_iter_items}
use Rattle.run_model.specs.declared.reply.Reply.{Reply}
use Rattle.wall_policy.specs.Policy.{ChineseWall}
use Rattle.hall_turn.specs.Known.{Doorway}
use Rattle.hall_turn.specs.Answers.{NamesKnown}
use Rattle.rank_run.specs.declared.waiting.TheConstants.{PATIENCE}
use Rattle.rank_run.proofs.PlayLemmas.{come_none, come_more}
use Rattle.rank_run.proofs.rank.play.Goals as goal

pub loop-act-init : goal.loop-act-init
loop-act-init g c =
    let o = c.args.job.replies.ok in
    let none = ap (λ (l : List Reply). length l) c.requires.none in
    record {
      at = c.in-Ok.ensures;
      whole = c.into_iter-act-iterator.ensures.into_iter_gives.0;
      come =
          come_none PATIENCE c.args.job c.args.job.replies.items c.requires.unseen c.requires.none;
      count = omega arith;
      room = c.requires.room;
    }

pub loop-act-preserved : goal.loop-act-preserved
loop-act-preserved g c =
    let i = c.loop-act.invariant in
    let act = c.in-Some.act in
    let done = c.loop-act.yielded in
    let push = c.push_reserved.ensures in
    let p = c.perform in
    let long = length_push done act in
    let count = i.count in
    record {
      at = c.after.ensures ∙ c.before-in-loop-act.ensures ∙ i.at;
      whole = append_assoc done (act ∷ []) (into_iter_items c.next.new.self)
          ∙ ap (λ l. done ++ l) (sym c.in-Some.ensures.steps.0) ∙ i.whole;
      come =
          come_more PATIENCE c.args.job done c.loop-act.replies.items c.push_reserved.new.self.items
          act p.result c.in-Reply.reply c.loop-act.pass p.new.pass i.come
          p.ensures.same p.ensures.performed c.in-Reply.is push.items
          (subst (λ (w : ChineseWall). NamesKnown w p.result)
          (ap (λ (d : Doorway). d.policy)
          (c.before-in-loop-act.ensures ∙ i.at ∙ sym c.requires.door_is)) p.ensures.named);
      count = omega (arith, push.len);
      room = omega (arith, push.capacity, i.room);
    }
