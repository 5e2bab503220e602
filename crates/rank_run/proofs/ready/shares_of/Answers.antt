use Rattle.std.proofs.Common.{◌∙◌, ◌++◌, ◌∷◌, [], ap, sym, subst, arith, List, append_assoc}
use Rattle.std.proofs.lemmas.List.{length_push}
use Rattle.std.specs.Vec.Iter.{into_iter_items}
use Rattle.run_model.specs.declared.call.Act.{Act}
use Rattle.rank_run.specs.declared.ready.Share.{Share}
use Rattle.rank_run.specs.Jobs.{AreRoomy, scripts_shared}
use Rattle.rank_run.proofs.RunLemmas.{shares_scripts, shares_room}
use Rattle.rank_run.proofs.ready.shares_of.Goals as goal

pub loop-acts-preserved : goal.loop-acts-preserved
loop-acts-preserved c =
    let i = c.loop-acts.invariant in
    let acts = c.in-Some.acts in
    let script = c.into_vec-script.result in
    let done = c.loop-acts.yielded in
    let shares = c.loop-acts.shares.items in
    let push = c.push_reserved.ensures in
    let given = c.in_ok-replies.replies in
    let share : Share = record {
      script = script;
      replies = given;
      requests = c.in_ok-requests.requests;
    } in
    let long = length_push done acts in
    let count = i.count in
    let none = c.in_ok-replies.ensures.items in
    let fits = c.in_ok-replies.ensures.capacity in
    let l = c.len-in-loop-acts.ensures in
    record {
      whole = append_assoc done (acts ∷ []) (into_iter_items c.next.new.self)
          ∙ ap (λ l. done ++ l) (sym c.in-Some.ensures.steps.0) ∙ i.whole;
      scripts = ap scripts_shared push.items ∙ shares_scripts shares share
          ∙ ap (λ (l : List (List Act)). l ++ script.items ∷ []) i.scripts
          ∙ ap (λ (a : List Act). done ++ a ∷ []) c.into_vec-script.ensures;
      room = subst AreRoomy (sym push.items)
          (shares_room shares share i.room none (let o = script.ok in omega arith));
      count = omega (arith, push.len);
      fits = omega (arith, push.capacity, i.fits);
    }
