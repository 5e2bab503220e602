use Rattle.std.proofs.Common.{◌∙◌, ◌++◌, ◌∷◌, [], ap, sym, subst, arith, List, append_assoc}
use Rattle.std.proofs.Common.{length}
use Rattle.std.proofs.lemmas.List.Elements.{All-head, All-rest, All-same}
use Rattle.std.specs.Vec.Iter.{into_iter_items}
use Rattle.run_model.specs.declared.call.Act.{Act}
use Rattle.rank_run.specs.declared.rank.Job.{Job}
use Rattle.rank_run.specs.declared.ready.Share.{Share}
use Rattle.rank_run.specs.Jobs.{HaveRoom, IsRoomy, passes_of, scripts_of, scripts_shared}
use Rattle.rank_run.proofs.RunLemmas.{shared_passes, shared_scripts, shared_room}
use Rattle.rank_run.proofs.ready.deal.Goals as goal

pub loop-share-preserved : goal.loop-share-preserved
loop-share-preserved c =
    let i = c.loop-share.invariant in
    let share = c.in-Some.share in
    let jobs = c.loop-share.jobs.items in
    let push = c.push_reserved.ensures in
    let left = into_iter_items c.next.new.self in
    let split = c.in-Some.ensures.steps.0 in
    let taken = c.in-Some-next.ensures.items in
    let job : Job = record {
      pass = c.in-Some-next.pass;
      script = share.script;
      replies = share.replies;
      requests = share.requests;
    } in
    let its = All-head IsRoomy share left (All-same IsRoomy _ _ (sym split) i.rest) in
    record {
      rest = All-rest IsRoomy share left _ split i.rest;
      passes = ap (λ (l : List Job). passes_of l ++ into_iter_items c.next-in-loop-share.new.self)
          push.items
          ∙ shared_passes jobs job (into_iter_items c.next-in-loop-share.new.self)
          ∙ ap (λ l. passes_of jobs ++ l) (sym taken) ∙ i.passes;
      scripts = ap (λ (l : List Job). scripts_of l ++ scripts_shared left) push.items
          ∙ ap (λ (l : List (List Act)). l ++ scripts_shared left) (shared_scripts jobs job)
          ∙ append_assoc (scripts_of jobs) (share.script.items ∷ []) (scripts_shared left)
          ∙ ap (λ (l : List Share). scripts_of jobs ++ scripts_shared l) (sym split) ∙ i.scripts;
      room = subst HaveRoom (sym push.items) (shared_room jobs job i.room its.0 its.1);
      left = omega (arith, i.left, ap length split, ap length taken);
      count = omega (arith, push.len, i.count, ap length split);
      fits = omega (arith, push.len, push.capacity, i.fits, ap length split);
    }
