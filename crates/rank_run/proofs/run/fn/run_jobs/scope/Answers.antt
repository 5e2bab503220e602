use Rattle.std.proofs.Common.{◌∙◌, ◌++◌, ◌∷◌, [], ap, sym, subst, arith, append_assoc}
use Rattle.std.proofs.lemmas.List.{length_push}
use Rattle.std.specs.Vec.Iter.{into_iter_items}
use Rattle.rank_run.specs.declared.rank.Playing.{Playing}
use Rattle.rank_run.specs.declared.rank.Sent.TheVariants.{Away, Home}
use Rattle.rank_run.specs.Jobs.{HasPlayed}
use Rattle.rank_run.specs.declared.waiting.TheConstants.{PATIENCE}
use Rattle.rank_run.proofs.RunLemmas.{one_sent, all_done}
use Rattle.rank_run.proofs.run.fn.run_jobs.scope.Goals as goal

pub loop-job-preserved-then-is_some : goal.loop-job-preserved-then-is_some
loop-job-preserved-then-is_some g c =
    let i = c.loop-job.invariant in
    let job = c.in-Some.job in
    let done = c.loop-job.yielded in
    let push = c.push_reserved.ensures in
    let long = length_push done job in
    let count = i.count in
    record {
      whole = append_assoc done (job ∷ []) (into_iter_items c.next.new.self)
          ∙ ap (λ l. done ++ l) (sym c.in-Some.ensures.steps.0) ∙ i.whole;
      sent = one_sent PATIENCE done c.loop-job.sent.items c.push_reserved.new.self.items job
          (Home c.play.result) i.sent c.play.ensures push.items;
      count = omega (arith, push.len);
      fit = omega (arith, push.capacity, i.fit);
    }

pub loop-job-preserved-in-Ok : goal.loop-job-preserved-in-Ok
loop-job-preserved-in-Ok g c =
    let i = c.loop-job.invariant in
    let job = c.in-Some.job in
    let done = c.loop-job.yielded in
    let push = c.push_reserved-in-Ok.ensures in
    let long = length_push done job in
    let count = i.count in
    record {
      whole = append_assoc done (job ∷ []) (into_iter_items c.next.new.self)
          ∙ ap (λ l. done ++ l) (sym c.in-Some.ensures.steps.0) ∙ i.whole;
      sent = one_sent PATIENCE done c.loop-job.sent.items c.push_reserved-in-Ok.new.self.items job
          (Away c.in-Ok.handle) i.sent
          (ap (λ (p : Playing). p.0.value) c.in-Ok.ensures.ok ∙ c.of.ensures) push.items;
      count = omega (arith, push.len);
      fit = omega (arith, push.capacity, i.fit);
    }

pub loop-job-preserved : goal.loop-job-preserved
loop-job-preserved g c =
    let i = c.loop-job.invariant in
    let job = c.in-Some.job in
    let done = c.loop-job.yielded in
    let push = c.push_reserved-in-Err.ensures in
    let long = length_push done job in
    let count = i.count in
    record {
      whole = append_assoc done (job ∷ []) (into_iter_items c.next.new.self)
          ∙ ap (λ l. done ++ l) (sym c.in-Some.ensures.steps.0) ∙ i.whole;
      sent = one_sent PATIENCE done c.loop-job.sent.items c.push_reserved-in-Err.new.self.items job
          (Home c.spawn_with-in-Err.result) i.sent
          (subst (λ j. HasPlayed PATIENCE j c.spawn_with-in-Err.result)
          (ap (λ f. f.4) c.in-Err.ensures.err) c.spawn_with-in-Err.ensures) push.items;
      count = omega (arith, push.len);
      fit = omega (arith, push.capacity, i.fit);
    }

pub returns : goal.returns
returns g c =
    let i = c.loop-job.invariant in
    all_done PATIENCE c.captures.jobs.items c.loop-job.yielded
    (into_iter_items c.loop-job.job-iterator) c.loop-job.sent.items c.join_all-played.result.items
    (i.whole ∙ c.into_iter-job-iterator.ensures.into_iter_gives.0)
    (let o = c.loop-job.job-iterator.rest.ok in let none = c.in-None.ensures.steps.0 in omega arith)
    i.sent c.join_all-played.ensures
