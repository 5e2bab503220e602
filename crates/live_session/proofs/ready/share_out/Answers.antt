use Rattle.std.proofs.Common.{◌≡◌, ◌∙◌, ◌++◌, ◌∷◌, [], ap, sym, arith, append_assoc, refl, subst}
use Rattle.std.proofs.lemmas.List.Elements.{All-push}
use Rattle.std.specs.List.{All}
use Rattle.std.proofs.lemmas.List.{length_push}
use Rattle.std.specs.Vec.Iter.{into_iter_items}
use Rattle.live_session.specs.Joining.{passes_of, peers_of}
use Rattle.live_session.proofs.ServedLemmas.{shared_passes, shared_peers}
use Rattle.live_session.proofs.ready.share_out.Goals as goal

pub loop-peer-preserved : goal.loop-peer-preserved
loop-peer-preserved g c =
    let i = c.loop-peer.invariant in
    let peer = c.in-Some.peer in
    let pass = c.in-Some-next.pass in
    let done = c.loop-peer.yielded in
    let jobs = c.loop-peer.jobs.items in
    let push = c.push_reserved.ensures in
    let long = length_push done peer in
    let count = i.count in
    record {
      whole = append_assoc done (peer ∷ []) (into_iter_items c.next.new.self)
          ∙ ap (λ l. done ++ l) (sym c.in-Some.ensures.steps.0) ∙ i.whole;
      passes = ap (λ l. passes_of l ++ into_iter_items c.next-in-loop-peer.new.self) push.items
          ∙ shared_passes jobs (record { pass = pass; peer = peer; most = c.args.most })
          (into_iter_items c.next-in-loop-peer.new.self)
          ∙ ap (λ l. passes_of jobs ++ l) (sym c.in-Some-next.ensures.items) ∙ i.passes;
      peers = ap peers_of push.items ∙ shared_peers jobs (record { pass = pass; peer = peer; most = c.args.most })
          ∙ ap (λ l. l ++ peer ∷ []) i.peers;
      bounds = subst (All (λ job. job.most ≡ c.args.most)) (sym push.items)
          (All-push (λ job. job.most ≡ c.args.most) jobs
          (record { pass = pass; peer = peer; most = c.args.most }) i.bounds refl);
      count = omega (arith, push.len);
      fits = omega (arith, push.capacity, i.fits);
    }
