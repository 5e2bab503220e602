use Rattle.std.proofs.Common.{◌∙◌}
use Rattle.wall_labels.proofs.KnownLemmas.{wrote_more}
use Rattle.wall_labels.proofs.device.write_all.Goals as goal

pub loop-rest-preserved : goal.loop-rest-preserved
loop-rest-preserved g c = record {
  count = c.in_ok-n.ensures.went ∙ c.loop-rest.invariant.count;
  wrote = wrote_more _ _ _ c.args.bytes.now c.loop-rest.rest.now c.split_at.result.1.now c.in_ok-n.n
      c.loop-rest.invariant.wrote c.in_ok-n.ensures.bytes c.split_at.ensures.back;
}
