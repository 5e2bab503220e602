use Rattle.wall_verdict.proofs.InflowLemmas.{nothing_serves}
use Rattle.wall_verdict.proofs.collected.Collected.nothing.Goals as goal

pub returns : goal.returns
returns c classes roll = record {
  serves = nothing_serves classes roll c.before-2.result c.before-2.ensures.ranks
      c.before-2.ensures.number c.before-2.ensures.different c.before-2.ensures.datasets;
  labels = tt;
}
