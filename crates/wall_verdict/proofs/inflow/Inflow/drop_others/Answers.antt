use Rattle.std.proofs.Common.{◌∙◌, arith}
use Rattle.wall_verdict.proofs.InflowLemmas.{inflow_starts}
use Rattle.wall_verdict.proofs.SpanLemmas.{start_within, end_within}
use Rattle.wall_verdict.proofs.inflow.Inflow.drop_others.Goals as goal

pub returns-clause-inflow : goal.returns-clause-inflow
returns-clause-inflow c =
    let roll = c.args.case.now.roll.now in
    let sig = roll.sig in
    let size = roll.shape.size in
    inflow_starts c.args.case.now.histories.now.classes roll c.args.to c.before-2.result
    (omega (arith, start_within sig size c.args.to, end_within sig size c.args.to c.requires.to))
    (c.before-2.ensures.ranks ∙ c.start_of-start.ensures) c.before-2.ensures.number
    c.before-2.ensures.different c.before-2.ensures.datasets
