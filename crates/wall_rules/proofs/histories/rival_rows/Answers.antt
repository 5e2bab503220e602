use Rattle.std.proofs.Common.{arith}
use Rattle.wall_rules.proofs.RivalRowLemmas.{rows_whole}
use Rattle.wall_rules.proofs.histories.rival_rows.Goals as goal

pub returns : goal.returns
returns c =
    rows_whole c.args.classes.now c.loop-number.rows.items
    (omega (arith, c.loop-number.invariant.rows)) (
    λ d e lt. c.loop-number.invariant.rivals d e (omega arith)
    )
