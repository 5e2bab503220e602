use Rattle.std.proofs.Common.{arith}
use Rattle.wall_rules.proofs.HistoryLemmas.{no_row_past}
use Rattle.wall_rules.proofs.PairLemmas.{rows_whole}
use Rattle.wall_rules.proofs.histories.pairs_of.Goals as goal

pub returns : goal.returns
returns c =
    rows_whole c.args.rows.now c.loop-place.pairs.items c.loop-place.place (
    λ p d past. no_row_past c.args.rows.now p d (omega (arith, past))
    ) c.loop-place.invariant
