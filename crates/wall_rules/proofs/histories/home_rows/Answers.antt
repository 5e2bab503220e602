use Rattle.std.proofs.Common.{arith}
use Rattle.wall_rules.proofs.HistoryLemmas.{has_in-at_home}
use Rattle.wall_rules.proofs.histories.home_rows.Goals as goal

pub returns-clause-pairs : goal.returns-clause-pairs
returns-clause-pairs c =
    has_in-at_home c.args.policy.now c.loop-number.rows.items c.requires
    (omega (arith, c.loop-number.invariant.rows)) (
    λ p d lt. c.loop-number.invariant.pairs p d (omega arith)
    )
