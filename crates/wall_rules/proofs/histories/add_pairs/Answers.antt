use Rattle.std.proofs.Common.{◌<◌, ◌∙◌, length, arith}
use Rattle.std.proofs.lemmas.List.{length-set}
use Rattle.wall_rules.proofs.PairLemmas.{joined_more}
use Rattle.wall_rules.proofs.histories.add_pairs.Goals as goal

pub loop-process-preserved : goal.loop-process-preserved
loop-process-preserved c =
    let pair = c.loop-process-item.result in
    let within : c.number.result < length c.loop-process.rows.items =
    omega (arith, c.loop-process.invariant.rows) in
    record {
      rows = length-set c.loop-process.rows.items c.number.result c.insert.new.self
          ∙ c.loop-process.invariant.rows;
      joined = joined_more c.args.pairs.now c.args.rows.now.items c.loop-process.rows.items
          c.loop-process.process-index c.number.result pair.0 pair.1
          c.index_mut-row.result.now c.insert.new.self
          (omega arith) c.loop-process-item.is c.number.ensures.value within
          c.index_mut-row.ensures.value c.insert.ensures c.loop-process.invariant.joined;
    }
