use Rattle.std.proofs.Common.{◌<◌, length, arith, ◌∙◌}
use Rattle.wall_rules.specs.Histories.{entered, has}
use Rattle.wall_rules.proofs.HistoryLemmas.{has_in-set, keeps_wall-set}
use Rattle.wall_rules.proofs.histories.Histories.enter.Goals as goal

pub invariant_of-self : goal.invariant_of-self
invariant_of-self c = (
  keeps_wall-set _ c.args.self.now c.args.process c.number.result c.index_mut-row.result.now
      c.union_with.new.self c.args.set.now
      c.self.view_is c.number.ensures.value c.self.invariant.0 (omega arith)
      c.index_mut-row.ensures.value c.union_with.ensures c.requires,
  c.self.invariant.1,
)

pub returns-clause-pairs : goal.returns-clause-pairs
returns-clause-pairs c =
    let within : c.number.result < length c.self.inside.rows.items = omega
    (arith, c.self.invariant.0.set_for_each) in
    has_in-set c.self.inside.rows.items c.number.result c.index_mut-row.result.now
    c.union_with.new.self c.args.set.now within c.index_mut-row.ensures.value
    c.union_with.ensures
    ∙ (λ i. entered (has (c.self.view_is i)) (c.number.ensures.value i) c.args.set.now)
