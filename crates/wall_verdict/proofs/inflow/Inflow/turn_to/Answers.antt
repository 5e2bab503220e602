use Rattle.std.proofs.Common.{sym, ◌∙◌}
use Rattle.wall_verdict.proofs.InflowLemmas.{inflow_whole, inflow_serves, slots_whole, slots_serve}
use Rattle.wall_verdict.proofs.inflow.Inflow.turn_to.Goals as goal

pub returns-then-is_neighbourly-clause-whole : goal.returns-then-is_neighbourly-clause-whole
returns-then-is_neighbourly-clause-whole c =
    let classes = c.args.case.now.histories.now.classes in
    let roll = c.args.case.now.roll.now in
    let near = sym c.is_neighbourly.ensures ∙ c.if-is_neighbourly.true in
    slots_whole classes roll c.args.to c.take_slots.new.self
    c.args.case.now.fit near c.take_slots.ensures

pub returns-then-is_neighbourly-clause-serves : goal.returns-then-is_neighbourly-clause-serves
returns-then-is_neighbourly-clause-serves c =
    let classes = c.args.case.now.histories.now.classes in
    let roll = c.args.case.now.roll.now in
    let near = sym c.is_neighbourly.ensures ∙ c.if-is_neighbourly.true in
    slots_serve classes roll c.take_slots.new.self near

pub returns : goal.returns
returns c =
    let classes = c.args.case.now.histories.now.classes in
    let roll = c.args.case.now.roll.now in
    let ends = c.grow.ensures.ranks ∙ c.end_of-end.ensures in
    record {
      whole = inflow_whole classes roll c.args.to c.grow.new.self
          c.requires.to ends c.grow.ensures.inflow;
      serves = inflow_serves classes roll c.args.to c.grow.new.self
          c.args.case.now.fit c.requires.to ends c.grow.ensures.inflow;
    }
