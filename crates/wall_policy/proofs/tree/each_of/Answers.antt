use Rattle.std.proofs.Common.{rules, sym, ap, ◌∙◌}
use Rattle.toml.specs.View.{view}
use Rattle.toml.specs.declared.value.Value.{Value}
use Rattle.wall_policy.proofs.Each.{goes_on, misses_all}
use Rattle.wall_policy.proofs.tree.each_of.Goals as goal

pub loop-value-preserved : goal.loop-value-preserved
loop-value-preserved g c =
    rw c.in_ok-push.ensures.items
    (goes_on (g.T.Item.said c.args.version) c.loop-value.list.items c.in_ok-read.read
    c.args.values.now c.loop-value.value-index c.value-item.result _ c.loop-value-test.true
    (ap (λ (d : Value). g.T.Item.said c.args.version (view d)) (sym c.value-item.is)
    ∙ c.in_ok-read.ensures) c.loop-value.invariant)

pub returns-in_err-read : goal.returns-in_err-read
returns-in_err-read g c =
    let missed = misses_all c.in_err-read.field-0.0 (g.T.Item.said c.args.version)
    c.loop-value.list.items c.args.values.now c.loop-value.value-index c.value-item.result _
    c.loop-value-test.true c.value-item.is c.in_err-read.ensures c.loop-value.invariant in
    search (rules, missed)
