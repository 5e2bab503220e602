use Rattle.std.proofs.Common.{◌≡◌, not, map, get_or, sym, ap, ◌∙◌}
use Rattle.wall_policy.specs.Numbering.{repeats_after}
use Rattle.wall_policy.specs.Plain.{ClassText}
use Rattle.wall_policy.proofs.RepeatLemmas.{stops, goes_on, goes_through, turned_true, turned_false}
use Rattle.wall_policy.proofs.numbering.add_datasets.Goals as goal

pub returns-then-not-branch-clause-fresh : goal.returns-then-not-branch-clause-fresh
returns-then-not-branch-clause-fresh c =
    let same : c.datasets.result.now ≡
    (get_or c.args.classes.now c.loop-class.class-index c.class-item.result).datasets =
    c.datasets.ensures ∙ ap (λ (k : ClassText). k.datasets) c.class-item.is in
    let twice = turned_true c.in_ok-add_all.field-0
    (repeats_after c.loop-class.table (map (λ x. x) c.datasets.result.now))
    c.in_ok-add_all.ensures.fresh c.if-not-branch.true in
    sym (ap not (stops c.args.table.now c.loop-class.table c.args.classes.now
    c.loop-class.class-index c.class-item.result c.loop-class-test.true
    (rw same at twice) c.loop-class.invariant.rest))

pub loop-class-preserved : goal.loop-class-preserved
loop-class-preserved c =
    let same : c.datasets.result.now ≡
    (get_or c.args.classes.now c.loop-class.class-index c.class-item.result).datasets =
    c.datasets.ensures ∙ ap (λ (k : ClassText). k.datasets) c.class-item.is in
    let once = turned_false c.in_ok-add_all.field-0
    (repeats_after c.loop-class.table (map (λ x. x) c.datasets.result.now))
    c.in_ok-add_all.ensures.fresh c.if-not-branch.false in
    let new = c.in_ok-add_all.ensures.added c.if-not-branch.false in
    record {
      rest = rw new (rw same (goes_on c.args.table.now c.loop-class.table c.args.classes.now
          c.loop-class.class-index c.class-item.result c.loop-class-test.true
          (rw same at once) c.loop-class.invariant.rest));
      all = rw new (rw same (goes_through c.args.table.now c.loop-class.table c.args.classes.now
          c.loop-class.class-index c.class-item.result c.loop-class-test.true
          c.loop-class.invariant.all));
    }
