use Rattle.std.proofs.Common.{◌≡◌, false, sym, ap, ◌∙◌}
use Rattle.wall_policy.specs.Names.{is_in}
use Rattle.wall_policy.proofs.BuildLemmas.{map_goes_on}
use Rattle.wall_policy.proofs.RepeatLemmas.{one_more, turned_false}
use Rattle.wall_policy.proofs.numbering.add_all.Goals as goal

pub loop-item-preserved : goal.loop-item-preserved
loop-item-preserved g c =
    let once : is_in c.loop-item.table (g.T.Named.name_of c.item-item.result) ≡ false = ap
    (is_in c.loop-item.table) (sym c.name.ensures)
    ∙ turned_false c.in_ok-add.field-0 _ c.in_ok-add.ensures.is_new c.if-not-branch.false in
    let new = rw c.name.ensures at (rw c.if-not-branch.false at c.in_ok-add.ensures.added) in
    record {
      rest = rw new (one_more g.T.Named.name_of c.loop-item.table c.args.items.now
          c.loop-item.item-index c.item-item.result _ c.loop-item-test.true c.item-item.is
          c.loop-item.invariant.rest once);
      all = rw new (map_goes_on g.T.Named.name_of c.loop-item.table c.args.items.now
          c.loop-item.item-index c.item-item.result _ c.loop-item-test.true c.item-item.is
          c.loop-item.invariant.all);
    }
