use Rattle.std.proofs.Common.{map}
use Rattle.wall_policy.proofs.RepeatLemmas.{table_made, table_refused}
use Rattle.wall_policy.proofs.numbering.table_of.Goals as goal

pub returns-then-branch : goal.returns-then-branch
returns-then-branch g c =
    table_made c.in_ok-add_all.field-0 c.new-table.result c.add_all.new.table
    (map g.T.Named.name_of c.args.items.now)
    c.new-table.ensures c.in_ok-add_all.ensures.fresh c.in_ok-add_all.ensures.added c.if-branch.true

pub returns-else-branch : goal.returns-else-branch
returns-else-branch g c =
    table_refused c.in_ok-add_all.field-0 c.new-table.result
    (map g.T.Named.name_of c.args.items.now)
    c.new-table.ensures c.in_ok-add_all.ensures.fresh c.if-branch.false
