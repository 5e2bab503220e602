use Rattle.wall_policy.specs.Checks.{dataset_names}
use Rattle.wall_policy.proofs.RepeatLemmas.{table_made, table_refused}
use Rattle.wall_policy.proofs.numbering.dataset_table.Goals as goal

pub returns-then-branch : goal.returns-then-branch
returns-then-branch c =
    table_made c.in_ok-add_datasets.field-0 c.new-table.result c.add_datasets.new.table
    (dataset_names c.args.classes.now)
    c.new-table.ensures c.in_ok-add_datasets.ensures.fresh c.in_ok-add_datasets.ensures.added
    c.if-branch.true

pub returns-else-branch : goal.returns-else-branch
returns-else-branch c =
    table_refused c.in_ok-add_datasets.field-0 c.new-table.result (dataset_names c.args.classes.now)
    c.new-table.ensures c.in_ok-add_datasets.ensures.fresh c.if-branch.false
