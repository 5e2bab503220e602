use Rattle.std.specs.Ordering.{nat_cmp}
use Rattle.std.specs.FinSet.{contains-empty}
use Rattle.wall_rules.proofs.HistoryLemmas.{contains-home}
use Rattle.wall_rules.proofs.histories.home_row.Goals as goal

pub returns-in-Some : goal.returns-in-Some
returns-in-Some c d =
    rw (c.insert.ensures, c.empty-row.ensures, c.in-Some.is) (contains-home c.in-Some.dataset d)

pub returns-in_default : goal.returns-in_default
returns-in_default c d = rw (c.empty-row.ensures, c.in_default.is) (contains-empty nat_cmp d)
