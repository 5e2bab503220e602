use Rattle.std.proofs.Common.{sym, ap, ◌∙◌}
use Rattle.wall_policy.specs.Names.{comes_twice}
use Rattle.wall_policy.proofs.NameLemmas.{distinct-view}
use Rattle.wall_policy.proofs.names.NameTable.len.Goals as goal

pub returns-clause-distinct : goal.returns-clause-distinct
returns-clause-distinct c =
    ap comes_twice (sym c.self.view_is)
    ∙ distinct-view c.self.inside.names.keys c.len.ensures.unique
