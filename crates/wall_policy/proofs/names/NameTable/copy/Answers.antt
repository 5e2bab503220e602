use Rattle.std.proofs.Common.{◌∙◌}
use Rattle.wall_policy.proofs.NameLemmas.{clones-same}
use Rattle.wall_policy.proofs.names.NameTable.copy.Goals as goal

pub returns : goal.returns
returns c = clones-same c.self.inside.names.keys c.in_ok-names.names.keys
    c.in_ok-names.ensures.cases ∙ c.self.view_is
