use Rattle.std.proofs.Common.{sym, ◌∙◌}
use Rattle.coll_values.proofs.InstanceLemmas.{whole_decides}
use Rattle.coll_values.proofs.full.Full+Buffer.is_whole.Goals as goal

pub returns-clause-whole : goal.returns-clause-whole
returns-clause-whole c =
    let decides = whole_decides c.args.self.now in
    (λ e. decides.0 (sym c.passes.ensures ∙ e), λ whole. c.passes.ensures ∙ decides.1 whole)
