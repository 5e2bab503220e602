use Rattle.std.proofs.Common.{◌∙◌}
use Rattle.run_state.proofs.LaidLemmas.{laid_count}
use Rattle.run_state.proofs.communicators.Communicators.len.Goals as goal

pub returns : goal.returns
returns c = c.len.ensures.value
    ∙ laid_count c.self.inside.table c.self.inside.shapes.items c.args.self.now c.self.view_is
    c.self.invariant
