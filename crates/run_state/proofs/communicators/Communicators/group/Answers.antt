use Rattle.std.proofs.Common.{◌∙◌}
use Rattle.run_state.proofs.LaidLemmas.{laid_within, laid_group, laid_sized}
use Rattle.run_state.proofs.communicators.Communicators.group.Goals as goal

pub group-group-requires : goal.group-group-requires
group-group-requires c = laid_within c.self.inside.table c.self.inside.shapes.items c.args.self.now
    c.self.view_is c.self.invariant c.args.comm c.requires

pub returns-clause-members : goal.returns-clause-members
returns-clause-members c = λ found e. c.group-group.ensures
    ∙ laid_group c.self.inside.table c.self.inside.shapes.items c.args.self.now c.self.view_is
    c.self.invariant c.args.comm found e

pub returns-clause-sized : goal.returns-clause-sized
returns-clause-sized c = λ found e. laid_sized c.self.inside.table c.self.inside.shapes.items
    c.args.self.now c.self.view_is c.self.invariant c.args.comm found e
