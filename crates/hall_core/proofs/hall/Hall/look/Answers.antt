use Rattle.hall_core.specs.Halls.{view_of}
use Rattle.hall_core.specs.Invariant.{value_in}
use Rattle.hall_core.proofs.DueLemmas.{finds, found_named, wants_none}
use Rattle.hall_core.proofs.hall.Hall.look.Goals as goal

pub returns-clause-found : goal.returns-clause-found
returns-clause-found c =
    rw (← c.self.view_is) (finds (value_in c.self.inside.records) c.args.process c.args.request
    c.look.result c.look.ensures)

pub returns-clause-named : goal.returns-clause-named
returns-clause-named c =
    rw (← c.self.view_is) (found_named (view_of (value_in c.self.inside.records)) c.args.process
    c.args.request c.look.result c.self.invariant.hall c.look.ensures)

pub returns-clause-memory : goal.returns-clause-memory
returns-clause-memory c =
    wants_none (view_of (value_in c.self.inside.records)) c.args.process c.args.request
    c.look.result c.look.ensures
