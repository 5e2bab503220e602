use Rattle.std.proofs.Common.{ap, ◌∙◌}
use Rattle.wall_rules.specs.Histories.{has, Accesses}
use Rattle.hall_core.specs.Invariant.{value_in}
use Rattle.hall_core.proofs.ApplyLemmas.{histories_are, histories_of_book, processes_are}
use Rattle.hall_core.proofs.ApplyLemmas.{classes_are, nobody_holds_rivals, is_held}
use Rattle.hall_core.proofs.hall.Hall.histories.Goals as goal

pub returns-clause-runs : goal.returns-clause-runs
returns-clause-runs c = rw (← c.self.view_is) (λ run stands.
    histories_are (value_in c.self.inside.records) (has c.histories.result.now) run
    c.histories.ensures.posts stands)

pub returns-clause-apart : goal.returns-clause-apart
returns-clause-apart c = rw (← c.self.view_is) (nobody_holds_rivals (value_in c.self.inside.records)
    (has c.histories.result.now) c.self.invariant.hall c.histories.ensures.posts)

pub returns-clause-flow : goal.returns-clause-flow
returns-clause-flow c = rw (← c.self.view_is) (λ run legal stands.
    is_held (value_in c.self.inside.records) (has c.histories.result.now) run
    c.histories.ensures.posts legal stands)

pub returns-clause-book : goal.returns-clause-book
returns-clause-book c =
    rw (← c.self.view_is) (histories_of_book (value_in c.self.inside.records)
    (has c.histories.result.now) c.self.invariant.hall c.histories.ensures.posts)

pub returns-clause-processes : goal.returns-clause-processes
returns-clause-processes c =
    rw (← c.self.view_is) (ap (λ (a : Accesses). a.processes) c.histories.ensures.value
    ∙ processes_are (value_in c.self.inside.records) c.self.invariant.hall)

pub returns-clause-classes : goal.returns-clause-classes
returns-clause-classes c =
    rw (← c.self.view_is) (ap (λ (a : Accesses). a.classes) c.histories.ensures.value
    ∙ classes_are (value_in c.self.inside.records) c.self.invariant.hall)
