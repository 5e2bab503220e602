use Rattle.std.proofs.Common.{sym, subst}
use Rattle.wall_policy.specs.Rivals.{AreRivals}
use Rattle.book_report.proofs.reason.Judged.clash_of.Goals as goal

pub clash_beside-requires-clause-beside : goal.clash_beside-requires-clause-beside
clash_beside-requires-clause-beside c = c.requires.some (λ e had rivals.
    c.in-None.ensures.none e had
    (subst (λ cs. AreRivals cs c.args.dataset e) (sym c.requires.judged.classes) rivals))

pub returns-in-Some : goal.returns-in-Some
returns-in-Some c = record {
  rivals = subst (λ cs. AreRivals cs c.args.dataset c.in-Some.rival) c.requires.judged.classes
      c.in-Some.ensures.rivals;
  source = c.in-Some.ensures.held;
}

pub returns-in-None : goal.returns-in-None
returns-in-None c = c.clash_beside.ensures c.args.process
