use Rattle.std.proofs.lemmas.Bool.{or_left}
use Rattle.wall_rules.specs.Histories.{has}
use Rattle.book_report.proofs.ReasonLemmas.{some_more, none_more, apart}
use Rattle.book_report.proofs.reason.held_rival.Goals as goal

pub returns-clause-held : goal.returns-clause-held
returns-clause-held c = some_more c.clash.result _ _
    (λ e lowest. apart (has c.args.histories.now c.args.process e) c.empty.result e c.empty.ensures
    lowest.0.0)
    c.clash.ensures.lowest

pub returns-clause-rivals : goal.returns-clause-rivals
returns-clause-rivals c =
    some_more c.clash.result _ _ (λ e lowest. lowest.0.1) c.clash.ensures.lowest

pub returns-clause-none : goal.returns-clause-none
returns-clause-none c = none_more c.clash.result _ _
    (λ passes e had rivals.
    passes e (or_left (has c.args.histories.now c.args.process e) _ had, rivals))
    c.clash.ensures.none
