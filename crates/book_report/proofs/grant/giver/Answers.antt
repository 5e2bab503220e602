use Rattle.std.proofs.Common.{sym, ◌∙◌, below_more}
use Rattle.std.proofs.lemmas.Bool.{false≢true}
use Rattle.book_report.specs.Walk.{GivesTo}
use Rattle.book_report.proofs.grant.giver.Goals as goal

pub loop-from-preserved : goal.loop-from-preserved
loop-from-preserved c = below_more
    (λ m. ¬ (GivesTo c.args.roll.now m c.args.to c.args.dataset)) c.loop-from.from
    c.loop-from.invariant (λ given. false≢true (sym c.if-gives.false ∙ c.gives.ensures.1 given))
