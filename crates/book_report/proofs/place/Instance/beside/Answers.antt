use Rattle.std.proofs.Common.{sym, ◌∙◌, below_more, arith}
use Rattle.std.proofs.lemmas.Bool.{false≢true}
use Rattle.book_report.specs.Reasons.{GivesRival}
use Rattle.book_report.proofs.place.Instance.beside.Goals as goal

pub loop-rank-preserved : goal.loop-rank-preserved
loop-rank-preserved c = below_more
    (λ m. ¬ (GivesRival c.args.self.now.place.policy.now c.args.self.now.roll.now m c.args.to
    c.args.dataset))
    c.loop-rank.rank c.loop-rank.invariant
    (λ given. false≢true (sym c.if-gives_rival.false ∙ c.gives_rival.ensures.1 given))

pub unreachable-requires : goal.unreachable-requires
unreachable-requires c =
    let b = c.requires.some in
    let low = b.low in
    c.loop-rank.invariant b.rank (omega (arith, low)) b.gives
