use Rattle.std.proofs.Common.{◌≡◌, true, sym, ◌∙◌, refl}
use Rattle.wall_rules.specs.Histories.{has, opening}
use Rattle.book_report.proofs.KnownLemmas.{ok_then}
use Rattle.book_report.proofs.HistoryLemmas.{first_at_start}
use Rattle.book_report.proofs.known.Known.add_first.Goals as goal

pub returns-clause-known : goal.returns-clause-known
returns-clause-known c = ok_then c.add.result _ _
    (λ known wall entries same before.
    known wall entries before (λ _.
    let held : has c.args.histories.now c.args.process c.args.dataset ≡ true =
    sym c.has.ensures.value ∙ c.if-not-has.false in
    let first : opening wall c.args.process c.args.dataset ≡ true =
    (λ i. sym same i c.args.process c.args.dataset) ∙ held in
    record {
      first = first_at_start wall entries c.args.process c.args.dataset first;
      way = refl;
    }))
    c.add.ensures.known
