use Rattle.std.proofs.Common.{◌≡◌, false, sym, ◌∙◌}
use Rattle.book_report.specs.Walk.{knows}
use Rattle.book_report.proofs.KnownLemmas.{added, added_pair, pair_grows, pair_there}
use Rattle.book_report.proofs.known.Known.add.Goals as goal

pub returns-clause-known : goal.returns-clause-known
returns-clause-known c = λ wall entries before is.
    let row = c.args.row in
    let fresh : knows c.args.self.now row.process row.dataset ≡ false =
    sym c.has.ensures ∙ c.if-has.false in
    added wall entries c.args.self.now c.push.new.self c.mark.new.self row
    c.in_ok-push.ensures.rows c.in_ok-push.ensures.sets c.mark.ensures.rows c.mark.ensures.adds
    fresh before is

pub returns-clause-grows : goal.returns-clause-grows
returns-clause-grows c =
    let row = c.args.row in
    pair_grows c.args.self.now row.process row.dataset c.mark.new.self
    (added_pair c.args.self.now c.push.new.self c.mark.new.self row.process row.dataset
    c.in_ok-push.ensures.sets c.mark.ensures.adds)

pub returns-clause-there : goal.returns-clause-there
returns-clause-there c =
    pair_there c.push.new.self c.args.row.process c.args.row.dataset c.mark.new.self
    c.mark.ensures.adds
