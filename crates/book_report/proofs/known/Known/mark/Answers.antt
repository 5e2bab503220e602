use Rattle.std.proofs.Common.{◌<◌, ◌||◌, length, ◌∙◌, ap, arith}
use Rattle.wall_rules.specs.Histories.{has_in}
use Rattle.book_report.specs.Walk.{is_pair}
use Rattle.book_report.proofs.KnownLemmas.{pair_in}
use Rattle.book_report.proofs.known.Known.mark.Goals as goal

pub returns-clause-adds : goal.returns-clause-adds
returns-clause-adds c = λ q e.
    let sets = c.args.self.now.sets.items in
    let room = c.requires in
    let within : c.number.result < length sets = omega (arith, c.number.ensures.below) in
    pair_in sets c.number.result c.args.dataset c.index_mut-set.result.now c.insert.new.self within
    c.index_mut-set.ensures.value c.insert.ensures q e
    ∙ ap (λ p. has_in sets q e || is_pair p c.args.dataset q e) c.number.ensures.value
