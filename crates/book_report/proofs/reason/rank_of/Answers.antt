use Rattle.std.proofs.Common.{◌≡◌, ℕ, Option, Some, None, sym, ◌∙◌}
use Rattle.mpi_group.proofs.MpiGroupLemmas.{ranked}
use Rattle.book_report.proofs.reason.rank_of.Goals as goal

pub unreachable-requires : goal.unreachable-requires
unreachable-requires c =
    let there = ranked c.args.roll.now.members c.requires.0 c.args.process c.size.ensures.group
    c.requires.1 in
    let both : ◌≡◌ {A = Option ℕ} None (Some c.requires.0) = c.in-None.ensures ∙ there in
    cc

pub returns-clause-rank : goal.returns-clause-rank
returns-clause-rank c = sym c.in-Some.ensures
