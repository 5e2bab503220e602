use Rattle.book_report.specs.Clean.{AreOfRanks}
use Rattle.book_report.proofs.clean.add_ranks.Given as goal

abbrev pub invariant-loop-rank : goal.invariant-loop-rank
invariant-loop-rank l = AreOfRanks l.instance l.rank l.those.items
