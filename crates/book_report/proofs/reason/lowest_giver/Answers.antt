use Rattle.book_report.proofs.reason.lowest_giver.Goals as goal

pub unreachable-requires : goal.unreachable-requires
unreachable-requires c =
    c.in-None.ensures.none c.requires.some.0 c.requires.some.1 c.requires.some.2
