use Rattle.book_report.proofs.place.Instance.rival_of.Goals as goal

pub unreachable-requires : goal.unreachable-requires
unreachable-requires c = c.in-None.ensures.none c.requires.some
