use Rattle.std.proofs.Common.{refl}
use Rattle.book_report.proofs.bars.held_other.Goals as goal

pub returns-in-Ok-clause-none : goal.returns-in-Ok-clause-none
returns-in-Ok-clause-none c = c.in-Ok.ensures.passes.0 refl
