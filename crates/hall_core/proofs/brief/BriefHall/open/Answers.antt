use Rattle.hall_core.specs.Invariant.{value_in}
use Rattle.hall_core.proofs.ApplyLemmas.{stands_exactly}
use Rattle.hall_core.proofs.BriefLemmas.{none_kept}
use Rattle.hall_core.proofs.brief.BriefHall.open.Goals as goal

pub returns-in-Ok-clause-stands : goal.returns-in-Ok-clause-stands
returns-in-Ok-clause-stands c = stands_exactly (value_in c.in-Ok.records) _ c.in-Ok.ensures.stands

pub returns-in-Ok-clause-news : goal.returns-in-Ok-clause-news
returns-in-Ok-clause-news c = none_kept c.in-Ok.records.book.gone c.in-Ok.records.book.list
    c.in-Ok.ensures.gone c.in-Ok.ensures.stands.book
