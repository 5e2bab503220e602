use Rattle.std.proofs.Common.{All, List, sym, subst}
use Rattle.run_model.specs.declared.entry.Entry.{Entry as BookEntry}
use Rattle.run_model.specs.Known.{IsKnownEntry}
use Rattle.hall_core.proofs.BriefLemmas.{book_parts, news_are, news_named}
use Rattle.hall_core.proofs.brief.BriefHall.news.Goals as goal

pub returns-clause-value : goal.returns-clause-value
returns-clause-value c = rw (← c.self.view_is) (news_are c.self.inside.records.book.gone
    c.kept.result.now.list c.self.inside.records.book.list c.kept.ensures)

pub returns-clause-runs : goal.returns-clause-runs
returns-clause-runs c = rw (← c.self.view_is) (book_parts c.self.inside.records c.self.invariant)

pub returns-clause-named : goal.returns-clause-named
returns-clause-named c = rw (← c.self.view_is)
    (subst (λ (entries : List BookEntry). All (IsKnownEntry c.self.inside.records.policy) entries)
    (sym (news_are c.self.inside.records.book.gone c.kept.result.now.list
    c.self.inside.records.book.list c.kept.ensures))
    (news_named c.self.inside.records c.self.invariant))
