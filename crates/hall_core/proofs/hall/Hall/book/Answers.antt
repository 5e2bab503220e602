use Rattle.std.proofs.Common.{All, List, sym, subst, ◌∙◌}
use Rattle.run_model.specs.declared.entry.Entry.{Entry as BookEntry}
use Rattle.run_model.specs.Books.{IsSound}
use Rattle.run_model.specs.Known.{IsKnownEntry}
use Rattle.hall_core.specs.Invariant.{value_in}
use Rattle.hall_core.proofs.ApplyLemmas.{book_is, sound, named}
use Rattle.hall_core.proofs.BriefLemmas.{all_kept}
use Rattle.hall_core.proofs.hall.Hall.book.Goals as goal

pub returns-clause-value : goal.returns-clause-value
returns-clause-value c = rw (← c.self.view_is) (all_kept c.self.inside.records.book.gone
    c.kept.result.now.list c.self.inside.records.book.list c.self.invariant.none c.kept.ensures)

pub returns-clause-runs : goal.returns-clause-runs
returns-clause-runs c =
    rw (← c.self.view_is) (λ run stands. all_kept c.self.inside.records.book.gone
    c.kept.result.now.list c.self.inside.records.book.list c.self.invariant.none c.kept.ensures
    ∙ book_is (value_in c.self.inside.records) run stands)

pub returns-clause-sound : goal.returns-clause-sound
returns-clause-sound c =
    rw (← c.self.view_is) (subst (IsSound c.self.inside.records.policy)
    (sym (all_kept c.self.inside.records.book.gone c.kept.result.now.list
    c.self.inside.records.book.list c.self.invariant.none c.kept.ensures))
    (sound (value_in c.self.inside.records) c.self.invariant.hall))

pub returns-clause-named : goal.returns-clause-named
returns-clause-named c =
    rw (← c.self.view_is)
    (subst (λ (entries : List BookEntry). All (IsKnownEntry c.self.inside.records.policy) entries)
    (sym (all_kept c.self.inside.records.book.gone c.kept.result.now.list
    c.self.inside.records.book.list c.self.invariant.none c.kept.ensures))
    (named (value_in c.self.inside.records) c.self.invariant.hall))
