use Rattle.std.proofs.Common.{refl, sym, subst}
use Rattle.std.specs.Option.{option_map}
use Rattle.std.proofs.lemmas.List.{append-nil}
use Rattle.run_model.specs.Books.{IsSound}
use Rattle.run_model.specs.Known.{IsKnownEntry}
use Rattle.audit_book.specs.Checks.{entry_of}
use Rattle.audit_book.specs.Dues.{IsDueBehind}
use Rattle.book_places.specs.Owed.{before, LacksVerdict}
use Rattle.book_places.proofs.OwedLemmas.{lacks_verdict, owed_known}
use Rattle.book_places.proofs.owed.owed_behind.Goals as goal

pub returns-in-Some-clause-owed : goal.returns-in-Some-clause-owed
returns-in-Some-clause-owed c =
    let wall = c.args.policy.now in
    let entries = c.args.book.now.list in
    let prefix = before c.args.number entries in
    subst (λ e. LacksVerdict wall entries c.args.number e) (sym c.entry.ensures)
    (lacks_verdict wall entries c.args.number c.requires.bad prefix refl
    (entry_of c.in-Some.verdict)
    (subst (λ d. IsDueBehind wall prefix (option_map entry_of d)) c.in-Some.is
    (c.due.ensures wall prefix c.requires.seen)))

pub returns-in-Some-clause-known : goal.returns-in-Some-clause-known
returns-in-Some-clause-known c = λ known.
    let wall = c.args.policy.now in
    let entries = c.args.book.now.list in
    let prefix = before c.args.number entries in
    subst (IsKnownEntry wall) (sym c.entry.ensures)
    (owed_known wall entries c.args.number c.requires.bad prefix refl
    (entry_of c.in-Some.verdict) c.processes.ensures.policy
    (subst (λ d. IsDueBehind wall prefix (option_map entry_of d)) c.in-Some.is
    (c.due.ensures wall prefix c.requires.seen)) known)

pub owed_none-requires-clause-sound : goal.owed_none-requires-clause-sound
owed_none-requires-clause-sound c =
    let wall = c.args.policy.now in
    let prefix = before c.args.number c.args.book.now.list in
    subst (IsSound wall) (append-nil prefix)
    (subst (λ d. IsDueBehind wall prefix (option_map entry_of d)) c.in-None.is
    (c.due.ensures wall prefix c.requires.seen)).sound

pub owed_none-requires-clause-stands : goal.owed_none-requires-clause-stands
owed_none-requires-clause-stands c =
    c.post_state.ensures c.args.policy.now (before c.args.number c.args.book.now.list)
    c.requires.seen
