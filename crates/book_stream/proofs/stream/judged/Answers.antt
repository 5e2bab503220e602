use Rattle.std.proofs.Common.{◌+◌, sym, ap, subst}
use Rattle.std.specs.Option.{option_map}
use Rattle.run_model.specs.Books.{IsFirstBad}
use Rattle.audit_book.specs.Checks.{entry_of}
use Rattle.audit_book.proofs.AuditBookLemmas.{one_missing}
use Rattle.book_stream.specs.Readings.{IsJudged}
use Rattle.book_stream.proofs.stream.judged.Goals as goal

pub returns-in-Some : goal.returns-in-Some
returns-in-Some c = λ entries number judged.
    let wall = c.args.policy.now in
    let seen = subst (λ f. IsJudged wall c.args.reading.now.audit f entries) c.in-None.is judged in
    subst (IsFirstBad wall entries) (ap (λ n. n + 1) (sym number))
    (one_missing wall entries _ (entry_of c.in-Some.field-0)
    (ap (option_map entry_of) c.in-Some.is) (c.due.ensures wall entries seen))
