use Rattle.std.proofs.Common.{Ok, Err, sym, ap, ◌∙◌}
use Rattle.audit_book.specs.Lines.{line_at}
use Rattle.audit_book.specs.LineSteps.{number_of_end}
use Rattle.book_stream.proofs.ReadingLemmas.{entry_told, end_told, fault_told, same_entry}
use Rattle.seal_stream.proofs.ReadingLemmas.{fault_stops}
use Rattle.seal_stream.proofs.reading.take_behind.Goals as goal

pub returns-in-Ok-Said-clause-taken : goal.returns-in-Ok-Said-clause-taken
returns-in-Ok-Said-clause-taken c =
    let said = line_at c.args.policy.now c.args.line.now in
    let told = entry_told said (c.in-Ok-Said.ensures.told
    ∙ ap (λ l. Ok (number_of_end l)) c.in-Ok-Said.field-0-is) in
    c.take_entry-is_kept.ensures told.0 c.args.line.now
    (λ off. same_entry said told.0 c.in-Ok-Said.entry told.1
    (c.in-Ok-Said.ensures.kept off ∙ ap Ok c.in-Ok-Said.field-0-is))
    told.1

pub returns-in-Err-take_end-clause-stop : goal.returns-in-Err-take_end-clause-stop
returns-in-Err-take_end-clause-stop c =
    let said = line_at c.args.policy.now c.args.line.now in
    c.in-Err-take_end.ensures.stop c.args.line.now
    (end_told said c.in-Ok-End.number (c.in-Ok-End.ensures.told
    ∙ ap (λ l. Ok (number_of_end l)) c.in-Ok-End.field-0-is))

pub returns-in-Err-clause-stop : goal.returns-in-Err-clause-stop
returns-in-Err-clause-stop c = λ lines kept h.
    let old = c.args.reading.now in
    let said = line_at c.args.policy.now c.args.line.now in
    let told = fault_told said c.in-Err.field-0 (λ e. c.in-Err.ensures.memory (ap Err e))
    c.in-Err.ensures.told in
    fault_stops c.args.policy.now old old lines kept c.args.line.now h c.requires.stage told.0 told.1
