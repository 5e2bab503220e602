use Rattle.std.proofs.Common.{◌<◌, ◌+◌, Ok, Err, refl, sym, ap, ◌∙◌, arith}
use Rattle.audit_book.specs.Lines.{line_at}
use Rattle.audit_book.specs.LineSteps.{number_of_end}
use Rattle.book_stream.proofs.ReadingLemmas.{entry_told, end_told, fault_told, same_entry}
use Rattle.book_stream.proofs.ReadingLemmas.{entry_read, end_read, other_stops, fault_stops}
use Rattle.book_stream.proofs.reading.take_entry.Goals as goal

pub returns-then-number-reading-clause-fault : goal.returns-then-number-reading-clause-fault
returns-then-number-reading-clause-fault c = λ lines h.
    let old = c.args.reading.now in
    let said = line_at c.args.policy.now c.args.line.now in
    other_stops c.args.policy.now old old lines c.args.line.now h c.requires.stage
    c.in-Ok-End.number (λ same. let other = c.if-number-reading.true in omega (arith, other, same))
    (end_told said c.in-Ok-End.number (c.in-Ok-End.ensures.told
    ∙ ap (λ l. Ok (number_of_end l)) c.in-Ok-End.field-0-is))

pub returns-in-Ok-Said-clause-read : goal.returns-in-Ok-Said-clause-read
returns-in-Ok-Said-clause-read c = λ lines h.
    let old = c.args.reading.now in
    let said = line_at c.args.policy.now c.args.line.now in
    let told = entry_told said (c.in-Ok-Said.ensures.told
    ∙ ap (λ l. Ok (number_of_end l)) c.in-Ok-Said.field-0-is) in
    let below = c.if-reading-ge-ENTRY_LIMIT.false in
    let low : old.entries < 4611686018427387904 = omega (arith, below) in
    let number = h.number in
    entry_read c.args.policy.now old _ lines c.args.line.now h c.requires.stage
    (c.judge-reading.ensures.stage ∙ c.requires.stage) told.0 told.1
    (ap (λ n. n + 1) c.judge-reading.ensures.number) low
    (c.judge-reading.ensures.judged h.entries told.0 h.number (omega (arith, low, number)) h.judged
    (λ off. same_entry said told.0 c.in-Ok-Said.entry told.1
    (c.in-Ok-Said.ensures.kept off ∙ ap Ok c.in-Ok-Said.field-0-is)))

pub returns-else-number-reading-clause-read : goal.returns-else-number-reading-clause-read
returns-else-number-reading-clause-read c = λ lines h.
    let old = c.args.reading.now in
    let said = line_at c.args.policy.now c.args.line.now in
    let same = c.if-number-reading.false in
    end_read c.args.policy.now old _ lines c.args.line.now h c.requires.stage refl refl refl refl
    c.in-Ok-End.number (omega (arith, same))
    (end_told said c.in-Ok-End.number (c.in-Ok-End.ensures.told
    ∙ ap (λ l. Ok (number_of_end l)) c.in-Ok-End.field-0-is))

pub returns-in-Err-clause-fault : goal.returns-in-Err-clause-fault
returns-in-Err-clause-fault c = λ lines h.
    let old = c.args.reading.now in
    let said = line_at c.args.policy.now c.args.line.now in
    let told = fault_told said c.in-Err.field-0 (λ e. c.in-Err.ensures.memory (ap Err e))
    c.in-Err.ensures.told in
    fault_stops c.args.policy.now old old lines c.args.line.now h c.requires.stage told.0 told.1
