use Rattle.std.proofs.Common.{rules, arith}
use Rattle.audit_book.specs.Reading.{book_in}
use Rattle.audit_book.proofs.BookLemmas.{book_found}
use Rattle.audit_book.proofs.NamedLemmas.{book_known}
use Rattle.audit_book.proofs.ReadLemmas.{parts_few}
use Rattle.audit_book.proofs.read.read_book.Goals as goal

pub take_lines-requires-clause-few : goal.take_lines-requires-clause-few
take_lines-requires-clause-few c = grind (arith, parts_few c.args.text.now)

pub returns-clause-answer : goal.returns-clause-answer
unfolding book_in
returns-clause-answer c = search rules

pub returns-clause-spelled : goal.returns-clause-spelled
returns-clause-spelled c = book_found c.args.policy.now c.args.text.now
    c.take_lines.new.kept.book.list (returns-clause-answer c)

pub returns-clause-known : goal.returns-clause-known
returns-clause-known c = book_known c.args.policy.now c.args.text.now
    c.take_lines.new.kept.book.list (returns-clause-answer c)
