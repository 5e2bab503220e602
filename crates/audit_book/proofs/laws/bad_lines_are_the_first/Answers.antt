use Rattle.audit_book.proofs.FaultLemmas.{bad_found, bad_so}
use Rattle.audit_book.proofs.laws.bad_lines_are_the_first.Goals as goal

pub returns : goal.returns
returns c = λ wall text number. (bad_found wall text number, bad_so wall text number)
