use Rattle.audit_book.proofs.FaultLemmas.{cut_found, cut_so}
use Rattle.audit_book.proofs.laws.cut_texts_stop_early.Goals as goal

pub returns : goal.returns
returns c = λ wall text. (cut_found wall text, cut_so wall text)
