use Rattle.run_model.proofs.RunModelLemmas.{sound_books_keep_the_wall}
use Rattle.audit_book.proofs.check.check_book.Goals as goal

pub returns-clause-keeps : goal.returns-clause-keeps
returns-clause-keeps c = sound_books_keep_the_wall c.args.policy.now c.args.book.now.list
    c.processes.ensures.policy c.in_ok-audit.ensures.whole.1
