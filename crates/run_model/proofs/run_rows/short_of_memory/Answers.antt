use Rattle.run_model.proofs.RunRowProofs.{short_of_memory_is_legal, want_is_not_legal}
use Rattle.run_model.proofs.run_rows.short_of_memory.Goals as goal

pub returns-clause-legal : goal.returns-clause-legal
returns-clause-legal c = short_of_memory_is_legal

pub returns-clause-wrong : goal.returns-clause-wrong
returns-clause-wrong c = want_is_not_legal
