use Rattle.run_model.proofs.RunRowProofs.{neighbours_of_oneself_is_legal}
use Rattle.run_model.proofs.run_rows.neighbours_of_oneself.Goals as goal

pub returns : goal.returns
returns c = neighbours_of_oneself_is_legal
