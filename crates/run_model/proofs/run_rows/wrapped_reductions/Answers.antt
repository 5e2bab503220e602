use Rattle.run_model.proofs.RunRowProofs.{wrapped_reductions_is_legal}
use Rattle.run_model.proofs.run_rows.wrapped_reductions.Goals as goal

pub returns : goal.returns
returns c = wrapped_reductions_is_legal
