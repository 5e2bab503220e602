use Rattle.run_model.proofs.RunRowProofs.{ties_and_prefixes_is_legal}
use Rattle.run_model.proofs.run_rows.ties_and_prefixes.Goals as goal

pub returns : goal.returns
returns c = ties_and_prefixes_is_legal
