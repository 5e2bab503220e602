use Rattle.run_model.proofs.TypeRowProofs.{both_ends_of_each_type_is_legal}
use Rattle.run_model.proofs.type_rows.both_ends_of_each_type.Goals as goal

pub returns : goal.returns
returns c = both_ends_of_each_type_is_legal
