use Rattle.run_model.proofs.RunRowProofs.{parts_of_a_grid_is_legal}
use Rattle.run_model.proofs.run_rows.parts_of_a_grid.Goals as goal

pub returns : goal.returns
returns c = parts_of_a_grid_is_legal
