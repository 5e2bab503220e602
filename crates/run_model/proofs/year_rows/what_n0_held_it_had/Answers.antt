use Rattle.run_model.proofs.YearRowProofs.{nothing, came, once_only, had}
use Rattle.run_model.proofs.year_rows.what_n0_held_it_had.Goals as goal

pub returns-clause-nothing : goal.returns-clause-nothing
returns-clause-nothing c = nothing

pub returns-clause-came : goal.returns-clause-came
returns-clause-came c = came

pub returns-clause-had : goal.returns-clause-had
returns-clause-had c = had

pub returns-clause-once : goal.returns-clause-once
returns-clause-once c = once_only
