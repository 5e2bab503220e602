use Rattle.run_model.proofs.YearLemmas.{over_years}
use Rattle.run_model.proofs.years.over_years.Goals as goal

pub returns : goal.returns
returns c = over_years
