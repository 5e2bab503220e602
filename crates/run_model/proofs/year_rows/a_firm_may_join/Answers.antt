use Rattle.run_model.proofs.YearRowProofs.{grown, not_by_number, anew, grew}
use Rattle.run_model.proofs.year_rows.a_firm_may_join.Goals as goal

pub returns-clause-grown : goal.returns-clause-grown
returns-clause-grown c = grown

pub returns-clause-numbers : goal.returns-clause-numbers
returns-clause-numbers c = not_by_number

pub returns-clause-anew : goal.returns-clause-anew
returns-clause-anew c = anew

pub returns-clause-grew : goal.returns-clause-grew
returns-clause-grew c = grew
