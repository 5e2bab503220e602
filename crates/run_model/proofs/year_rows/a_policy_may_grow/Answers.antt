use Rattle.run_model.proofs.YearRowProofs.{lowered, moved, homeless, renamed}
use Rattle.run_model.proofs.year_rows.a_policy_may_grow.Goals as goal

pub returns-clause-lowered : goal.returns-clause-lowered
returns-clause-lowered c = lowered

pub returns-clause-moved : goal.returns-clause-moved
returns-clause-moved c = moved

pub returns-clause-homeless : goal.returns-clause-homeless
returns-clause-homeless c = homeless

pub returns-clause-renamed : goal.returns-clause-renamed
returns-clause-renamed c = renamed
