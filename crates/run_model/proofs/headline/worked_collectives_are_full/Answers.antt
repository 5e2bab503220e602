use Rattle.run_model.proofs.HeadlineRowProofs.{granted_sum_is_full, denied_broadcast_is_full}
use Rattle.run_model.proofs.headline.worked_collectives_are_full.Goals as goal

pub returns-clause-granted : goal.returns-clause-granted
returns-clause-granted c = granted_sum_is_full

pub returns-clause-denied : goal.returns-clause-denied
returns-clause-denied c = denied_broadcast_is_full
