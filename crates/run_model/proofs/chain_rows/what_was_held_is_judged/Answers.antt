use Rattle.run_model.proofs.ChainRowProofs.{denied_after, granted_is_bad, granted_alone}
use Rattle.run_model.proofs.chain_rows.what_was_held_is_judged.Goals as goal

pub returns-clause-denied : goal.returns-clause-denied
returns-clause-denied c = denied_after

pub returns-clause-bad : goal.returns-clause-bad
returns-clause-bad c = granted_is_bad

pub returns-clause-alone : goal.returns-clause-alone
returns-clause-alone c = granted_alone
