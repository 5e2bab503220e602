use Rattle.run_model.proofs.RunRowProofs.{relayed_broadcast_is_legal, broker_holds_alpha}
use Rattle.run_model.proofs.RunRowProofs.{crude_holds_alpha, beta_holds_no_alpha}
use Rattle.run_model.proofs.run_rows.relayed_broadcast.Goals as goal

pub returns-clause-legal : goal.returns-clause-legal
returns-clause-legal c = relayed_broadcast_is_legal

pub returns-clause-holds : goal.returns-clause-holds
returns-clause-holds c = broker_holds_alpha

pub returns-clause-reached : goal.returns-clause-reached
returns-clause-reached c = crude_holds_alpha

pub returns-clause-spared : goal.returns-clause-spared
returns-clause-spared c = beta_holds_no_alpha
