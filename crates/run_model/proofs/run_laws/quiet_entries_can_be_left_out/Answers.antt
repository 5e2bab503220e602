use Rattle.run_model.proofs.OmitLemmas.{quiet_entries_can_be_left_out}
use Rattle.run_model.proofs.run_laws.quiet_entries_can_be_left_out.Goals as goal

pub returns : goal.returns
returns c = quiet_entries_can_be_left_out
