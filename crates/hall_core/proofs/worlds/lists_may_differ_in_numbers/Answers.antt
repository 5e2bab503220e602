use Rattle.hall_core.proofs.WorldRowProofs.{broadcasts, sums, relays}
use Rattle.hall_core.proofs.worlds.lists_may_differ_in_numbers.Goals as goal

pub returns-clause-broadcasts : goal.returns-clause-broadcasts
returns-clause-broadcasts c = broadcasts

pub returns-clause-sums : goal.returns-clause-sums
returns-clause-sums c = sums

pub returns-clause-relays : goal.returns-clause-relays
returns-clause-relays c = relays
