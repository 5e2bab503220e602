use Rattle.hall_script.proofs.SayableRowProofs.{signed, pairs, counts, nothing, take, info}
use Rattle.hall_script.proofs.laws.extreme_calls_are_sayable.Goals as goal

pub returns-clause-signed : goal.returns-clause-signed
returns-clause-signed c = signed

pub returns-clause-pairs : goal.returns-clause-pairs
returns-clause-pairs c = pairs

pub returns-clause-counts : goal.returns-clause-counts
returns-clause-counts c = counts

pub returns-clause-nothing : goal.returns-clause-nothing
returns-clause-nothing c = nothing

pub returns-clause-take : goal.returns-clause-take
returns-clause-take c = take

pub returns-clause-info : goal.returns-clause-info
returns-clause-info c = info
