use Rattle.std.proofs.Common.{[]}
use Rattle.hall_script.proofs.teller.Teller.new.Goals as goal

pub returns-clause-begins : goal.returns-clause-begins
returns-clause-begins c =
    λ stands. record { stands = stands; right = c.new.ensures c.args.hall.policy [] }
