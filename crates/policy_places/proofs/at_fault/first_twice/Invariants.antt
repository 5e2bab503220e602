use Rattle.std.proofs.Common.{◌≡◌, length}
use Rattle.policy_places.specs.Named.{first_twice}
use Rattle.policy_places.proofs.at_fault.first_twice.Given as goal

abbrev pub invariant-loop-rest : goal.invariant-loop-rest
invariant-loop-rest l = first_twice l.rest ≡ first_twice l.names

abbrev pub decreases-loop-rest : goal.decreases-loop-rest
decreases-loop-rest l = length l.rest
