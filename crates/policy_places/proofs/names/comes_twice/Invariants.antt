use Rattle.std.proofs.Common.{◌≡◌, length}
use Rattle.wall_policy.specs.Names.{comes_twice}
use Rattle.policy_places.proofs.names.comes_twice.Given as goal

abbrev pub invariant-loop-rest : goal.invariant-loop-rest
invariant-loop-rest l = comes_twice l.rest ≡ comes_twice l.names

abbrev pub decreases-loop-rest : goal.decreases-loop-rest
decreases-loop-rest l = length l.rest
