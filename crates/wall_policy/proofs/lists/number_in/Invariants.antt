use Rattle.std.proofs.Common.{◌≡◌, drop}
use Rattle.wall_policy.specs.Policy.{number_in}
use Rattle.wall_policy.proofs.lists.number_in.Given as goal

abbrev pub invariant-loop-stated : goal.invariant-loop-stated
invariant-loop-stated l = number_in (drop l.stated-index l.numbers) l.op ≡ number_in l.numbers l.op
