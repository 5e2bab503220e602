use Rattle.policy_places.proofs.PrefixLemmas.{AreEndsTo}
use Rattle.policy_places.proofs.lines.ends_of.Given as goal

abbrev pub invariant-loop-place : goal.invariant-loop-place
invariant-loop-place l = AreEndsTo l.text l.place l.ends.items
