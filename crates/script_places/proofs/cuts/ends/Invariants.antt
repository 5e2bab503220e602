use Rattle.script_places.proofs.EndLemmas.{AreEndsTo}
use Rattle.script_places.proofs.cuts.ends.Given as goal

abbrev pub invariant-loop-place : goal.invariant-loop-place
invariant-loop-place l = AreEndsTo l.line l.place l.list.items
