use Rattle.std.proofs.Common.{◌≡◌, take}
use Rattle.rank_run.specs.Jobs.{ending_of}
use Rattle.rank_run.proofs.run.ending_of.Given as goal

abbrev pub invariant-loop-played : goal.invariant-loop-played
invariant-loop-played l = l.ending ≡ ending_of (take l.played-index l.ended)
