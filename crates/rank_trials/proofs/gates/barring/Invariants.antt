use Rattle.std.specs.List.{All}
use Rattle.run_model.specs.Known.{HasKnownLabel}
use Rattle.rank_trials.proofs.gates.barring.Given as goal

abbrev pub invariant-loop-request : goal.invariant-loop-request
invariant-loop-request g l = All (HasKnownLabel l.policy) l.script
