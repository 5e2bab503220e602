use Rattle.run_model.specs.Known.{HaveKnownLabels}
use Rattle.text_trials.proofs.calls.push_calls.Given as goal

abbrev pub invariant-loop-line : goal.invariant-loop-line
invariant-loop-line l = HaveKnownLabels l.policy l.calls.items
