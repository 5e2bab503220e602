use Rattle.std.proofs.Common.{◌≡◌, ◌++◌, length}
use Rattle.run_model.specs.Replies.{Legal}
use Rattle.hall_core.specs.Halls.{StandsFor}
use Rattle.run_model.specs.Runs.{run_of}
use Rattle.hall_core.proofs.runs.apply_each.Given as goal

abbrev pub invariant-loop-call : goal.invariant-loop-call
invariant-loop-call l = record {
  policy : l.hall.policy ≡ l.fn.hall.policy;
  legal : Legal l.hall.policy (run_of l.yielded l.list.items);
  stands : StandsFor l.hall (run_of l.yielded l.list.items);
  count : length l.list.items ≡ length l.yielded;
  rest : l.yielded ++ l.call-iterator.rest.items ≡ l.fn.calls;
}
