use Rattle.std.proofs.Common.{◌-◌, ◌≤◌}
use Rattle.rank_run.specs.Waits.{tries}
use Rattle.rank_run.proofs.WaitLemmas.{Waits}
use Rattle.rank_run.proofs.waiting.Waiting.wait.Given as goal

abbrev pub invariant-loop-tried : goal.invariant-loop-tried
invariant-loop-tried g l = record {
  some : 1 ≤ l.tried;
  within : l.tried ≤ tries l.self.patience;
  waits : Waits l.self.request (l.tried - 1) l.fn.pass l.pass;
}
