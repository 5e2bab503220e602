use Rattle.std.proofs.Common.{◌≡◌}
use Rattle.lone_hall.specs.Told.{HasTold}
use Rattle.lone_hall.proofs.run.Given as goal

abbrev pub invariant-loop-line : goal.invariant-loop-line
invariant-loop-line l = record {
  policy : l.hall.policy ≡ l.fn.policy;
  told : HasTold l.hall l.told.items;
}
