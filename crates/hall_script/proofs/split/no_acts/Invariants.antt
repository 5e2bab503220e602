use Rattle.std.proofs.Common.{◌≡◌, replicate, []}
use Rattle.hall_script.proofs.split.no_acts.Given as goal

abbrev pub invariant-loop : goal.invariant-loop
invariant-loop l = l.rows.items ≡ replicate l.counter []
