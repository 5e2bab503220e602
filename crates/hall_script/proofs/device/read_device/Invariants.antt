use Rattle.std.proofs.Common.{◌≡◌, ◌+◌, ◌≤◌, ◌-◌, length}
use Rattle.std.specs.Io.KnownBytes.{Consumes}
use Rattle.hall_script.proofs.device.read_device.Given as goal

abbrev pub invariant-loop-n : goal.invariant-loop-n
invariant-loop-n g l = record {
  count : g.R.Source.failures l.source ≡ g.R.Source.failures l.fn.source;
  got : Consumes (g.R.Source.remaining l.fn.source) (g.R.Source.remaining l.source) l.bytes.items;
  within : length l.bytes.items ≤ l.limit;
}

abbrev pub decreases-loop-n : goal.decreases-loop-n
decreases-loop-n g l = l.limit + 1 - length l.bytes.items
