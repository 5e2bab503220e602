use Rattle.std.proofs.Common.{◌≡◌, ◌≤◌}
use Rattle.std.specs.Io.KnownBytes.{Appends}
use Rattle.run_model.specs.Comms.{processes}
use Rattle.program_commands.specs.Running.{ranks_text}
use Rattle.program_commands.proofs.run.write_ranks.Given as goal

abbrev pub invariant-loop-number : goal.invariant-loop-number
invariant-loop-number g l = record {
  within : l.number ≤ processes l.wall;
  count : g.O.Sink.failures l.out ≡ g.O.Sink.failures l.fn.out;
  written : Appends (g.O.Sink.contents l.fn.out) (g.O.Sink.contents l.out)
      (ranks_text l.wall l.replies l.number);
}
