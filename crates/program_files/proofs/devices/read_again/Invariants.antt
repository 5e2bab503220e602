use Rattle.std.specs.Io.KnownBytes.{Keeps}
use Rattle.program_files.proofs.devices.read_again.Given as goal

abbrev pub invariant-loop : goal.invariant-loop
invariant-loop g l = Keeps (g.F.Read.remaining l.fn.file) (g.F.Read.remaining l.file)
