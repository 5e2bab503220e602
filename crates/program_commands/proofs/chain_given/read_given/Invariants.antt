use Rattle.std.proofs.Common.{◌≡◌, ◌+◌, take, reverse, List}
use Rattle.run_model.specs.Chains.{Link}
use Rattle.chain_runs.specs.Chains.{IsPast}
use Rattle.program_commands.specs.ChainGiven.{AreGiven}
use Rattle.program_commands.proofs.chain_given.read_given.Given as goal

abbrev pub invariant-loop-run : goal.invariant-loop-run
invariant-loop-run g l = (l.number ≡ l.run-index + 1) × ((links : List Link)
    × IsPast g.F.Reader.Source.failures g.F.Reader.Source.remaining g.F.FileSystem.is_at
    (take l.run-index l.runs) links l.past
    × AreGiven g.F.Reader.Source.failures g.F.Reader.Source.remaining g.F.FileSystem.is_at
    (reverse (take l.run-index l.runs)) links l.lines.items)
