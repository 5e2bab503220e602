use Rattle.std.proofs.Common.{◌≡◌, ◌+◌, take, List}
use Rattle.run_model.specs.Chains.{Link}
use Rattle.chain_runs.specs.Chains.{IsPast}
use Rattle.chain_runs.proofs.runs.read_runs.Given as goal

abbrev pub invariant-loop-run : goal.invariant-loop-run
invariant-loop-run g l = (l.number ≡ l.run-index + 1) × ((links : List Link)
    × IsPast g.F.Reader.Source.failures g.F.Reader.Source.remaining g.F.FileSystem.is_at
    (take l.run-index l.runs) links l.past)
