use Rattle.std.proofs.Common.{◌≡◌, length, is_some}
use Rattle.chain_file.specs.Reading.{spelled_in}
use Rattle.chain_file.proofs.path.is_path.Given as goal

abbrev pub invariant-loop-rest : goal.invariant-loop-rest
invariant-loop-rest l = is_some (spelled_in l.rest) ≡ is_some (spelled_in l.word)

abbrev pub decreases-loop-rest : goal.decreases-loop-rest
decreases-loop-rest l = length l.rest
