use Rattle.std.proofs.Common.{◌≡◌, length}
use Rattle.chain_file.specs.Reading.{spelled_in}
use Rattle.chain_file.proofs.SpellLemmas.{onto}
use Rattle.chain_file.proofs.path.spelled.Given as goal

abbrev pub invariant-loop-rest : goal.invariant-loop-rest
invariant-loop-rest l = onto l.bytes.items (spelled_in l.rest) ≡ spelled_in l.word

abbrev pub decreases-loop-rest : goal.decreases-loop-rest
decreases-loop-rest l = length l.rest
