use Rattle.script_places.proofs.ProbeLemmas.{probe_tells}
use Rattle.script_places.proofs.laws.probe_tells.Goals as goal

pub returns : goal.returns
returns c = probe_tells
