use Rattle.wall_verdict.proofs.DifferentLemmas.{different_are_counted_once}
use Rattle.wall_verdict.proofs.laws.different_are_counted_once.Goals as goal

pub returns : goal.returns
returns c = different_are_counted_once
