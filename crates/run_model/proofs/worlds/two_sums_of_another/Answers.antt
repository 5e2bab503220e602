use Rattle.run_model.proofs.WorldRowProofs.{two_sums_of_another_are_worlds}
use Rattle.run_model.proofs.WorldRowProofs.{two_sums_of_another_are_unlike}
use Rattle.run_model.proofs.worlds.two_sums_of_another.Goals as goal

pub returns-clause-worlds : goal.returns-clause-worlds
returns-clause-worlds c = two_sums_of_another_are_worlds

pub returns-clause-unlike : goal.returns-clause-unlike
returns-clause-unlike c = two_sums_of_another_are_unlike
