use Rattle.run_model.proofs.WorldRowProofs.{two_barred_posts_are_alike}
use Rattle.run_model.proofs.WorldRowProofs.{two_barred_posts_look_the_same}
use Rattle.run_model.proofs.worlds.two_barred_posts.Goals as goal

pub returns-clause-alike : goal.returns-clause-alike
returns-clause-alike c = two_barred_posts_are_alike

pub returns-clause-same : goal.returns-clause-same
returns-clause-same c = two_barred_posts_look_the_same c.values_are_of_routed_ranks.ensures
