use Rattle.policy_meaning.proofs.LawLemmas.{numbers_are_of_the_verdict}
use Rattle.policy_meaning.proofs.laws.numbers_are_of_the_verdict.Goals as goal

pub returns : goal.returns
returns c = numbers_are_of_the_verdict
