use Rattle.std.proofs.Common.{subst}
use Rattle.wall_policy.specs.Answer.{Gives}
use Rattle.wall_policy.proofs.LowestLemmas.{in_turn-is}
use Rattle.wall_policy.proofs.read.read_policy.Goals as goal

pub returns-clause-answer : goal.returns-clause-answer
returns-clause-answer c = subst (λ said. Gives c.read_in_turn.result said)
    (in_turn-is c.args.bytes.now) c.read_in_turn.ensures.answer
