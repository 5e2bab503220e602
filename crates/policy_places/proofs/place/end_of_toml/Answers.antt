use Rattle.std.proofs.Common.{arith}
use Rattle.policy_places.proofs.PlaceLemmas.{ends_at_once}
use Rattle.policy_places.proofs.place.end_of_toml.Goals as goal

pub returns : goal.returns
returns c = ends_at_once c.args.lines.now (λ m low.
    let none = c.loop-line-test.false in c.loop-line.invariant.behind m (omega (arith, none, low)))
