use Rattle.std.proofs.Common.{arith, ◌+◌}
use Rattle.policy_meaning.proofs.FactLemmas.{add_fact, past_homes}
use Rattle.policy_meaning.proofs.stated.add_homes.Goals as goal

pub loop-number-preserved : goal.loop-number-preserved
loop-number-preserved c =
    rw c.in_ok-push.ensures.items
    (add_fact c.args.policy.now c.loop-number.list.items c.home_fact-fact.result
    (1024 + c.loop-number.number) (1024 + (c.loop-number.number + 1))
    c.processes-number-end.ensures.policy c.loop-number.invariant
    c.home_fact-fact.ensures.fact (grind arith) (omega arith))

pub returns : goal.returns
returns c =
    let end = c.processes-number-end.ensures in
    past_homes c.args.policy.now c.loop-number.list.items c.loop-number.number end.policy
    c.loop-number.invariant (omega arith) (omega arith)
