use Rattle.std.proofs.Common.{◌+◌, ◌*◌, arith, subst, sym, ◌≡◌}
use Rattle.policy_meaning.proofs.FactLemmas.{AreFacts, past_all_pairs}
use Rattle.policy_meaning.proofs.stated.add_pairs.Goals as goal

pub returns : goal.returns
returns c =
    let end = c.processes-number-end.ensures in
    past_all_pairs c.args.policy.now c.loop-number.list.items c.loop-number.number end.policy
    c.loop-number.invariant (omega arith) (omega arith)
