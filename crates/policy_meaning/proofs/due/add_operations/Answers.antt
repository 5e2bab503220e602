use Rattle.std.proofs.Common.{◌+◌, ◌*◌, sym, subst}
use Rattle.policy_meaning.proofs.WarningLemmas.{AreWarnings, op_at}
use Rattle.policy_meaning.proofs.due.add_operations.Goals as goal

pub add_doubts-requires : goal.add_doubts-requires
add_doubts-requires c =
    subst (λ n. AreWarnings c.args.policy.now c.loop-op.list.items (1 + 7 * n))
    (sym (op_at c.loop-op.op-index c.loop-op-test.true)) c.loop-op.invariant

pub loop-op-preserved : goal.loop-op-preserved
loop-op-preserved c =
    subst (λ n. AreWarnings c.args.policy.now c.add_doubts.new.list.items (1 + 7 * (n + 1)))
    (op_at c.loop-op.op-index c.loop-op-test.true) c.in_ok-add_doubts.ensures
