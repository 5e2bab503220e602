use Rattle.std.proofs.Common.{◌≡◌, ◌+◌, ◌*◌, get_or, sym, subst, arith}
use Rattle.wall_labels.specs.Ops.{op_number}
use Rattle.policy_meaning.specs.declared.warning.Doubt.TheVariants.{TooFewProcesses}
use Rattle.policy_meaning.specs.Warnings.{doubt_number}
use Rattle.policy_meaning.proofs.WarningLemmas.{AreWarnings, all_doubts, doubt_at}
use Rattle.policy_meaning.proofs.due.add_doubts.Goals as goal

pub add-requires-clause-listed : goal.add-requires-clause-listed
add-requires-clause-listed c = subst
    (λ n. AreWarnings c.args.policy.now c.loop-doubt.list.items (1 + (7 * op_number c.args.op + n)))
    (sym (doubt_at c.loop-doubt.doubt-index c.loop-doubt-test.true)) c.loop-doubt.invariant

pub loop-doubt-preserved : goal.loop-doubt-preserved
loop-doubt-preserved c =
    let at = doubt_at c.loop-doubt.doubt-index c.loop-doubt-test.true in
    let next : 1
    + (7 * op_number c.args.op
    + doubt_number (get_or all_doubts c.loop-doubt.doubt-index TooFewProcesses))
    + 1
    ≡ 1 + (7 * op_number c.args.op + (c.loop-doubt.doubt-index + 1)) = omega (arith, at) in
    subst (AreWarnings c.args.policy.now c.add.new.list.items) next c.in_ok-add.ensures
