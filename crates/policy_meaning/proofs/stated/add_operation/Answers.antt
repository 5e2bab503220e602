use Rattle.std.proofs.Common.{◌+◌, arith, refl}
use Rattle.wall_labels.specs.Ops.{op_number}
use Rattle.policy_meaning.specs.declared.fact.Fact.TheVariants.{SanitisedFrom}
use Rattle.policy_meaning.proofs.FactLemmas.{add_fact, past_op}
use Rattle.policy_meaning.proofs.stated.add_operation.Goals as goal

pub returns-in_default : goal.returns-in_default
returns-in_default c =
    past_op c.args.policy.now c.args.list.now.items c.args.op c.processes.ensures.policy c.requires
    (λ least distinct h. absurd (grind arith))

pub returns-in_default-distinct : goal.returns-in_default-distinct
returns-in_default-distinct c =
    past_op c.args.policy.now c.args.list.now.items c.args.op c.processes.ensures.policy c.requires
    (λ least distinct h. absurd (grind arith))

pub returns : goal.returns
returns c =
    rw c.in_ok-push.ensures.items
    (add_fact c.args.policy.now c.args.list.now.items
    (SanitisedFrom c.args.op c.in-Some.least c.in-Some-distinct.distinct)
    (66816 + op_number c.args.op) (66816 + op_number c.args.op + 1) c.processes.ensures.policy
    c.requires (grind arith) refl refl)
