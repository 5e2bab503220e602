use Rattle.wall_policy.specs.Names.{Name}
use Rattle.wall_policy.specs.Growth.{class_name_of, class_number}
use Rattle.wall_policy.proofs.AnewLemmas.{mapped_on}
use Rattle.wall_policy.proofs.renumber.class_list.Goals as goal

pub loop-number-preserved : goal.loop-number-preserved
loop-number-preserved c =
    rw c.in_ok-push.ensures.items (rw c.class_of.ensures
    (mapped_on (λ (name : Name). class_number c.args.classes.now
    (class_name_of c.args.policy.now name)) c.loop-number.list.items c.args.datasets.now
    c.loop-number.number c.name_at.result.now _ c.name_at.ensures c.loop-number.invariant))
