use Rattle.wall_policy.specs.Plain.{ProcessText}
use Rattle.wall_policy.specs.Meaning.{home_in}
use Rattle.wall_policy.proofs.BuildLemmas.{map_goes_on}
use Rattle.wall_policy.proofs.build.home_list.Goals as goal

pub loop-process-preserved : goal.loop-process-preserved
loop-process-preserved c =
    rw c.in_ok-push.ensures.items (rw c.home_of.ensures
    (map_goes_on (λ (p : ProcessText). home_in c.args.datasets.now p.home) c.loop-process.list.items
    c.args.processes.now c.loop-process.process-index c.process-item.result _
    c.loop-process-test.true c.process-item.is c.loop-process.invariant))
