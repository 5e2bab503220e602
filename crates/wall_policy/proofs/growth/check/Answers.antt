use Rattle.wall_policy.specs.Growth.{HasGrown}
use Rattle.wall_policy.specs.GrowthFaults.{KeepsDatasets}
use Rattle.std.proofs.Common.{length}
use Rattle.wall_policy.proofs.GrowthLemmas.{keeps_all, if_ok}
use Rattle.wall_policy.proofs.growth.check.Goals as goal

pub returns-clause-grown : goal.returns-clause-grown
returns-clause-grown c =
    let old = c.args.old.now in
    let new = c.args.new.now in
    if_ok (λ _. KeepsDatasets old new (length old.dataset_names)) (λ _. HasGrown old new)
    c.check_datasets.result
    (λ _ datasets. keeps_all old new c.in_ok-check_processes.ensures.kept
    c.in_ok-check_classes.ensures.kept datasets)
    c.check_datasets.ensures.kept
