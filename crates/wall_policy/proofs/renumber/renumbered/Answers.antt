use Rattle.std.proofs.Common.{◌≤◌, List, length, sym, ap, subst}
use Rattle.wall_labels.specs.declared.ids.TheConstants.{DATASET_LIMIT, CLASS_LIMIT}
use Rattle.wall_policy.specs.Names.{Name}
use Rattle.wall_policy.specs.Policy.{ChineseWall, IsPolicy}
use Rattle.wall_policy.specs.Growth.{GrewFrom}
use Rattle.wall_policy.proofs.AnewLemmas.{is_renumbered}
use Rattle.wall_policy.proofs.NumberingLemmas.{grown_files_are_policies}
use Rattle.wall_policy.proofs.RenumberLemmas.{grown_files_grow}
use Rattle.wall_policy.proofs.renumber.renumbered.Goals as goal

pub lists_of-requires-clause-few_classes : goal.lists_of-requires-clause-few_classes
lists_of-requires-clause-few_classes c =
    let are = c.in_ok-tables.ensures in
    subst (λ (names : List Name). length names ≤ CLASS_LIMIT) (sym are.classes)
    (grown_files_are_policies c.args.old.now c.args.new.now are.old are.new c.requires).0.few_classes

pub lists_of-requires-clause-few_datasets : goal.lists_of-requires-clause-few_datasets
lists_of-requires-clause-few_datasets c =
    let are = c.in_ok-tables.ensures in
    subst (λ (names : List Name). length names ≤ DATASET_LIMIT) (sym are.datasets)
    (grown_files_are_policies c.args.old.now c.args.new.now are.old are.new c.requires).0.few_datasets

pub invariant_of-result : goal.invariant_of-result
invariant_of-result c =
    let old = c.args.old.now in
    let new = c.args.new.now in
    let are = c.in_ok-tables.ensures in
    let lists = c.in_ok-lists.ensures in
    subst IsPolicy (sym (is_renumbered old new _
    (ap (λ (w : ChineseWall). w.version) c.new.view_is) are.classes are.datasets are.processes
    lists.classes lists.homes lists.leasts lists.distincts c.new-2.ensures.items))
    (grown_files_are_policies old new are.old are.new c.requires).0

pub returns-clause-grew : goal.returns-clause-grew
returns-clause-grew c =
    let old = c.args.old.now in
    let new = c.args.new.now in
    let are = c.in_ok-tables.ensures in
    let lists = c.in_ok-lists.ensures in
    subst (λ (w : ChineseWall). GrewFrom old w) (sym (is_renumbered old new _
    (ap (λ (w : ChineseWall). w.version) c.new.view_is) are.classes are.datasets are.processes
    lists.classes lists.homes lists.leasts lists.distincts c.new-2.ensures.items))
    (grown_files_grow old new are.old are.new c.requires)
