use Rattle.std.proofs.Common.{◌≡◌, drop}
use Rattle.std.specs.Prelude.{is_some}
use Rattle.toml.specs.View.{items_view}
use Rattle.wall_policy.specs.Tree.{each}
use Rattle.wall_policy.proofs.tree.each_is_said.Given as goal

abbrev pub invariant-loop-value : goal.invariant-loop-value
invariant-loop-value g l =
    is_some (each (g.T.Item.said l.version) (items_view (drop l.value-index l.values)))
    ≡ is_some (each (g.T.Item.said l.version) (items_view l.values))
