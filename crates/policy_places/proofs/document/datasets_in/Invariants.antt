use Rattle.std.proofs.Common.{◌≡◌, ◌++◌, drop, map}
use Rattle.std.specs.List.{flat_map}
use Rattle.toml.specs.View.{view}
use Rattle.policy_places.specs.Parts.{listed_in, datasets_in}
use Rattle.policy_places.proofs.document.datasets_in.Given as goal

abbrev pub invariant-loop-value : goal.invariant-loop-value
invariant-loop-value l =
    l.list.items ++ flat_map listed_in (map view (drop l.value-index l.values))
    ≡ datasets_in (map view l.values)
