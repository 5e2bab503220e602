use Rattle.std.proofs.Common.{◌≡◌, ◌++◌, drop, map}
use Rattle.std.specs.List.{filter_map}
use Rattle.toml.specs.Data.{as_str}
use Rattle.toml.specs.View.{view}
use Rattle.policy_places.proofs.document.push_texts.Given as goal

abbrev pub invariant-loop-value : goal.invariant-loop-value
invariant-loop-value l =
    l.list.items ++ filter_map as_str (map view (drop l.value-index l.values))
    ≡ l.initial.list.items ++ filter_map as_str (map view l.values)
