use Rattle.std.proofs.Common.{◌≡◌, ◌++◌, drop, map}
use Rattle.std.specs.List.{filter_map}
use Rattle.toml.specs.View.{view}
use Rattle.policy_places.specs.Parts.{text_in, texts_in}
use Rattle.policy_places.proofs.document.texts_in.Given as goal

abbrev pub invariant-loop-value : goal.invariant-loop-value
invariant-loop-value l =
    l.list.items ++ filter_map (text_in l.key) (map view (drop l.value-index l.values))
    ≡ texts_in l.key (map view l.values)
