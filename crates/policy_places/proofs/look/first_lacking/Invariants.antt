use Rattle.std.proofs.Common.{◌≡◌, drop, map}
use Rattle.std.specs.List.{position_from}
use Rattle.toml.specs.View.{view}
use Rattle.policy_places.specs.Signs.{lacks}
use Rattle.policy_places.proofs.look.first_lacking.Given as goal

abbrev pub invariant-loop-number : goal.invariant-loop-number
invariant-loop-number l =
    position_from (lacks l.version l.part) l.number (map view (drop l.number l.values))
    ≡ position_from (lacks l.version l.part) 0 (map view l.values)
