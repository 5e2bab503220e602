use Rattle.std.proofs.Common.{◌≡◌, drop, map}
use Rattle.toml.specs.View.{view}
use Rattle.policy_places.specs.Named.{first_read, bad_least_in}
use Rattle.policy_places.proofs.at_fault.first_bad_least.Given as goal

abbrev pub invariant-loop-value : goal.invariant-loop-value
invariant-loop-value l =
    first_read (bad_least_in l.version) (map view (drop l.value-index l.values))
    ≡ first_read (bad_least_in l.version) (map view l.values)
