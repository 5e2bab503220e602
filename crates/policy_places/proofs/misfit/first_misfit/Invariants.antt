use Rattle.std.proofs.Common.{◌≡◌, drop, map}
use Rattle.toml.specs.View.{view}
use Rattle.policy_places.specs.Named.{first_read, misfit_in}
use Rattle.policy_places.proofs.misfit.first_misfit.Given as goal

abbrev pub invariant-loop-value : goal.invariant-loop-value
invariant-loop-value l =
    first_read (misfit_in l.version l.part) (map view (drop l.value-index l.values))
    ≡ first_read (misfit_in l.version l.part) (map view l.values)
