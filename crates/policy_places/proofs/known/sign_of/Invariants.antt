use Rattle.std.proofs.Common.{◌≡◌, drop}
use Rattle.std.specs.Prelude.{find}
use Rattle.toml.specs.View.{table_view}
use Rattle.policy_places.specs.Signs.{shows, signs_of}
use Rattle.policy_places.proofs.known.sign_of.Given as goal

abbrev pub invariant-loop-sign : goal.invariant-loop-sign
invariant-loop-sign l =
    find (λ sign. shows l.known sign (table_view l.members))
    (drop l.sign-index (signs_of l.fn.fault))
    ≡ find (λ sign. shows l.known sign (table_view l.members)) (signs_of l.fn.fault)
