use Rattle.std.proofs.Common.{◌≡◌, ℕ, ◌<◌, false, slice_get}
use Rattle.coll_values.specs.Instances.{is_no_part}
use Rattle.coll_values.proofs.full.lacks_some_part.Given as goal

abbrev pub invariant-loop-rank : goal.invariant-loop-rank
invariant-loop-rank l =
    (i : ℕ) → i < l.rank → is_no_part l.full.roll i (slice_get l.full.parts i) ≡ false
