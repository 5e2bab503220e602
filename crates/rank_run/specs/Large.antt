-- Which deliveries are large. (Own rule.)
use Rattle.std.specs.Prelude.{ℕ, ◌≤◌, List, length}
use Rattle.std.specs.List.{sum_by}
use Rattle.std.specs.Arc.{arc_value}
use Rattle.mpi_elems.specs.Contents.{Contents, elements}
use Rattle.hall_core.specs.declared.claims.Claim.{Claim}
use Rattle.hall_core.specs.declared.claims.Claim.TheVariants.{Done, Ready}

-- so many elements were given
abbrev pub all_given : (parts : List Contents) → ℕ
all_given parts = sum_by (λ part. length (elements part)) parts

-- A delivery is large if 4,096 elements were given to its instance, or more.
abbrev pub IsLarge : Claim → Type 0
IsLarge (Done reply) = ⊥
IsLarge (Ready full rank room) = 4096 ≤ all_given (arc_value full).parts
