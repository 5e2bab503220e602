-- Tables with one value written over.
use Rattle.std.specs.Prelude.{◌==◌, ℕ, if◌then◌else◌}

-- a table with one value written over
abbrev pub updated : {A : Type 0} → (ℕ → A) → ℕ → A → ℕ → A
updated table at x q = if q == at then x else table q
