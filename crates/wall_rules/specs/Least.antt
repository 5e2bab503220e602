-- The least number with a property.
use Rattle.std.specs.Prelude.{ℕ, zero, suc, Bool, true, false, Option, Some, None}

-- the one that was found, and else the number if it has the property
abbrev pub or_last : Option ℕ → Bool → ℕ → Option ℕ
or_last (Some k) here n = Some k
or_last None true n = Some n
or_last None false n = None

-- the least number below the bound that has the property
unfoldable pub least : (ℕ → Bool) → ℕ → Option ℕ
least has zero = None
least has (suc n) = or_last (least has n) (has n) n
