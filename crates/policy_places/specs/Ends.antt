-- Where lines end: words of private contracts.
use Rattle.std.specs.Prelude.{◌≡◌, ℕ, ◌+◌, ◌≤◌, List, length, take, slice_get, Some}
use Rattle.policy_places.specs.Prefixes.{prefix}

-- for each line how many bytes stand up to its end; the last is the whole text
pub record AreEnds (text ends : List ℕ) : Type 0 where
  pub some : 1 ≤ length ends
  pub within : (k e : ℕ) → slice_get ends k ≡ Some e → e ≤ length text
  pub prefixes : (k e : ℕ) → slice_get ends k ≡ Some e → take e text ≡ prefix (k + 1) text
  pub whole : (n : ℕ) → length ends ≤ n → prefix n text ≡ text
