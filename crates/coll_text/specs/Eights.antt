-- Digits that are read eight at a time.
use Rattle.std.specs.Prelude.{◌≡◌, ℕ, ◌+◌, ◌%◌, ◌^◌, ◌<◌, ◌≤◌, length, take, true}
use Rattle.std.specs.List.{list_all}
use Rattle.coll_text.specs.Numbers.{Word, is_digit, value_after}

-- a byte less that of the digit 0, in eight bits
abbrev pub less_zero : ℕ → ℕ
less_zero b = (b + 208) % 256

-- the first len bytes are digits, and v is their value
pub record IsFrontValue (w : Word) (v len : ℕ) : Type 0 where
  pub within : len ≤ length w
  pub digits : list_all is_digit (take len w) ≡ true
  pub value : v ≡ value_after 0 (take len w)
  pub small : v < 10 ^ len
