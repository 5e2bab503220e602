-- Numbers as text. (Own format.)
use Rattle.std.specs.Prelude.{ℕ, ◌≤◌, zero, suc, ℤ, pos, negsuc, ◌+◌, ◌-◌, ◌*◌, Bool, false, not}
use Rattle.std.specs.Prelude.{◌&&◌, ◌||◌, ◌==◌, nat_le, List, [], ◌∷◌, length, Option, Some, None}
use Rattle.std.specs.Prelude.{option_map, option_and_then, if◌then◌else◌}
use Rattle.std.specs.List.{list_all}

-- what stands between two separators
abbrev pub Word : Type 0
Word = List ℕ

abbrev pub is_digit : ℕ → Bool
is_digit b = nat_le 48 b && nat_le b 57

-- `0`, or a digit from 1 to 9 and further digits
abbrev pub is_number : Word → Bool
is_number [] = false
is_number (b ∷ bs) = is_digit b && list_all is_digit bs && (not (b == 48) || length bs == 0)

-- the value of digits, after those that have this value
abbrev pub value_after : ℕ → Word → ℕ
value_after n [] = n
value_after n (b ∷ bs) = value_after (n * 10 + (b - 48)) bs

-- a number up to most
unfoldable pub number_within : ℕ → Word → Option ℕ
number_within most word =
    if is_number word && nat_le (value_after 0 word) most then Some (value_after 0 word) else None

-- behind a minus sign; 0 has none
abbrev pub negative : ℕ → Option ℤ
negative zero = None
negative (suc n) = Some (negsuc n)

-- from -least to most
abbrev pub IsBetween : ℕ → ℕ → ℤ → Type 0
IsBetween most least (pos n) = n ≤ most
IsBetween most least (negsuc n) = suc n ≤ least

-- a number up to most, or a minus sign and a number up to least
unfoldable pub signed_within : ℕ → ℕ → Word → Option ℤ
signed_within most least [] = None
signed_within most least (b ∷ bs) = if b == 45
    then option_and_then negative (number_within least bs)
    else option_map pos (number_within most (b ∷ bs))
