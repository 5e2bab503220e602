-- The number of calls that a session of a server may make. (Own format.)
use Rattle.std.specs.Prelude.{ℕ, ◌+◌, ◌-◌, ◌*◌, [], ◌∷◌, Bool, ◌&&◌, ◌==◌, not, nat_le, get_or, Option, Some, None}
use Rattle.std.specs.Prelude.{option_map, if◌then◌else◌}
use Rattle.std.specs.List.{list_all}
use Rattle.clap.specs.Words.{Text}

abbrev pub is_digit : ℕ → Bool
is_digit b = nat_le 48 b && nat_le b 57

-- the value of digits, after those that have this value
abbrev pub value_after : ℕ → Text → ℕ
value_after n [] = n
value_after n (b ∷ bs) = value_after (n * 10 + (b - 48)) bs

-- digits, the first of them not 0, of a number up to 2 ^ 62
abbrev pub is_calls : Text → Bool
is_calls text = list_all is_digit text && not (get_or text 0 48 == 48)
    && nat_le (value_after 0 text) 4611686018427387904

abbrev pub calls_said : Text → Option ℕ
calls_said text = if is_calls text then Some (value_after 0 text) else None

-- what was said of a bound: that there is none, where nothing was; none of that, where what was
-- said is no number of calls
abbrev pub bound_said : Option Text → Option (Option ℕ)
bound_said None = Some None
bound_said (Some text) = option_map Some (calls_said text)
