-- Names of classes, datasets and processes: their form, the place of one in a list, and whether one
-- comes twice. (Own rules.)
use Rattle.std.specs.Prelude.{ℕ, Bool, false, not, ◌&&◌, ◌||◌, ◌==◌, nat_le, nat_lt, List, [], ◌∷◌}
use Rattle.std.specs.Prelude.{length, Option, codes}
use Rattle.std.specs.List.{list_all, list_any, position_from}
use Rattle.std.specs.Str.{bytes_eq}

-- a name is the list of its bytes
abbrev pub Name : Type 0
Name = List ℕ

-- a letter from `a` to `z`, and a digit
abbrev pub is_letter : ℕ → Bool
is_letter b = nat_le 97 b && nat_le b 122

abbrev pub is_digit : ℕ → Bool
is_digit b = nat_le 48 b && nat_le b 57

-- what may follow the first letter of a name: letters, digits, `_` and `-`
abbrev pub is_name_byte : ℕ → Bool
is_name_byte b = is_letter b || is_digit b || b == 95 || b == 45

-- the most bytes of a name
abbrev pub name_limit : ℕ
name_limit = 32

-- 1 to that many bytes, the first a letter
abbrev pub is_name : Name → Bool
is_name [] = false
is_name (b ∷ bs) = is_letter b && list_all is_name_byte bs && nat_lt (length bs) name_limit

-- no dataset has a name that labels give another meaning
abbrev pub is_dataset_name : Name → Bool
is_dataset_name name =
    is_name name && not (bytes_eq name (codes "public")) && not (bytes_eq name (codes "none"))

-- the place of the first such name
abbrev pub place_of : Name → List Name → Option ℕ
place_of name ns = position_from (bytes_eq name) 0 ns

abbrev pub is_in : List Name → Name → Bool
is_in ns name = list_any (bytes_eq name) ns

-- some name comes again later
abbrev pub comes_twice : List Name → Bool
comes_twice [] = false
comes_twice (n ∷ ns) = is_in ns n || comes_twice ns
