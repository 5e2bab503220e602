-- The word at a place of a line, and how it is shown. (Own format.)
use Rattle.std.specs.Prelude.{ℕ, ◌-◌, Bool, ◌==◌, nat_le, List, [], ◌++◌, length, take, drop, map}
use Rattle.std.specs.Prelude.{codes, slice_index, slice_index_or, if◌then◌else◌}
use Rattle.coll_text.specs.Numbers.{Word}
use Rattle.coll_text.specs.Reading.{parts, is_printable}

-- the first of the parts of a text; empty where there is none
abbrev pub first_part : List Word → Word
first_part ps = slice_index_or ps 0 []

-- the word that begins in the column, counted from 1, up to the next space or the end of the line
abbrev pub word_from : (line : List ℕ) → (column : ℕ) → Word
word_from line column = first_part (parts 32 (drop (column - 1) line))

abbrev pub ends_in_space : (line : List ℕ) → Bool
ends_in_space line = slice_index line (length line - 1) == 32

-- a byte as it is shown: itself, or `?`
abbrev pub shown : ℕ → ℕ
shown b = if is_printable b then b else 63

-- a word of more than 36 bytes is cut: its first 34, and `..` behind them
abbrev pub shown_word : Word → List ℕ
shown_word w = if nat_le (length w) 36 then map shown w else map shown (take 34 w) ++ codes ".."

abbrev pub quoted : Word → List ℕ
quoted w = codes "\"" ++ shown_word w ++ codes "\""
