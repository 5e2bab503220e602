-- A text that is cut into lines while it comes, in pieces. (Own format.)
use Rattle.std.specs.Prelude.{◌≡◌, ℕ, ◌<◌, ◌≤◌, true, false, List, [], ◌∷◌, ◌++◌, length}
use Rattle.coll_text.specs.Numbers.{Word}
use Rattle.book_stream.specs.declared.line.Unfinished.{Unfinished}

-- the most bytes of a line, without its LF
abbrev pub line_limit : ℕ
line_limit = 134217728

-- what is kept of the line so far: its bytes, or that they are above the limit
pub record Holds (kept : Unfinished) (line : List ℕ) : Type 0 where
  pub short : kept.is_long ≡ false → (kept.bytes.items ≡ line) × (length line ≤ line_limit)
  pub long : kept.is_long ≡ true → line_limit < length line

-- the parts of a text that goes on behind this line
abbrev pub behind : (line : Word) → List Word → List Word
behind line [] = line ∷ []
behind line (part ∷ later) = (line ++ part) ∷ later
