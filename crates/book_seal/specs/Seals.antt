-- The seal of a book that was cut: a whole book that begins with what was finished of it. (Own
-- rules.)
use Rattle.std.specs.Prelude.{◌≡◌, ℕ, List, [], ◌∷◌, ◌++◌, Option, Some, None, filter_map}
use Rattle.std.specs.Prelude.{Result, Ok, Err}
use Rattle.std.specs.List.{flat_map}
use Rattle.wall_policy.specs.Policy.{ChineseWall}
use Rattle.run_model.specs.declared.entry.Entry.{Entry}
use Rattle.run_model.specs.Books.{posts_in, IsSound}
use Rattle.coll_text.specs.declared.fault.LineFault.{LineFault}
use Rattle.coll_text.specs.Numbers.{Word}
use Rattle.coll_text.specs.Reading.{parts}
use Rattle.audit_book.specs.declared.line.Line.{Line}
use Rattle.audit_book.specs.declared.line.Line.TheVariants.{Said, End}
use Rattle.audit_book.specs.Lines.{line_at}
use Rattle.audit_book.specs.Reading.{book_in}

-- ## what is finished of a text

abbrev pub all_but_last : List Word → List Word
all_but_last [] = []
all_but_last (line ∷ []) = []
all_but_last (line ∷ next ∷ more) = line ∷ all_but_last (next ∷ more)

-- The lines that a line feed ends. What stands behind the last line feed is not finished.
unfoldable pub finished_lines : (text : List ℕ) → List Word
finished_lines text = all_but_last (parts 10 text)

-- the text of these lines: the text without what is not finished
unfoldable pub finished : (text : List ℕ) → List ℕ
finished text = flat_map (λ line. line ++ (10 ∷ [])) (finished_lines text)

-- a header and an end tell no entry, and neither does a line out of its form
abbrev pub entry_told : Result Line LineFault → Option Entry
entry_told (Ok (Said entry)) = Some entry
entry_told (Ok (End n)) = None
entry_told (Err fault) = None

-- the entries that the finished lines tell
unfoldable pub finished_entries : ChineseWall → (text : List ℕ) → List Entry
finished_entries wall text =
    filter_map (λ line. entry_told (line_at wall line)) (finished_lines text)

-- ## the seal

abbrev pub Starts : (prefix whole : List ℕ) → Type 0
Starts prefix whole = (rest : List ℕ) × (prefix ++ rest ≡ whole)

-- The seal of a text is read as a sound book. Its posts are those of the finished lines, in their
-- order, and it starts with these lines.
pub record IsSealOf (wall : ChineseWall) (text sealed : List ℕ) : Type 0 where
  pub entries : List Entry
  pub read : book_in wall sealed ≡ Ok entries
  pub sound : IsSound wall entries
  pub posts : posts_in entries ≡ posts_in (finished_entries wall text)
  pub prefix : Starts (finished text) sealed
