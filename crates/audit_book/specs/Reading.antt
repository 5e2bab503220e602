-- A book, read from the top: its header, which has the version of the policy, its entries, and its
-- end. (Own format.)
use Rattle.std.specs.Prelude.{◌≡◌, ℕ, ◌+◌, ◌==◌, List, [], ◌∷◌, ◌++◌, length, Result, Ok, Err}
use Rattle.std.specs.Prelude.{if◌then◌else◌}
use Rattle.std.specs.Str.{bytes_eq}
use Rattle.wall_policy.specs.Policy.{ChineseWall}
use Rattle.run_model.specs.declared.entry.Entry.{Entry}
use Rattle.coll_text.specs.declared.fault.LineFault.{LineFault}
use Rattle.coll_text.specs.Numbers.{Word}
use Rattle.coll_text.specs.Reading.{parts}
use Rattle.audit_book.specs.declared.fault.ReadFault.{ReadFault}
use Rattle.audit_book.specs.declared.fault.ReadFault.TheVariants.{BadLine, Cut, NoMemory}
use Rattle.audit_book.specs.declared.line.Line.{Line}
use Rattle.audit_book.specs.declared.line.Line.TheVariants.{Said, End}
use Rattle.audit_book.specs.Lines.{line_at}
use Rattle.audit_book.specs.Text.{header_line}

-- What a reader returned is what is said, unless memory ran out.
abbrev pub IsSaid : {X Y : Type 0} → (X → Y) → Result X ReadFault → Result Y ReadFault → Type 0
IsSaid view (Ok x) said = said ≡ Ok (view x)
IsSaid view (Err NoMemory) said = Unit {0}
IsSaid view (Err fault) said = said ≡ Err fault

abbrev pub with_prefix : List Entry → Result (List Entry) ReadFault → Result (List Entry) ReadFault
with_prefix prefix (Ok entries) = Ok (prefix ++ entries)
with_prefix prefix (Err fault) = Err fault

-- no byte stands behind the end
abbrev pub ended_at : (number : ℕ) → List Word → Result (List Entry) ReadFault
ended_at number (rest ∷ []) = if length rest == 0 then Ok [] else Err (BadLine number)
ended_at number _ = Err (BadLine number)

-- By what a line is that stands behind so many entries: with its entry before the others, or at the
-- end. The header is line 1.
abbrev pub by_line : (entries : ℕ) → Result Line LineFault →
    (others ended : Result (List Entry) ReadFault) → Result (List Entry) ReadFault
by_line entries (Ok (Said entry)) others ended = with_prefix (entry ∷ []) others
by_line entries (Ok (End n)) others ended =
    if n == entries then ended else Err (BadLine (entries + 2))
by_line entries (Err fault) others ended = Err (BadLine (entries + 2))

-- The lines behind the header and so many entries. The last of the list is what stands behind the
-- last line feed.
unfoldable pub entries_in : ChineseWall → (entries : ℕ) → List Word → Result (List Entry) ReadFault
entries_in wall entries [] = Err Cut
entries_in wall entries (line ∷ []) = Err Cut
entries_in wall entries (line ∷ next ∷ more) = by_line entries (line_at wall line)
    (entries_in wall (entries + 1) (next ∷ more)) (ended_at (entries + 3) (next ∷ more))

abbrev pub lines_in : ChineseWall → List Word → Result (List Entry) ReadFault
lines_in wall [] = Err Cut
lines_in wall (line ∷ []) = Err Cut
lines_in wall (line ∷ next ∷ more) = if bytes_eq line (header_line wall.version)
    then entries_in wall 0 (next ∷ more) else Err (BadLine 1)

-- the entries of a text, or its first line that is not in its form, or `Cut` where it stops before
-- a finished `end` line
unfoldable pub book_in : ChineseWall → List ℕ → Result (List Entry) ReadFault
book_in wall text = lines_in wall (parts 10 text)
