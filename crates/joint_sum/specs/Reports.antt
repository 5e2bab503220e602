-- The text of a run. (Own rule.)
use Rattle.std.specs.Prelude.{◌≡◌, ℕ, zero, suc, List, [], ◌++◌, length, slice_get, codes, decimal}
use Rattle.std.specs.Prelude.{Option, Some, None, Result, Ok, Err}
use Rattle.std.specs.List.{All}
use Rattle.std.specs.Global.{Vec}
use Rattle.anyhow.specs.declared.error.Error.{Error}
use Rattle.wall_policy.specs.Policy.{ChineseWall}
use Rattle.run_model.specs.Books.{book, IsSound}
use Rattle.run_model.specs.Replies.{Legal}
use Rattle.run_model.specs.Runs.{Entry, posts}
use Rattle.hall_turn.specs.Known.{Known}
use Rattle.hall_turn.specs.Ending.{HasMade}

-- the line of a sound book of so many entries
abbrev pub audit_text : (entries : ℕ) → List ℕ
audit_text entries = codes "book: sound, " ++ decimal entries ++ codes " entries\n"

abbrev pub lines_if_any : Option (Result (Vec ℕ) Error) → Option (List ℕ)
lines_if_any None = None
lines_if_any (Some (Err fault)) = None
lines_if_any (Some (Ok lines)) = Some lines.items

-- the lines that a process gave back; there are none if it stopped before its end
abbrev pub lines_of : List (Result (Vec ℕ) Error) → (process : ℕ) → Option (List ℕ)
lines_of told process = lines_if_any (slice_get told process)

-- the text has, of so many processes from the first on, the name of each and what it gave back
abbrev pub TellsFirst : ChineseWall → List (Result (Vec ℕ) Error) → (number : ℕ) → (text : List ℕ)
    → Type 0
TellsFirst wall told zero text = text ≡ []
TellsFirst wall told (suc process) text =
    (before name lines : List ℕ) × TellsFirst wall told process before
    × (slice_get wall.process_names process ≡ Some name) × (lines_of told process ≡ Some lines)
    × (text ≡ before ++ name ++ codes ":\n" ++ lines)

-- the text has what all processes gave back, and then the line of a book of so many entries
abbrev pub IsReport : ChineseWall → List (Result (Vec ℕ) Error) → (entries : ℕ) → (text : List ℕ)
    → Type 0
IsReport wall told entries text =
    (lines : List ℕ) × TellsFirst wall told (length wall.process_names) lines
    × (text ≡ lines ++ audit_text entries)

-- The text is a report of what was given back, and of a sound book: that of a legal run, which
-- begins with what each of the passes has seen.
abbrev pub IsReportOfRun : ChineseWall → List Known → List (Result (Vec ℕ) Error) → (text : List ℕ)
    → Type 0
IsReportOfRun wall passes told text =
    (run : List Entry) × Legal wall run × All (HasMade run) passes
    × IsSound wall (book wall (posts run))
    × IsReport wall told (length (book wall (posts run))) text

-- the text is such a report, of some passes
abbrev pub IsSomeReport : ChineseWall → (text : List ℕ) → Type 0
IsSomeReport wall text = (passes : List Known) × (told : List (Result (Vec ℕ) Error))
    × IsReportOfRun wall passes told text
