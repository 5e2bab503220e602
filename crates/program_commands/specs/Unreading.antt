-- Files that were not read, as people are told of them.
use Rattle.std.specs.Prelude.{◌≡◌, ℕ, List, Option, Some, None}
use Rattle.program_files.specs.declared.cause.Cause.{Cause}
use Rattle.program_commands.specs.declared.ending.Why.{Why}
use Rattle.program_commands.specs.declared.ending.Why.TheVariants.{Failed, LongerThan}
use Rattle.program_commands.specs.declared.ending.Ending.{Ending}
use Rattle.program_commands.specs.declared.ending.Ending.TheVariants.{ReadFault, Unread}

-- why a file was not read: what its reader tells of a read that failed; where it tells of none, the
-- file has more bytes than are read
abbrev pub why_of : Option Cause → (limit : ℕ) → Why
why_of (Some cause) limit = Failed cause
why_of None limit = LongerThan limit

-- the file at this path was not read, and this is why
abbrev pub IsUnread : (path : List ℕ) → Option Cause → (limit : ℕ) → Ending → Type 0
IsUnread path cause limit (Unread named why) = (named.now ≡ path) × (why ≡ why_of cause limit)
IsUnread path cause limit ending = ⊥

-- An ending by a file at this path, as people are told of it: a read fault by the path and its
-- cause, and any other as it is.
abbrev pub IsExplained : (plain : Ending) → (path : List ℕ) → Option Cause → (limit : ℕ) → Ending
    → Type 0
IsExplained ReadFault path cause limit ending = IsUnread path cause limit ending
IsExplained plain path cause limit ending = ending ≡ plain
