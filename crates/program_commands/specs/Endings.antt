-- How the program ends: the status and the line on standard error. (Own format.)
use Rattle.std.specs.Prelude.{◌≡◌, ℕ, ◌⊎◌, List, [], ◌++◌, codes}
use Rattle.std.specs.Fmt.{decimal}
use Rattle.hall_script.specs.Devices.{Used, IsWritten, IsBegun, BrokeOff}
use Rattle.wall_policy.specs.declared.fault.PolicyFault.{PolicyFault}
use Rattle.wall_policy.specs.declared.fault.PolicyFault.TheVariants as policies
use Rattle.coll_text.specs.declared.fault.LineFault.{LineFault}
use Rattle.coll_text.specs.declared.fault.LineFault.TheVariants as lines
use Rattle.program_files.specs.declared.cause.Cause.{Cause}
use Rattle.program_files.specs.declared.cause.Cause.TheVariants as causes
use Rattle.program_commands.specs.declared.ending.Why.{Why}
use Rattle.program_commands.specs.declared.ending.Why.TheVariants.{Failed, LongerThan}
use Rattle.program_commands.specs.declared.ending.EarlierFault.{EarlierFault}
use Rattle.program_commands.specs.declared.ending.EarlierFault.TheVariants as earlier
use Rattle.program_commands.specs.declared.ending.Ending.{Ending}
use Rattle.program_commands.specs.declared.ending.Ending.TheVariants.{Done, BadPolicy, BadLine}
use Rattle.program_commands.specs.declared.ending.Ending.TheVariants.{BadBookLine, CutBook, Unsound}
use Rattle.program_commands.specs.declared.ending.Ending.TheVariants.{BadEarlier}
use Rattle.program_commands.specs.declared.ending.Ending.TheVariants.{ReadFault, WriteFault}
use Rattle.program_commands.specs.declared.ending.Ending.TheVariants.{Unread}
use Rattle.program_commands.specs.declared.ending.Ending.TheVariants.{NoThread}
use Rattle.program_commands.specs.declared.ending.Ending.TheVariants.{Exhausted, NoMemory}
use Rattle.program_commands.specs.declared.ending.Ending.TheVariants.{BadArguments}

abbrev pub status_of : Ending → ℕ
status_of Done = 0
status_of (BadPolicy fault) = 1
status_of (BadLine n fault) = 2
status_of (BadBookLine n) = 2
status_of CutBook = 2
status_of (Unsound n) = 2
status_of (BadEarlier path fault) = 2
status_of ReadFault = 3
status_of (Unread path why) = 3
status_of WriteFault = 3
status_of NoThread = 4
status_of Exhausted = 4
status_of NoMemory = 4
status_of BadArguments = 5

-- a fault's name, and the end of the line
abbrev pub policy_fault_text : PolicyFault → List ℕ
policy_fault_text policies.NotToml = codes "NotToml\n"
policy_fault_text policies.BadVersion = codes "BadVersion\n"
policy_fault_text policies.MissingKey = codes "MissingKey\n"
policy_fault_text policies.UnknownKey = codes "UnknownKey\n"
policy_fault_text policies.BadName = codes "BadName\n"
policy_fault_text policies.DuplicateName = codes "DuplicateName\n"
policy_fault_text policies.UnknownDataset = codes "UnknownDataset\n"
policy_fault_text policies.BadOp = codes "BadOp\n"
policy_fault_text policies.BadLeast = codes "BadLeast\n"
policy_fault_text policies.TooMany = codes "TooMany\n"
policy_fault_text policies.NoMemory = codes "NoMemory\n"

abbrev pub line_fault_text : LineFault → List ℕ
line_fault_text lines.BadVerb = codes "BadVerb\n"
line_fault_text lines.BadShape = codes "BadShape\n"
line_fault_text lines.BadField = codes "BadField\n"
line_fault_text lines.BadKind = codes "BadKind\n"
line_fault_text lines.BadType = codes "BadType\n"
line_fault_text lines.UnknownOp = codes "UnknownOp\n"
line_fault_text lines.BadLabel = codes "BadLabel\n"
line_fault_text lines.BadNumber = codes "BadNumber\n"
line_fault_text lines.OddPair = codes "OddPair\n"
line_fault_text lines.NoMemory = codes "NoMemory\n"

-- the words, the number, and the end of the line
abbrev pub numbered_line : List ℕ → ℕ → List ℕ
numbered_line words n = words ++ (decimal n ++ codes "\n")

-- what is wrong with an earlier book, behind its path
abbrev pub earlier_fault_text : EarlierFault → List ℕ
earlier_fault_text (earlier.BadLine n) = numbered_line (codes ": line ") n
earlier_fault_text earlier.Cut = codes ": cut\n"
earlier_fault_text (earlier.Unsound n) = numbered_line (codes ": unsound at entry ") n

-- why a read failed, behind the path of its file
abbrev pub cause_text : Cause → List ℕ
cause_text causes.NoFile = codes ": no such file\n"
cause_text causes.Denied = codes ": permission denied\n"
cause_text causes.Folder = codes ": is a directory\n"
cause_text causes.Other = codes ": the read failed\n"

-- why a file was not read, behind its path
abbrev pub why_text : Why → List ℕ
why_text (Failed cause) = cause_text cause
why_text (LongerThan most) = (codes ": longer than " ++ decimal most) ++ codes " bytes\n"

-- the line on standard error, none where all was done, nor where a book was read and is unsound
abbrev pub error_line : Ending → List ℕ
error_line Done = []
error_line (BadPolicy fault) = codes "policy: " ++ policy_fault_text fault
error_line (BadLine n fault) =
    (codes "script: line " ++ decimal n) ++ (codes ": " ++ line_fault_text fault)
error_line (BadBookLine n) = numbered_line (codes "book: line ") n
error_line CutBook = codes "book: cut\n"
error_line (Unsound n) = []
error_line (BadEarlier path fault) =
    (codes "after " ++ path.now) ++ earlier_fault_text fault
error_line ReadFault = codes "read fault\n"
error_line (Unread path why) = (codes "cannot read " ++ path.now) ++ why_text why
error_line WriteFault = codes "write fault\n"
error_line NoThread = codes "no thread\n"
error_line Exhausted = codes "exhausted\n"
error_line NoMemory = codes "out of memory\n"
error_line BadArguments = codes "bad arguments\n"

-- ---- what is written

-- the line was written, or the writer failed behind a prefix of it
abbrev pub IsTold : {E : Type 0} → Used E → List ℕ → Type 0
IsTold err line = IsWritten err line ⊎ BrokeOff err line

-- the bytes were written; or the writer failed, or memory ran out, behind a prefix of them
abbrev pub Writes : {W : Type 0} → Used W → List ℕ → Ending → Type 0
Writes writer bytes Done = IsWritten writer bytes
Writes writer bytes WriteFault = BrokeOff writer bytes
Writes writer bytes NoMemory = IsBegun writer bytes
Writes writer bytes ending = ⊥

-- the whole text was written, and that is all; or the writer failed behind a prefix of it
abbrev pub WritesAll : {W : Type 0} → List ℕ → Used W → Ending → Type 0
WritesAll text writer ending =
    (IsWritten writer text × (ending ≡ Done)) ⊎ (BrokeOff writer text × (ending ≡ WriteFault))

-- it ended so, with this status, and with the ending's line on standard error
abbrev pub EndsSo : {E : Type 0} → (Ending → Type 0) → Used E → (status : ℕ) → Type 0
EndsSo happens err status =
    (ending : Ending) × happens ending × (status ≡ status_of ending)
    × IsTold err (error_line ending)
