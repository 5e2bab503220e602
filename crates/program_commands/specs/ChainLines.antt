-- How a chain is told that is refused: its line on standard error, and the status. (Own format.)
use Rattle.std.specs.Prelude.{◌≡◌, ◌<◌, ℕ, List, [], ◌++◌, length, codes, Option, Some, None, slice_get}
use Rattle.std.specs.Fmt.{decimal}
use Rattle.wall_policy.specs.Policy.{ChineseWall}
use Rattle.wall_policy.specs.declared.growth.GrowthFault.{GrowthFault}
use Rattle.wall_policy.specs.declared.growth.GrowthFault.TheVariants as growths
use Rattle.chain_file.specs.declared.fault.ChainFault.{ChainFault}
use Rattle.chain_file.specs.declared.fault.ChainFault.TheVariants as files
use Rattle.book_stream.specs.declared.fault.AuditFault.{AuditFault}
use Rattle.book_stream.specs.declared.fault.AuditFault.TheVariants as audits
use Rattle.chain_runs.specs.declared.fault.RunFault.{RunFault}
use Rattle.chain_runs.specs.declared.fault.RunFault.TheVariants as runs
use Rattle.chain_runs.specs.declared.runs.Broken.{Broken}
use Rattle.program_commands.specs.declared.ending.Ending.TheVariants.{BadPolicy, ReadFault, NoMemory}
use Rattle.program_commands.specs.Endings.{policy_fault_text, error_line, status_of}

-- ---- a file that is none

abbrev pub file_line : ChainFault → List ℕ
file_line (files.BadLine n) = codes "chain: line " ++ (decimal n ++ codes "\n")
file_line (files.BadHead n) = codes "chain: line " ++ (decimal n ++ codes ": head is not due\n")
file_line files.Cut = codes "chain: cut\n"
file_line files.NoMemory = codes "out of memory\n"

abbrev pub bad_file_status : ChainFault → ℕ
bad_file_status files.NoMemory = 4
bad_file_status fault = 2

-- ---- a run that has not ended

abbrev pub open_line : (number : ℕ) → List ℕ
open_line n = codes "chain: run " ++ (decimal n ++ codes " has not ended\n")

-- ---- a run that does not stand

-- what is not kept has a name in the policy before
abbrev pub IsNamed : ChineseWall → GrowthFault → Type 0
IsNamed after (growths.Process p) = p < length after.process_names
IsNamed after (growths.Home p) = p < length after.process_names
IsNamed after (growths.Class c) = c < length after.class_names
IsNamed after (growths.Dataset d) = d < length after.dataset_names
IsNamed after (growths.Moved d) = d < length after.dataset_names
IsNamed after growths.NoMemory = Unit {0}

abbrev pub or_nothing : Option (List ℕ) → List ℕ
or_nothing (Some name) = name
or_nothing None = []

-- its name there
abbrev pub name_in : ChineseWall → GrowthFault → List ℕ
name_in after (growths.Process p) = or_nothing (slice_get after.process_names p)
name_in after (growths.Home p) = or_nothing (slice_get after.process_names p)
name_in after (growths.Class c) = or_nothing (slice_get after.class_names c)
name_in after (growths.Dataset d) = or_nothing (slice_get after.dataset_names d)
name_in after (growths.Moved d) = or_nothing (slice_get after.dataset_names d)
name_in after growths.NoMemory = []

abbrev pub named : (after : Option ChineseWall) → GrowthFault → List ℕ
named None fault = []
named (Some after) fault = name_in after fault

abbrev pub growth_words : GrowthFault → List ℕ
growth_words (growths.Process p) = codes ": policy: process "
growth_words (growths.Home p) = codes ": policy: process "
growth_words (growths.Class c) = codes ": policy: class "
growth_words (growths.Dataset d) = codes ": policy: dataset "
growth_words (growths.Moved d) = codes ": policy: dataset "
growth_words growths.NoMemory = codes ": policy: "

abbrev pub growth_end : GrowthFault → List ℕ
growth_end (growths.Process p) = codes ": is another, or gone\n"
growth_end (growths.Home p) = codes ": has another home\n"
growth_end (growths.Class c) = codes ": is gone\n"
growth_end (growths.Dataset d) = codes ": is gone\n"
growth_end (growths.Moved d) = codes ": is in another class\n"
growth_end growths.NoMemory = codes ": out of memory\n"

abbrev pub book_text : AuditFault → List ℕ
book_text (audits.BadLine n) = codes ": book: line " ++ (decimal n ++ codes "\n")
book_text (audits.LongLine n) = codes ": book: line " ++ (decimal n ++ codes "\n")
book_text audits.Cut = codes ": book: cut\n"
book_text (audits.BadEntry n) = codes ": book: unsound at entry " ++ (decimal n ++ codes "\n")
book_text audits.TooMany = codes ": book: exhausted\n"
book_text audits.Read = codes ": book: read fault\n"
book_text audits.NoMemory = codes ": book: out of memory\n"

-- what stands behind the number of a run; what is not kept, by its name in the policy before
abbrev pub run_text : (after : Option ChineseWall) → RunFault → List ℕ
run_text after runs.UnreadPolicy = codes ": policy: read fault\n"
run_text after runs.OtherPolicy = codes ": another policy\n"
run_text after (runs.BadPolicy fault) = codes ": policy: " ++ policy_fault_text fault
run_text after (runs.NotGrown fault) =
    growth_words fault ++ (named after fault ++ growth_end fault)
run_text after (runs.BadBook fault) = book_text fault
run_text after runs.OtherBook = codes ": another book\n"
run_text after runs.TooMany = codes ": exhausted\n"
run_text after runs.NoMemory = codes ": out of memory\n"

abbrev pub broken_line : Broken → List ℕ
broken_line broken =
    (codes "chain: run " ++ decimal broken.number) ++ run_text broken.after broken.fault

abbrev pub broken_status : RunFault → ℕ
broken_status (runs.BadBook audits.TooMany) = 4
broken_status runs.TooMany = 4
broken_status runs.NoMemory = 4
broken_status fault = 2

-- ---- the next run

-- What is told of the next run, whose policy is refused: as where there is no chain, but for a
-- policy that has not grown.
abbrev pub next_line : (after : Option ChineseWall) → RunFault → List ℕ
next_line after runs.UnreadPolicy = error_line ReadFault
next_line after (runs.BadPolicy fault) = error_line (BadPolicy fault)
next_line after runs.NoMemory = error_line NoMemory
next_line after fault = codes "chain: next run" ++ run_text after fault

abbrev pub next_status : RunFault → ℕ
next_status runs.UnreadPolicy = status_of ReadFault
next_status (runs.BadPolicy fault) = status_of (BadPolicy fault)
next_status (runs.NotGrown fault) = 1
next_status fault = broken_status fault

-- ---- a chain of which no run is under way

abbrev pub without_run : List ℕ
without_run = codes "chain: no run is under way\n"

-- what has not grown is named in the policy before
abbrev pub HasName : (after : Option ChineseWall) → RunFault → Type 0
HasName after (runs.NotGrown fault) =
    (wall : ChineseWall) × (after ≡ Some wall) × IsNamed wall fault
HasName after fault = Unit {0}

abbrev pub CanBeTold : Broken → Type 0
CanBeTold broken = HasName broken.after broken.fault
