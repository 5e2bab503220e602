-- How a replay ends.
use Rattle.std.specs.Prelude.{◌≡◌, ℕ, ◌⊎◌, List, Option, Some, None, Result, Ok, Err}
use Rattle.std.proofs.Common.{inl, inr}
use Rattle.std.specs.Borrow.{MutBor}
use Rattle.wall_policy.specs.Policy.{ChineseWall}
use Rattle.run_model.specs.Books.{book}
use Rattle.run_model.specs.Runs.{Entry, posts}
use Rattle.audit_book.specs.Text.{book_text}
use Rattle.hall_core.specs.Halls.{HallValue, StandsFor}
use Rattle.hall_script.specs.declared.fault.ScriptFault.{ScriptFault}
use Rattle.hall_script.specs.declared.fault.ScriptFault.TheVariants as scripts
use Rattle.hall_script.specs.Devices.{Used, used, IsUntouched}
use Rattle.hall_script.specs.Scripts.{IsReplayed, StopsWith}
use Rattle.program_commands.specs.declared.ending.Ending.{Ending}
use Rattle.program_commands.specs.declared.ending.Ending.TheVariants.{Done, BadLine, ReadFault}
use Rattle.program_commands.specs.declared.ending.Ending.TheVariants.{WriteFault, NoMemory}
use Rattle.program_commands.specs.Endings.{Writes}
use Rattle.program_commands.specs.Walls.{IsPolicyOf, IsNoPolicy}

abbrev pub script_ending : ScriptFault → Ending
script_ending scripts.Read = ReadFault
script_ending (scripts.Line n fault) = BadLine n fault
script_ending scripts.Write = WriteFault
script_ending scripts.NoMemory = NoMemory

-- ---- the book

-- the text of the book of a run
abbrev pub text_of : ChineseWall → List Entry → List ℕ
text_of wall run = book_text wall (book wall (posts run))

-- what an `Option<&mut B>` is at the return
abbrev pub Left : Type 0 → Type 0
Left B = Unit {0} ⊎ ((MutBor B × Unit {0}) ⊎ ⊥)

-- a writer that may be missing
abbrev pub perhaps : {B : Type 0} → (failures : B → ℕ) → (bytes : B → Option (List ℕ))
    → Option (MutBor B) → Left B → Option (Used B)
perhaps failures bytes (Some sink) (inr (inl left)) = Some (used failures bytes sink.now left.0.now)
perhaps failures bytes sink left = None

-- no writer of a book was given
abbrev pub no_book : Option (Used (Unit {0}))
no_book = None

-- no book was looked at
abbrev pub IsUnkept : {B : Type 0} → Option (Used B) → Type 0
IsUnkept None = Unit {0}
IsUnkept (Some book) = IsUntouched book

-- the book of the run was kept, where one was asked for, and it ended so
abbrev pub IsKept : {B : Type 0} → ChineseWall → List Entry → Option (Used B) → Ending → Type 0
IsKept wall run None ending = ending ≡ Done
IsKept wall run (Some book) ending = Writes book (text_of wall run) ending

-- ---- replays

-- How the replay of a script ends: it met a fault, and no book was kept; or all lines were
-- answered, and the book of that very run was kept.
abbrev pub Replays : {S O B : Type 0}
    → ChineseWall → Used S → Used O → Option (Used B) → Ending → Type 0
Replays wall script out book ending =
    ((fault : ScriptFault) × StopsWith wall script out fault
    × (ending ≡ script_ending fault) × IsUnkept book)
    ⊎ ((run : List Entry) × IsReplayed wall script out run × IsKept wall run book ending)

-- How `replay` ends: there is no policy, and no other device was touched; or its script was
-- replayed.
abbrev pub ReplayEnds : {P S O B : Type 0}
    → Used P → Used S → Used O → Option (Used B) → Ending → Type 0
ReplayEnds policy script out book ending =
    (IsNoPolicy policy ending × IsUntouched script × IsUntouched out × IsUnkept book)
    ⊎ ((wall : ChineseWall) × IsPolicyOf policy wall × Replays wall script out book ending)

-- ---- words of private contracts

-- No policy was read, and nothing was touched; or the script was replayed under it, and the hall
-- stands for that run; or it met a fault.
abbrev pub ReplaysIfRead : {S O : Type 0}
    → Result ChineseWall Ending → Used S → Used O → Result HallValue Ending → Type 0
ReplaysIfRead (Err ending) script out hall =
    (hall ≡ Err ending) × IsUntouched script × IsUntouched out
ReplaysIfRead (Ok wall) script out (Ok hall) = (run : List Entry) × (hall.policy ≡ wall)
    × StandsFor hall run × IsReplayed wall script out run
ReplaysIfRead (Ok wall) script out (Err ending) = (fault : ScriptFault)
    × StopsWith wall script out fault × (ending ≡ script_ending fault)

-- how it ends by a hall of which no book is asked for, or by why there is none
abbrev pub ending_of : Result HallValue Ending → Ending
ending_of (Ok hall) = Done
ending_of (Err ending) = ending

-- The book of any run that the hall stands for was kept, where one was asked for; or there is no
-- hall, no book was kept, and it ended as it had.
abbrev pub KeepsIfRan : {B : Type 0} → Result HallValue Ending → Option (Used B) → Ending → Type 0
KeepsIfRan (Ok hall) book ending =
    (run : List Entry) → StandsFor hall run → IsKept hall.policy run book ending
KeepsIfRan (Err before) book ending = (ending ≡ before) × IsUnkept book
