-- How a check ends.
use Rattle.std.specs.Prelude.{◌≡◌, ℕ, ◌<◌, ◌⊎◌, List, [], ◌++◌, length, Ok, Err}
use Rattle.std.specs.Prelude.{Option, Some, None}
use Rattle.wall_policy.specs.declared.fault.PolicyFault.{PolicyFault}
use Rattle.wall_policy.specs.Policy.{ChineseWall}
use Rattle.wall_policy.specs.Answer.{answer_to}
use Rattle.policy_places.specs.declared.place.Found.{Found}
use Rattle.policy_places.specs.declared.place.Place.{Place}
use Rattle.policy_places.specs.Places.{IsPlace}
use Rattle.policy_places.specs.Named.{named_at}
use Rattle.program_files.specs.declared.cause.Cause.{Cause}
use Rattle.coll_text.specs.declared.fault.LineFault.{LineFault}
use Rattle.book_places.specs.declared.place.Found.{Found as BookFound}
use Rattle.book_places.specs.declared.place.Found.TheVariants as books
use Rattle.book_places.specs.Books.{IsFoundIn}
use Rattle.book_places.specs.Sentences.{found_line}
use Rattle.meaning_text.specs.Sentences.{IsMeaning}
use Rattle.check_text.specs.declared.faults.ScriptFaults.{ScriptFaults}
use Rattle.check_text.specs.Lines.{AreLines}
use Rattle.check_text.specs.Policies.{policy_line, absent_line, long_line}
use Rattle.hall_script.specs.Devices.{Used, used, IsUntouched, NeverFailed, IsRead}
use Rattle.hall_script.specs.Devices.{IsUnreadable, IsWritten, BrokeOff}
use Rattle.hall_script.specs.Scripts.{script_limit}
use Rattle.program_commands.specs.declared.ending.Ending.{Ending}
use Rattle.program_commands.specs.declared.ending.Ending.TheVariants.{Done, BadPolicy, BadLine}
use Rattle.program_commands.specs.declared.ending.Ending.TheVariants.{BadBookLine, CutBook, Unsound}
use Rattle.program_commands.specs.declared.ending.Ending.TheVariants.{WriteFault, NoMemory}
use Rattle.program_commands.specs.Unreading.{IsUnread}
use Rattle.program_commands.specs.Auditing.{book_limit}
use Rattle.program_commands.specs.Earlier.{EarlierBooks, IsPolicyAfter, IsBrokenTold}

-- the first of two that is at fault
abbrev pub first_ending : Ending → Ending → Ending
first_ending Done second = second
first_ending first second = first

-- nothing is told, and it ends so
abbrev pub TellsNone : (how : Ending) → (text : List ℕ) → Ending → Type 0
TellsNone how text ending = (text ≡ []) × (ending ≡ how)

-- nothing is told of the file at this path, which was not read
abbrev pub TellsUnread : (path : List ℕ) → Option Cause → (limit : ℕ) → (text : List ℕ) → Ending
    → Type 0
TellsUnread path cause limit text ending = (text ≡ []) × IsUnread path cause limit ending

-- ---- what is told of each file

-- what a policy means, or memory ran out
abbrev pub TellsMeaning : ChineseWall → (text : List ℕ) → Ending → Type 0
TellsMeaning wall text ending =
    (IsMeaning wall text × (ending ≡ Done)) ⊎ TellsNone NoMemory text ending

-- how it ends by the first line of a script that is at fault
abbrev pub script_ending : Option (ℕ × LineFault) → Ending
script_ending None = Done
script_ending (Some first) = BadLine first.0 first.1

-- the lines of a script that are no calls, or of processes that there are not, or memory ran out
abbrev pub TellsLines : ChineseWall → (path script text : List ℕ) → Ending → Type 0
TellsLines wall path script text ending =
    ((said : ScriptFaults) × AreLines wall path script said
    × (text ≡ said.text.items) × (ending ≡ script_ending said.first))
    ⊎ TellsNone NoMemory text ending

-- It was read, and this is told of it; or it was not read, and its reader tells this cause.
abbrev pub TellsScript : {S : Type 0} → ChineseWall → (path : List ℕ) → Used S → Option Cause
    → (text : List ℕ) → Ending → Type 0
TellsScript wall path script cause text ending =
    ((bytes : List ℕ) × IsRead script script_limit bytes
    × TellsLines wall path bytes text ending)
    ⊎ (IsUnreadable script script_limit × TellsUnread path cause script_limit text ending)
    ⊎ (NeverFailed script × TellsNone NoMemory text ending)

-- how it ends by what is found of a book
abbrev pub found_ending : BookFound → Ending
found_ending (books.Sound entries) = Done
found_ending (books.Line n due) = BadBookLine n
found_ending books.Cut = CutBook
found_ending (books.Entry n line stands owed) = Unsound n

-- what is found of the text of a book, or memory ran out
abbrev pub TellsFound : ChineseWall → (path book text : List ℕ) → Ending → Type 0
TellsFound wall path book text ending =
    ((found : BookFound) × IsFoundIn wall book found
    × (text ≡ found_line wall path found) × (ending ≡ found_ending found))
    ⊎ TellsNone NoMemory text ending

-- It was read, and this is told of it; or it was not read, and its reader tells this cause.
abbrev pub TellsBook : {B : Type 0} → ChineseWall → (path : List ℕ) → Used B → Option Cause
    → (text : List ℕ) → Ending → Type 0
TellsBook wall path book cause text ending =
    ((bytes : List ℕ) × IsRead book book_limit bytes × TellsFound wall path bytes text ending)
    ⊎ (IsUnreadable book book_limit × TellsUnread path cause book_limit text ending)
    ⊎ (NeverFailed book × TellsNone NoMemory text ending)

-- A reader, if there is one, as it is given; it is let go after its use.
pub record IfAny (D : Type 0) : Type 0 where
  pub failures : D → ℕ
  pub bytes : D → Option (List ℕ)
  -- why its last read that failed did so
  pub cause : D → Option Cause
  pub device : Option D

abbrev pub if_any : {D : Type 0} → (D → ℕ) → (D → Option (List ℕ)) → (D → Option Cause)
    → Option D → IfAny D
if_any failures bytes cause device =
    record { failures = failures; bytes = bytes; cause = cause; device = device }

-- what is told of a reader that was used, or, where there is none, nothing
abbrev pub Tells : {D : Type 0} → (D → ℕ) → (D → Option (List ℕ)) → (D → Option Cause)
    → (Used D → Option Cause → Type 0) → (none : Type 0) → Option D → Type 0
Tells failures bytes cause told none None = none
Tells {D} failures bytes cause told none (Some device) =
    (left : D) × told (used failures bytes device left) (cause left)

abbrev pub TellsScriptIfAny : {S : Type 0}
    → ChineseWall → (path : List ℕ) → IfAny S → (text : List ℕ) → Ending → Type 0
TellsScriptIfAny wall path script text ending = Tells script.failures script.bytes script.cause
    (λ device cause. TellsScript wall path device cause text ending) (TellsNone Done text ending)
    script.device

-- The book, if there is one, and the earlier ones that it goes on after.
pub record BookAfter (D B : Type 0) : Type 0 where
  -- why the last read of an earlier book that failed did so
  pub causes : D → Option Cause
  pub earlier : EarlierBooks D
  pub book : IfAny B

abbrev pub book_after : {D B : Type 0} → (D → Option Cause) → EarlierBooks D → IfAny B
    → BookAfter D B
book_after causes earlier book = record { causes = causes; earlier = earlier; book = book }

-- This is told of the book under the policy after the earlier ones. Or one of these gives none, and
-- this is why: the book is not looked at, and nothing is told of it.
abbrev pub TellsBookAfter : {D B : Type 0} → (first : ChineseWall) → (D → Option Cause)
    → EarlierBooks D → (path : List ℕ) → Used B → Option Cause → (text : List ℕ) → Ending → Type 0
TellsBookAfter first causes earlier path book cause text ending =
    ((wall : ChineseWall) × IsPolicyAfter first earlier wall
    × TellsBook wall path book cause text ending)
    ⊎ (IsBrokenTold first causes earlier ending × (text ≡ []) × IsUntouched book)

abbrev pub TellsBookIfAny : {D B : Type 0}
    → ChineseWall → (path : List ℕ) → BookAfter D B → (text : List ℕ) → Ending → Type 0
TellsBookIfAny wall path after text ending =
    let book = after.book in
    Tells book.failures book.bytes book.cause
    (λ device cause.
    TellsBookAfter wall after.causes after.earlier path device cause text ending)
    (TellsNone Done text ending) book.device

-- ---- the command

-- What is told of policy, script and book, one behind the other; it ends by the first of them that
-- is at fault.
pub record IsChecked {S D B : Type 0} (wall : ChineseWall) (path : List ℕ) (script : IfAny S)
    (book_path : List ℕ) (book : BookAfter D B) (text : List ℕ) (ending : Ending)
    : Type 0 where
  pub meaning : List ℕ
  pub lines : List ℕ
  pub found : List ℕ
  pub of_policy : Ending
  pub of_script : Ending
  pub of_book : Ending
  pub by_policy : TellsMeaning wall meaning of_policy
  pub by_script : TellsScriptIfAny wall path script lines of_script
  pub by_book : TellsBookIfAny wall book_path book found of_book
  pub whole : text ≡ meaning ++ (lines ++ found)
  pub first : ending ≡ first_ending of_policy (first_ending of_script of_book)

-- all that there is to tell was written, or the writer failed behind a prefix of it
abbrev pub Checks : {S D B O : Type 0} → ChineseWall → (path book_path : List ℕ) → IfAny S
    → BookAfter D B → Used O → Ending → Type 0
Checks wall path book_path script book out ending =
    (text : List ℕ) × (due : Ending) × IsChecked wall path script book_path book text due
    × ((IsWritten out text × (ending ≡ due)) ⊎ (BrokeOff out text × (ending ≡ WriteFault)))

-- the line of a fault was told, or memory ran out
abbrev pub TellsLine : {O : Type 0} → (line : List ℕ) → PolicyFault → Used O → Ending → Type 0
TellsLine line fault out ending =
    (IsWritten out line × (ending ≡ BadPolicy fault))
    ⊎ (BrokeOff out line × (ending ≡ WriteFault))
    ⊎ ((ending ≡ NoMemory) × IsUntouched out)

-- the line of a fault was told, with what is named there; or, where it stands on none, what the
-- file lacks
abbrev pub TellsPlace : {O : Type 0} → (path text : List ℕ) → PolicyFault → Option Found → Used O
    → Ending → Type 0
TellsPlace path text fault None out ending = TellsLine (absent_line path fault) fault out ending
TellsPlace path text fault (Some found) out ending =
    TellsLine (policy_line path found (named_at text found)) fault out ending

-- the most bytes of a policy for whose fault a line is looked for
abbrev pub place_limit : ℕ
place_limit = 262144

-- The place of the fault was told; or that it is not looked for in a long text; or memory ran out.
abbrev pub TellsRefused : {O : Type 0} → (path text : List ℕ) → PolicyFault → Used O → Ending
    → Type 0
TellsRefused path text fault out ending =
    ((place : Place) × IsPlace text place
    × TellsPlace path text place.fault place.found out ending)
    ⊎ ((place_limit < length text)
    × TellsLine (long_line path place_limit) fault out ending)
    ⊎ ((ending ≡ NoMemory) × IsUntouched out)

-- The text is a policy, and script and book were checked under it; or it is none, and that was
-- told; or memory ran out.
abbrev pub ChecksText : {S D B O : Type 0} → (text policy_path path book_path : List ℕ) → IfAny S
    → BookAfter D B → Used O → Ending → Type 0
ChecksText text policy_path path book_path script book out ending =
    ((wall : ChineseWall) × (answer_to text ≡ Ok wall)
    × Checks wall path book_path script book out ending)
    ⊎ ((fault : PolicyFault) × (answer_to text ≡ Err fault)
    × TellsRefused policy_path text fault out ending)
    ⊎ ((ending ≡ NoMemory) × IsUntouched out)

-- no policy was read from the file at this path, and this is why
abbrev pub IsNoText : {P : Type 0} → (path : List ℕ) → Used P → Option Cause → Ending → Type 0
IsNoText path policy cause NoMemory = NeverFailed policy
IsNoText path policy cause ending =
    IsUnreadable policy script_limit × IsUnread path cause script_limit ending

-- How `check` ends: no policy was read, and nothing was written; or its text was judged, and script
-- and book were checked under it, as far as there are any, the book under the policy after the
-- earlier ones.
abbrev pub CheckEnds : {P S D B O : Type 0} → (policy_path path book_path : List ℕ) → Used P
    → Option Cause → IfAny S → BookAfter D B → Used O → Ending → Type 0
CheckEnds policy_path path book_path policy cause script book out ending =
    (IsNoText policy_path policy cause ending × IsUntouched out)
    ⊎ ((text : List ℕ) × IsRead policy script_limit text
    × ChecksText text policy_path path book_path script book out ending)
