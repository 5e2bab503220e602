-- How the seal of a book that was cut ends.
use Rattle.std.specs.Prelude.{◌≡◌, ℕ, ◌⊎◌, List, codes}
use Rattle.wall_policy.specs.Policy.{ChineseWall}
use Rattle.seal_stream.specs.declared.stop.SealStop.{SealStop}
use Rattle.seal_stream.specs.declared.stop.SealStop.TheVariants as stops
use Rattle.seal_stream.specs.Seals.{IsSealedTo, IsStopped}
use Rattle.hall_script.specs.Devices.{Used, IsUntouched}
use Rattle.program_commands.specs.declared.audit.Finding.TheVariants as findings
use Rattle.program_commands.specs.declared.ending.Ending.{Ending}
use Rattle.program_commands.specs.declared.ending.Ending.TheVariants.{BadBookLine}
use Rattle.program_commands.specs.declared.ending.Ending.TheVariants.{ReadFault, WriteFault}
use Rattle.program_commands.specs.declared.ending.Ending.TheVariants.{Exhausted, NoMemory}
use Rattle.program_commands.specs.Endings.{WritesAll, numbered_line}
use Rattle.program_commands.specs.Auditing.{Announces}
use Rattle.program_commands.specs.Earlier.{EarlierBooks, IsWallAfter, IsNoWallAfter}

-- ---- a book that has a seal

-- `sealed N`, of a whole book of so many entries
abbrev pub sealed_line : (entries : ℕ) → List ℕ
sealed_line n = numbered_line (codes "sealed ") n

abbrev pub AnnouncesSeal : {O : Type 0} → (entries : ℕ) → Used O → Ending → Type 0
AnnouncesSeal n out ending = WritesAll (sealed_line n) out ending

-- the book was read to its end, its whole seal was written, and then announced with the number of
-- the seal's entries
pub record IsSealed {B W O : Type 0} (wall : ChineseWall) (book : Used B) (sealed : Used W)
    (out : Used O) (ending : Ending) : Type 0 where
  pub entries : ℕ
  pub made : IsSealedTo wall book sealed entries
  pub told : AnnouncesSeal entries out ending

-- ---- a book that was not sealed

-- Why is told as an audit would tell it: a line on standard error, an entry on standard output. One
-- of more bytes than a line may have is told as one that is none.
abbrev pub TellsStop : {O : Type 0} → SealStop → Used O → Ending → Type 0
TellsStop (stops.BadLine n) out ending = (ending ≡ BadBookLine n) × IsUntouched out
TellsStop (stops.LongLine n) out ending = (ending ≡ BadBookLine n) × IsUntouched out
TellsStop (stops.BadEntry n) out ending = Announces (findings.Unsound n) out ending
TellsStop stops.TooMany out ending = (ending ≡ Exhausted) × IsUntouched out
TellsStop stops.Read out ending = (ending ≡ ReadFault) × IsUntouched out
TellsStop stops.Write out ending = (ending ≡ WriteFault) × IsUntouched out
TellsStop stops.NoMemory out ending = (ending ≡ NoMemory) × IsUntouched out

-- No seal was made, and this is why: no sound book begins with the finished lines, or a device
-- failed, or memory ran out, or the book is too long. No more was written than a prefix of those
-- finished lines with which a sound book begins; or, where the writer failed, of the seal.
pub record IsRefused {B W O : Type 0} (wall : ChineseWall) (book : Used B) (sealed : Used W)
    (out : Used O) (ending : Ending) : Type 0 where
  pub stop : SealStop
  pub why : IsStopped wall book sealed stop
  pub told : TellsStop stop out ending

-- ---- the command

-- how the seal of a book ends: it was sealed, or not
abbrev pub Seals : {B W O : Type 0} → ChineseWall → Used B → Used W → Used O → Ending → Type 0
Seals wall book sealed out ending =
    IsSealed wall book sealed out ending ⊎ IsRefused wall book sealed out ending

-- How `seal` ends: there is no policy after the earlier books, and no other device was touched; or
-- its book was sealed under it, or not.
abbrev pub SealEnds : {P D B W O : Type 0}
    → Used P → EarlierBooks D → Used B → Used W → Used O → Ending → Type 0
SealEnds policy earlier book sealed out ending =
    (IsNoWallAfter policy earlier ending × IsUntouched book × IsUntouched sealed × IsUntouched out)
    ⊎ ((wall : ChineseWall) × IsWallAfter policy earlier wall × Seals wall book sealed out ending)
