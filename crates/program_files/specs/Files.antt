-- Devices over files that are opened at their first use.
use Rattle.std.specs.Prelude.{◌≡◌, ℕ, ◌<◌, List, length, Option, Some, None, IsSome, Bool}
use Rattle.std.specs.Prelude.{if◌then◌else◌, Result, Ok, OnOk, OnErr}
use Rattle.wall_labels.specs.declared.device.Failed.{Failed}
use Rattle.program_files.specs.declared.cause.Cause.{Cause}

-- the known bytes of a file that may be opened
abbrev pub bytes_of : {F : Type 0} → (F → Option (List ℕ)) → Option F → Option (List ℕ)
bytes_of bytes None = None
bytes_of bytes (Some file) = bytes file

-- the failures of a device that fails at most once
abbrev pub failed_once : (has_failed : Bool) → ℕ
failed_once has_failed = if has_failed then 1 else 0

-- the file is open where the call went well, and an open one stays so
abbrev pub IsOpened : {F T E : Type 0} → (old new : Option F) → Result T E → Type 0
IsOpened old new result = OnOk result (IsSome new) × (IsSome old → IsSome new)

-- The file is made where some bytes were taken, and one that is made stays so. A write of no bytes
-- does nothing.
pub record IsMadeForBytes {F : Type 0} (old new : Option F) (given : List ℕ)
    (result : Result ℕ Failed) : Type 0 where
  pub made : OnOk result (0 < length given → IsSome new)
  pub stays : IsSome old → IsSome new
  pub nothing : length given ≡ 0 → (result ≡ Ok 0) × (new ≡ old)

-- why it failed is told where it failed, and nothing else is
abbrev pub TellsCause : {T : Type 0} → (old new : Option Cause) → Result T Failed → Type 0
TellsCause old new result = OnOk result (new ≡ old) × OnErr result (IsSome new)
