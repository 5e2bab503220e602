-- Devices before and after their use, and devices that are read to their end.
use Rattle.std.specs.Prelude.{◌≡◌, ℕ, ◌+◌, ◌<◌, ◌≤◌, ◌⊎◌, List, length, Option, Some, None}
use Rattle.std.specs.Io.KnownBytes.{Appends}
use Rattle.wall_labels.specs.Known.{AppendsPrefix, AreLeft}
use Rattle.hall_script.specs.declared.device.DeviceFault.{DeviceFault}
use Rattle.hall_script.specs.declared.device.DeviceFault.TheVariants.{Read, NoMemory}

-- A reader or a writer before and after a call. Its type tells how many of its calls failed, and
-- its bytes where they are known: those that a reader still has to give, or that a writer was
-- given.
pub record Used (D : Type 0) : Type 0 where
  pub failures : D → ℕ
  pub bytes : D → Option (List ℕ)
  pub old : D
  pub new : D

abbrev pub used : {D : Type 0} → (D → ℕ) → (D → Option (List ℕ)) → (old new : D) → Used D
used failures bytes old new = record { failures = failures; bytes = bytes; old = old; new = new }

-- its bytes before and after, where they are known
abbrev pub bytes_before : {D : Type 0} → Used D → Option (List ℕ)
bytes_before d = d.bytes d.old

abbrev pub bytes_after : {D : Type 0} → Used D → Option (List ℕ)
bytes_after d = d.bytes d.new

-- it is as it was
abbrev pub IsUntouched : {D : Type 0} → Used D → Type 0
IsUntouched d = d.new ≡ d.old

-- none of its calls failed
abbrev pub NeverFailed : {D : Type 0} → Used D → Type 0
NeverFailed d = d.failures d.new ≡ d.failures d.old

-- one of its calls failed
abbrev pub FailedOnce : {D : Type 0} → Used D → Type 0
FailedOnce d = d.failures d.new ≡ d.failures d.old + 1

-- ---- readers

-- it was read to its end without a failure, and had these bytes to give, within the limit
abbrev pub IsRead : {D : Type 0} → Used D → (limit : ℕ) → List ℕ → Type 0
IsRead d limit bytes = NeverFailed d × AreLeft (bytes_before d) bytes × (length bytes ≤ limit)

-- known bytes are more than the limit
abbrev pub IsTooLong : ℕ → Option (List ℕ) → Type 0
IsTooLong limit None = Unit {0}
IsTooLong limit (Some bytes) = limit < length bytes

-- it failed once, or had more than the limit to give
abbrev pub IsUnreadable : {D : Type 0} → Used D → (limit : ℕ) → Type 0
IsUnreadable d limit = FailedOnce d ⊎ (NeverFailed d × IsTooLong limit (bytes_before d))

-- why it was not read to its end
abbrev pub IsReadFault : {D : Type 0} → Used D → (limit : ℕ) → DeviceFault → Type 0
IsReadFault d limit Read = IsUnreadable d limit
IsReadFault d limit NoMemory = NeverFailed d

-- ---- writers

-- these bytes were written, without a failure
abbrev pub IsWritten : {D : Type 0} → Used D → List ℕ → Type 0
IsWritten d bytes = NeverFailed d × Appends (bytes_before d) (bytes_after d) bytes

-- a prefix of these bytes was written, without a failure
abbrev pub IsBegun : {D : Type 0} → Used D → List ℕ → Type 0
IsBegun d bytes = NeverFailed d × AppendsPrefix (bytes_before d) (bytes_after d) bytes

-- a prefix of these bytes was written, and then it failed once
abbrev pub BrokeOff : {D : Type 0} → Used D → List ℕ → Type 0
BrokeOff d bytes = FailedOnce d × AppendsPrefix (bytes_before d) (bytes_after d) bytes
