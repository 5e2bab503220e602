-- Why a book was not written.
use Rattle.std.specs.Prelude.{◌≡◌, ℕ, ◌+◌}
use Rattle.audit_book.specs.declared.fault.WriteFault.{WriteFault}
use Rattle.audit_book.specs.declared.fault.WriteFault.TheVariants.{Write, NoMemory}

-- why a book was not written, by the writer's failures before and after
abbrev pub IsWriteFault : WriteFault → (old new : ℕ) → Type 0
IsWriteFault Write old new = new ≡ old + 1
IsWriteFault NoMemory old new = new ≡ old
