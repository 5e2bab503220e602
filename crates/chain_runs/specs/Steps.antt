-- Words of private contracts: the book of a run.
use Rattle.std.specs.Prelude.{◌≡◌, ◌≢◌, ℕ, List, Err}
use Rattle.wall_policy.specs.Policy.{ChineseWall}
use Rattle.hall_script.specs.Devices.{Used, NeverFailed}
use Rattle.book_stream.specs.declared.pass.Passed.{Passed}
use Rattle.book_stream.specs.declared.fault.AuditFault.TheVariants as audits
use Rattle.book_stream.specs.Audits.{AuditsTo}
use Rattle.book_stream.specs.Passes.{HasPassed}
use Rattle.chain_runs.specs.declared.fault.RunFault.{RunFault}
use Rattle.chain_runs.specs.declared.fault.RunFault.TheVariants.{BadBook, OtherBook, NoMemory}
use Rattle.chain_runs.specs.Faults.{IsOther}

-- it was read and is sound, and has this digest
abbrev pub HasJoined : {B : Type 0} → ChineseWall → Used B → (digest : List ℕ) → Passed → Type 0
HasJoined wall book digest passed = HasPassed wall book passed × (passed.digest ≡ digest)

abbrev pub IsNotJoined : {B : Type 0} → ChineseWall → Used B → (digest : List ℕ) → RunFault → Type 0
IsNotJoined wall book digest (BadBook fault) =
    AuditsTo wall book (Err fault) × (fault ≢ audits.NoMemory)
IsNotJoined wall book digest OtherBook = IsOther wall book digest
IsNotJoined wall book digest NoMemory = NeverFailed book
IsNotJoined wall book digest fault = ⊥
