-- Reports: faults that are told, and reports without a page.
use Rattle.std.proofs.Common.{◌≡◌, inl, inr, ℕ, List, Option, None, sym, ap, ◌∙◌, subst}
use Rattle.std.proofs.Common.{Result, Ok, Err}
use Rattle.std.specs.Prelude.{IfOk, IfErr}
use Rattle.wall_policy.specs.Policy.{ChineseWall}
use Rattle.run_model.specs.declared.entry.Entry.{Entry}
use Rattle.audit_book.specs.declared.check_fault.BookFault.{BookFault}
use Rattle.audit_book.specs.declared.check_fault.BookFault.TheVariants as checks
use Rattle.audit_book.specs.Checks.{IsFaultOf}
use Rattle.program_files.specs.declared.cause.Cause.{Cause}
use Rattle.hall_script.specs.Devices.{Used}
use Rattle.program_commands.specs.declared.ending.Ending.{Ending}
use Rattle.program_commands.specs.declared.report.Reading.{Reading}
use Rattle.program_commands.specs.Auditing.{IsBookOf}
use Rattle.program_commands.specs.Earlier.{EarlierBooks, IsPolicyAfter, IsWallAfter}
use Rattle.program_commands.specs.Earlier.{IsBrokenTold}
use Rattle.program_commands.specs.Unreading.{IsExplained}
use Rattle.program_commands.specs.Replaying.{IsUnkept}
use Rattle.program_commands.specs.Reporting.{ReportsEntries, ReportEnds, TellsFault}
use Rattle.program_commands.specs.Reporting.{IsNoWallTold, IsNoReading, ReportsIfRead}
use Rattle.program_commands.specs.Walls.{IsPolicyOf}

-- a fault of the check of a book is told, and no page is touched
pub told_fault : {O W : Type 0} (wall : ChineseWall) (entries : List Entry) (fault : BookFault)
    (out : Used O) (file : Option (Used W)) (ending : Ending) → IsFaultOf wall entries fault →
    TellsFault fault out ending → IsUnkept file → ReportsEntries wall entries out file ending
told_fault wall entries (checks.BadEntry n) out file ending bad told unkept =
    inr (inl (n, bad, told, unkept))
told_fault wall entries checks.NoMemory out file ending bad told unkept =
    inr (inr (told.0, told.1, unkept))

-- the same path and the same cause
pub explained_so : {D : Type 0} (causes : D → Option Cause) (plain ending : Ending)
    (path named : List ℕ) (left device : D) (cause : Option Cause) (limit : ℕ) → named ≡ path →
    left ≡ device → cause ≡ causes device → IsExplained plain path cause limit ending →
    IsExplained plain named (causes left) limit ending
explained_so causes plain ending path named left device cause limit same is told h =
    subst (λ c. IsExplained plain named c limit ending) (told ∙ ap causes (sym is))
    (subst (λ p. IsExplained plain p cause limit ending) (sym same) h)

-- a policy was read, and this is what comes of the earlier books
pub after_reading : {P D : Type 0} (policy : Used P) (earlier : EarlierBooks D)
    (first : ChineseWall) (answer : Result ChineseWall Ending) → IsPolicyOf policy first →
    IfOk answer (IsPolicyAfter first earlier) → IfOk answer (IsWallAfter policy earlier)
after_reading policy earlier first (Ok wall) read after =
    record { first = first; read = read; goes_on = after }
after_reading policy earlier first (Err ending) read after = after

pub none_after_reading : {P D : Type 0} (path : List ℕ) (cause : Option Cause) (policy : Used P)
    (causes : D → Option Cause) (earlier : EarlierBooks D) (first : ChineseWall)
    (answer : Result ChineseWall Ending) → IsPolicyOf policy first →
    IfErr answer (IsBrokenTold first causes earlier) →
    IfErr answer (IsNoWallTold path cause policy causes earlier)
none_after_reading path cause policy causes earlier first (Ok wall) read broken = broken
none_after_reading path cause policy causes earlier first (Err ending) read broken =
    inr (first, read, broken)

-- a report without a page, whichever kind of writer there is none of
pub unpaged_entries : {O : Type 0} {A B : Type 0} (wall : ChineseWall) (entries : List Entry)
    (out : Used O) (ending : Ending) → ReportsEntries {W = A} wall entries out None ending →
    ReportsEntries {W = B} wall entries out None ending
unpaged_entries wall entries out ending (inl r) = inl (record {
  sound = r.sound;
  keeps = r.keeps;
  text = r.text;
  report = r.report;
  written = r.written;
})
unpaged_entries wall entries out ending (inr other) = inr other

module _ {P D B O : Type 0} (policy_path : List ℕ) (policy_cause : Option Cause) (policy : Used P)
    (causes : D → Option Cause) (earlier : EarlierBooks D) (path : List ℕ)
    (cause : Option Cause) (book : Used B) (out : Used O) (ending : Ending) where
  -- what was read is reported on, or why nothing was read is told
  pub reported : {W : Type 0} (file : Option (Used W)) (reading : Result Reading Ending) →
      IfOk reading (λ r. IsWallAfter policy earlier r.wall) →
      IfOk reading (λ r. IsBookOf r.wall book r.entries.list) →
      IfErr reading
      (IsNoReading policy_path policy_cause policy causes earlier path cause book) →
      ReportsIfRead reading out file ending →
      ReportEnds policy_path policy_cause policy causes earlier path cause book out file ending
  reported file (Ok r) wall entries none so = inr (r.wall, wall, (r.entries.list, entries, so))
  reported file (Err before) wall entries none so = inl (
    subst (IsNoReading policy_path policy_cause policy causes earlier path cause book) (sym so.0)
        none,
    so.1,
    so.2,
  )

  pub unpaged : {A W : Type 0} →
      ReportEnds {W = A} policy_path policy_cause policy causes earlier path cause book out None
      ending →
      ReportEnds {W = W} policy_path policy_cause policy causes earlier path cause book out None
      ending
  unpaged (inl unread) = inl unread
  unpaged {A = A} {W = W} (inr a) = inr (
    a.0,
    a.1,
    (a.2.0, a.2.1, unpaged_entries {A = A} {B = W} a.0 a.2.0 out ending a.2.2),
  )
