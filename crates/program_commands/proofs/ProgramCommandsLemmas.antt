-- What this crate offers to the proofs of others: a run without a book, and a report without a
-- page, on a chain or not, whichever kind of writer there is none of.
use Rattle.std.proofs.Common.{◌⊎◌, inl, inr, List, Option, None}
use Rattle.wall_policy.specs.Policy.{ChineseWall}
use Rattle.run_model.specs.declared.call.Act.{Act}
use Rattle.hall_script.specs.Devices.{Used, IsUntouched}
use Rattle.program_commands.specs.declared.ending.Ending.{Ending}
use Rattle.program_commands.specs.Replaying.{IsUnkept}
use Rattle.program_commands.specs.Running.{IsNoRun, Tells, Runs}
use Rattle.program_commands.specs.Earlier.{EarlierBooks}
use Rattle.program_commands.specs.Continuing.{RunAfterEnds}
pub use Rattle.program_commands.proofs.ReportLemmas.{unpaged}
pub use Rattle.program_commands.proofs.ChainReportLemmas.{unpaged_report}

abbrev no_writer : (W : Type 0) → Option (Used W)
no_writer W = None

module _ {S O : Type 0} (A B : Type 0) (wall : ChineseWall) (script : Used S) (out : Used O)
    (ending : Ending) where
  told_bookless : (scripts : List (List Act)) → (IsNoRun scripts ending × IsUntouched out
      × IsUnkept (no_writer A)) ⊎ Tells wall scripts out (no_writer A) ending
      → (IsNoRun scripts ending × IsUntouched out × IsUnkept (no_writer B))
      ⊎ Tells wall scripts out (no_writer B) ending
  told_bookless scripts (inl a) = inl a
  told_bookless scripts (inr t) =
      inr (record { replies = t.replies; run = t.run; ran = t.ran; told = t.told })

  pub run_bookless : Runs wall script out (no_writer A) ending →
      Runs wall script out (no_writer B) ending
  run_bookless (inl a) = inl a
  run_bookless (inr a) = inr (a.0, a.1, told_bookless a.0 a.2)

module _ {P D S O : Type 0} (policy : Used P) (earlier : EarlierBooks D) (script : Used S)
    (out : Used O) (ending : Ending) where
  pub kept_nowhere : {A B : Type 0} → RunAfterEnds {B = A} policy earlier script out None ending
      → RunAfterEnds {B = B} policy earlier script out None ending
  kept_nowhere (inl a) = inl a
  kept_nowhere {A = A} {B = B} (inr a) =
      inr (a.0, a.1, run_bookless A B a.0 script out ending a.2)
