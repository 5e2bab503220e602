-- The end of the run of a chain that is under way.
use Rattle.std.specs.Prelude.{◌≡◌, ◌≢◌, ℕ, List, [], ◌∷◌, ◌++◌, Some, None, Err}
use Rattle.wall_policy.specs.Policy.{ChineseWall}
use Rattle.run_model.specs.declared.entry.Entry.{Entry}
use Rattle.run_model.specs.Books.{IsSound}
use Rattle.hall_script.specs.Devices.{Used, NeverFailed, IsUntouched}
use Rattle.book_stream.specs.declared.fault.AuditFault.TheVariants as audits
use Rattle.book_stream.specs.Audits.{AuditsTo}
use Rattle.chain_file.specs.declared.fault.EnterFault.TheVariants as enters
use Rattle.chain_file.specs.declared.run.Begun.{Begun}
use Rattle.chain_file.specs.Text.{Chain, text_of}
use Rattle.chain_runs.specs.declared.end.EndFault.{EndFault}
use Rattle.chain_runs.specs.declared.end.EndFault.TheVariants.{BadBook, Refused}
use Rattle.chain_runs.specs.Runs.{SaysBook}

-- The run that was under way has ended, with the digest of its book, which was read and is sound;
-- this line makes the text of the chain longer.
pub record HasEnded {B : Type 0} (wall : ChineseWall) (book : Used B) (old new : Chain)
    (line : List ℕ) : Type 0 where
  pub begun : Begun
  pub was : old.under_way ≡ Some begun
  pub digest : List ℕ
  pub entries : List Entry
  pub says : SaysBook wall book digest entries
  pub sound : IsSound wall entries
  pub chain : new ≡ record {
    ended = old.ended ++ (record { begun = begun; book_digest = digest } ∷ []);
    under_way = None;
  }
  pub text : text_of new ≡ text_of old ++ line

-- it has not, and this is why; want of memory is no fault of the book
abbrev pub IsNotEnded : {B : Type 0} → ChineseWall → Used B → (old : Chain) → EndFault → Type 0
IsNotEnded wall book old (BadBook fault) =
    AuditsTo wall book (Err fault) × (fault ≢ audits.NoMemory)
IsNotEnded wall book old (Refused enters.OutOfOrder) =
    (old.under_way ≡ None) × IsUntouched book
IsNotEnded wall book old (Refused enters.NoMemory) = NeverFailed book
