-- How an audit of a chain ends: its file, and all its runs, each under the policy of its own day.
use Rattle.std.specs.Prelude.{◌≡◌, ◌⊎◌, ◌+◌, ℕ, List, [], ◌++◌, length, codes, Option, Some, None}
use Rattle.std.specs.Prelude.{Ok, Err, IsOk, IsSome, IfSome}
use Rattle.std.specs.Fmt.{decimal}
use Rattle.run_model.specs.Chains.{Link}
use Rattle.hall_script.specs.Devices.{Used, IsUntouched, NeverFailed, IsRead, IsUnreadable}
use Rattle.hall_script.specs.Devices.{IsWritten, BrokeOff}
use Rattle.chain_file.specs.Text.{Chain}
use Rattle.chain_file.specs.Reading.{chain_in}
use Rattle.chain_file.specs.Walks.{IsLastHead}
use Rattle.chain_runs.specs.declared.runs.Broken.{Broken}
use Rattle.chain_runs.specs.declared.runs.Past.{Past}
use Rattle.chain_runs.specs.Chains.{IsBroken, IsPast}
use Rattle.program_commands.specs.declared.chain.NoChain.{NoChain}
use Rattle.program_commands.specs.declared.chain.NoChain.TheVariants.{BadFile, Unread, NoMemory}
use Rattle.program_commands.specs.declared.ending.Ending.TheVariants.{WriteFault, ReadFault}
use Rattle.program_commands.specs.declared.ending.Ending.TheVariants as endings
use Rattle.program_commands.specs.Endings.{IsTold, error_line, status_of}
use Rattle.program_commands.specs.Auditing.{book_limit}
use Rattle.program_commands.specs.Earlier.{YearsKeepTheWall, WasHadOnce}
use Rattle.program_commands.specs.ChainLines.{open_line, broken_line, broken_status}
use Rattle.program_commands.specs.ChainLines.{bad_file_status, file_line}

-- ---- its file

-- it was read without a failure, and is the text of this chain
abbrev pub IsChainOf : {C : Type 0} → Used C → Chain → Type 0
IsChainOf chain file =
    (bytes : List ℕ) × IsRead chain book_limit bytes × (chain_in bytes ≡ Ok file)

-- there is no chain, and this is why
abbrev pub IsNoChain : {C : Type 0} → Used C → NoChain → Type 0
IsNoChain chain (BadFile fault) =
    (bytes : List ℕ) × IsRead chain book_limit bytes × (chain_in bytes ≡ Err fault)
IsNoChain chain Unread = IsUnreadable chain book_limit
IsNoChain chain NoMemory = NeverFailed chain

-- what came of a text that gave no chain: its fault; or memory ran out, in place of a chain
abbrev pub GivesNoChain : (text : List ℕ) → NoChain → Type 0
GivesNoChain text (BadFile fault) = chain_in text ≡ Err fault
GivesNoChain text NoMemory = IsOk (chain_in text)
GivesNoChain text Unread = ⊥

-- how a file that gave no chain is told: its line was written, or a prefix of it
abbrev pub TellsNoChain : {E : Type 0} → NoChain → Used E → (status : ℕ) → Type 0
TellsNoChain (BadFile fault) err status =
    (status ≡ bad_file_status fault) × IsTold err (file_line fault)
TellsNoChain Unread err status =
    (status ≡ status_of ReadFault) × IsTold err (error_line ReadFault)
TellsNoChain NoMemory err status =
    (status ≡ status_of endings.NoMemory) × IsTold err (error_line endings.NoMemory)

-- ---- the line of a sound chain

-- the head, or that there is none
abbrev pub head_text : Option (List ℕ) → List ℕ
head_text (Some head) = codes " entries, head " ++ (head ++ codes "\n")
head_text None = codes " entries, head -\n"

abbrev pub counts_text : (number entries : ℕ) → List ℕ
counts_text number entries =
    (codes "sound " ++ (decimal number ++ codes " runs, ")) ++ decimal entries

abbrev pub sound_line : (number entries : ℕ) → (head : Option (List ℕ)) → List ℕ
sound_line number entries head = counts_text number entries ++ head_text head

-- the line was written, and the status is 0; or the writer failed behind a prefix of it, which is
-- told
abbrev pub TellsSound : {O E : Type 0} → (line : List ℕ) → Used O → Used E → (status : ℕ) → Type 0
TellsSound line out err status =
    (IsWritten out line × IsUntouched err × (status ≡ 0))
    ⊎ (BrokeOff out line × (status ≡ status_of WriteFault) × IsTold err (error_line WriteFault))

-- ---- all runs

-- one of the runs that have ended does not stand, and why is told
abbrev pub TellsBroken : {D E : Type 0} → (fails : D → ℕ) → (left : D → Option (List ℕ))
    → (is_at : D → List ℕ → Type 0) → Chain → Used E → (status : ℕ) → Type 0
TellsBroken fails left is_at file err status =
    (broken : Broken) × IsBroken fails left is_at file.ended broken
    × (status ≡ broken_status broken.fault) × IsTold err (broken_line broken)

module _ {D O E : Type 0} (fails : D → ℕ) (left : D → Option (List ℕ))
    (is_at : D → List ℕ → Type 0) where
  -- All runs stand, each behind those before it. Over them and any legal run behind them nobody
  -- ever held two who were rivals under any of their policies; what is held in the end was had
  -- once. The number of runs, that of all entries, and the last head are told.
  pub record HaveStood (file : Chain) (out : Used O) (err : Used E) (status : ℕ) : Type 0 where
    pub links : List Link
    pub past : Past
    pub stand : IsPast fails left is_at file.ended links past
    pub years_keep : IfSome past.policy (YearsKeepTheWall links)
    pub had : IfSome past.policy (WasHadOnce links)
    pub head : Option (List ℕ)
    pub is_head : IsLastHead file head
    pub told : TellsSound (sound_line (length file.ended) past.entries head) out err status

  -- one of them does not stand: nothing was written, and why is told
  abbrev pub IsTurnedDown : Chain → Used O → Used E → (status : ℕ) → Type 0
  IsTurnedDown file out err status =
      TellsBroken fails left is_at file err status × IsUntouched out

  abbrev pub RunsAudited : Chain → Used O → Used E → (status : ℕ) → Type 0
  RunsAudited file out err status =
      IsTurnedDown file out err status ⊎ HaveStood file out err status

  -- its last run has not ended: nothing was written, and its number is told
  abbrev pub IsOpen : Chain → Used O → Used E → (status : ℕ) → Type 0
  IsOpen file out err status = IsSome file.under_way × IsUntouched out × (status ≡ 2)
      × IsTold err (open_line (length file.ended + 1))

  -- how the audit of a chain ends
  abbrev pub ChainAudited : Chain → Used O → Used E → (status : ℕ) → Type 0
  ChainAudited file out err status =
      IsOpen file out err status ⊎ RunsAudited file out err status
