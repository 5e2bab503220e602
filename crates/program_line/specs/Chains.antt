-- The audit of a chain, by the files that it names.
use Rattle.std.specs.Prelude.{◌≡◌, ◌⊎◌, ℕ, List, [], Some}
use Rattle.std.specs.Str.{IsUtf8}
use Rattle.clap.specs.Words.{Text}
use Rattle.program_words.specs.Grammar.{NextFiles}
use Rattle.hall_script.specs.Devices.{Used, IsUntouched}
use Rattle.wall_policy.specs.Policy.{ChineseWall}
use Rattle.chain_file.specs.Text.{Chain}
use Rattle.program_commands.specs.declared.chain.NoChain.{NoChain}
use Rattle.program_commands.specs.Chains.{IsChainOf, IsNoChain, TellsNoChain, ChainAudited}
use Rattle.program_commands.specs.ChainWalls.{IsNextOnChain, HasNoNext}
use Rattle.program_line.specs.Kinds.{FileKind, FileUse, used_file}

-- A device for the file at this path, which was not opened. For a path that is no text it is one
-- for the empty path, at which there is no file.
abbrev pub IsAt : {D : Type 0} → FileKind D → (device : D) → (path : List ℕ) → Type 0
IsAt kind device path = ((kind.unopened device ≡ Some path)
    ⊎ (¬ (IsUtf8 path) × (kind.unopened device ≡ Some [])))
    × (kind.failures device ≡ kind.before)

-- there is no chain: nothing was written but the line that says why
abbrev pub HasNoChain : {D O E : Type 0} → Used D → Used O → Used E → (status : ℕ) → Type 0
HasNoChain chain out err status =
    (none : NoChain) × IsNoChain chain none × IsUntouched out × TellsNoChain none err status

-- The audit of the chain file at this path: it gave no chain, or its runs were read from the files
-- at the paths that it has.
abbrev pub AuditsChain : {D O E : Type 0} → FileKind D → Text → Used O → Used E → (status : ℕ)
    → Type 0
AuditsChain listed path out err status = (chain : FileUse listed path)
    × (HasNoChain (used_file listed chain) out err status
    ⊎ ((file : Chain) × IsChainOf (used_file listed chain) file
    × ChainAudited listed.failures listed.bytes (IsAt listed) file out err status))

-- ---- a server of a chain

-- the chain was read, and this is the policy of its next run, by the file at this path, of this
-- digest
abbrev pub IsChained : {P D C : Type 0} → FileKind P → FileKind D → Used C → (path : Text) →
    Chain → (digest : List ℕ) → ChineseWall → Type 0
IsChained policies listed chain path file digest wall = IsChainOf chain file
    × ((policy : FileUse policies path)
    × IsNextOnChain listed.failures listed.bytes (IsAt listed) file (used_file policies policy)
    digest wall)

-- there is no chain, or no policy of its next run, and why is told
abbrev pub IsNotChained : {P D C E : Type 0} → FileKind P → FileKind D → Used C → (path : Text) →
    Used E → (status : ℕ) → Type 0
IsNotChained policies listed chain path err status =
    ((none : NoChain) × IsNoChain chain none × TellsNoChain none err status)
    ⊎ ((file : Chain) × IsChainOf chain file × (policy : FileUse policies path)
    × HasNoNext listed.failures listed.bytes (IsAt listed) file (used_file policies policy) err
    status)

-- ---- a script behind the runs of a chain

-- this is the policy of the next run of the chain at the path of these files
abbrev pub IsNextAt : {P D : Type 0} → FileKind P → FileKind D → NextFiles → ChineseWall → Type 0
IsNextAt policies listed files wall = (chain : FileUse listed files.chain) × (file : Chain)
    × (digest : List ℕ)
    × IsChained policies listed (used_file listed chain) files.policy file digest wall

-- there is none, and why is told
abbrev pub HasNoNextAt : {P D E : Type 0} → FileKind P → FileKind D → NextFiles → Used E →
    (status : ℕ) → Type 0
HasNoNextAt policies listed files err status = (chain : FileUse listed files.chain)
    × IsNotChained policies listed (used_file listed chain) files.policy err status
