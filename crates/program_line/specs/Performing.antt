-- What a command does, by the files that its words name.
use Rattle.std.specs.Prelude.{◌≡◌, ℕ, ◌⊎◌, List, [], ◌∷◌, map, Option, Some, None, option_map}
use Rattle.std.specs.Prelude.{string_bytes, unwrap_or, Result, Ok, Err}
use Rattle.clap.specs.Words.{Text}
use Rattle.hall_script.specs.Devices.{Used, IsUntouched}
use Rattle.program_commands.specs.declared.earlier.Earlier.{Earlier}
use Rattle.program_commands.specs.declared.ending.Ending.{Ending}
use Rattle.program_commands.specs.declared.ending.Ending.TheVariants.{BadArguments, NoMemory}
use Rattle.program_commands.specs.Endings.{EndsSo, WritesAll}
use Rattle.program_words.specs.declared.words.ArgFault.{ArgFault}
use Rattle.program_words.specs.declared.words.ArgFault.TheVariants as refusals
use Rattle.program_words.specs.Grammar.{Asked, to_replay, to_run, to_audit, to_serve, ReplayFiles}
use Rattle.program_words.specs.Grammar.{RunFiles, AuditFiles, ServeFiles, SealFiles, to_seal}
use Rattle.program_words.specs.Grammar.{ReportFiles, CheckFiles, to_report, to_check, to_usage}
use Rattle.program_words.specs.Grammar.{to_version, to_audit_chain, to_seal_chain, NextFiles}
use Rattle.program_words.specs.Grammar.{to_replay_next, to_run_next, LastFiles, to_report_last}
use Rattle.program_words.specs.Usage.{usage_of}
use Rattle.program_words.specs.declared.usage.TheConstants.{VERSION}
use Rattle.program_line.specs.declared.commands.LivePaths.{LivePaths}
use Rattle.program_line.specs.declared.commands.Performed.{Performed}
use Rattle.program_line.specs.declared.commands.Performed.TheVariants as performs
use Rattle.program_line.specs.Kinds.{FileKind, Kinds, FileUse, used_file}
use Rattle.program_line.specs.Chains.{AuditsChain, IsNextAt, HasNoNextAt, HasNoChain, IsAt}
use Rattle.program_line.specs.declared.serving.Outcome.{Outcome}
use Rattle.program_line.specs.declared.serving.Outcome.TheVariants as outcomes
use Rattle.wall_policy.specs.Policy.{ChineseWall}
use Rattle.chain_file.specs.Text.{Chain}
use Rattle.program_commands.specs.Replaying.{Replays}
use Rattle.program_commands.specs.Running.{Runs}
use Rattle.program_commands.specs.Chains.{IsChainOf}
use Rattle.program_commands.specs.ChainReports.{ChainReported}
use Rattle.program_commands.specs.Earlier.{EarlierBooks, earlier_books, IsWallAfter}
use Rattle.program_commands.specs.Earlier.{IsNoWallAfter}
use Rattle.program_commands.specs.Continuing.{ReplayAfterEnds, RunAfterEnds, AuditAfterEnds}
use Rattle.program_commands.specs.Sealing.{SealEnds}
use Rattle.program_commands.specs.Reporting.{ReportEnds}
use Rattle.program_commands.specs.Checking.{IfAny, if_any, book_after, CheckEnds}
use Rattle.program_files.specs.declared.cause.Cause.{Cause}

-- how the program ends where its words are refused
abbrev pub refusal_ending : ArgFault → Ending
refusal_ending refusals.BadArguments = BadArguments
refusal_ending refusals.NoMemory = NoMemory

-- the use of the file of a book, which may not be asked for
abbrev pub BookUse : {D : Type 0} → FileKind D → Option Text → Type 0
BookUse kind None = Unit {0}
BookUse kind (Some path) = FileUse kind path

abbrev pub used_book : {D : Type 0}
    → (kind : FileKind D) (path : Option Text) → BookUse kind path → Option (Used D)
used_book kind None book = None
used_book kind (Some path) book = Some (used_file kind book)

-- Earlier books at these paths, in order: each has a device for its file, which was not opened, and
-- is told by its path.
abbrev pub AreListed : {D : Type 0} → FileKind D → List Text → List (Earlier D) → Type 0
AreListed kind [] [] = Unit {0}
AreListed kind (path ∷ paths) (one ∷ books) =
    ((one.path.now ≡ path) × (kind.unopened one.device ≡ Some path)
    × (kind.failures one.device ≡ kind.before)) × AreListed kind paths books
AreListed kind paths books = ⊥

-- earlier books at these paths
pub record EarlierUse {D : Type 0} (kind : FileKind D) (paths : List Text) : Type 0 where
  pub books : List (Earlier D)
  pub listed : AreListed kind paths books

abbrev pub used_earlier : {D : Type 0} {paths : List Text}
    → (kind : FileKind D) → EarlierUse kind paths → EarlierBooks D
used_earlier kind earlier = earlier_books kind.failures kind.bytes earlier.books

-- A device for the file at this path, which was not opened; none where there is no path.
abbrev pub IsListedIfAny : {D : Type 0} → FileKind D → Option Text → Option D → Type 0
IsListedIfAny kind None None = Unit {0}
IsListedIfAny kind (Some path) (Some device) =
    (kind.unopened device ≡ Some path) × (kind.failures device ≡ kind.before)
IsListedIfAny kind path device = ⊥

-- a file that may be missing
pub record UseIfAny {D : Type 0} (kind : FileKind D) (path : Option Text) : Type 0 where
  pub device : Option D
  pub listed : IsListedIfAny kind path device

abbrev pub used_if_any : {D : Type 0} {path : Option Text}
    → (kind : FileKind D) → (cause : D → Option Cause) → UseIfAny kind path → IfAny D
used_if_any kind cause file = if_any kind.failures kind.bytes cause file.device

-- Why reads failed, as the devices of three kinds tell it. (What the system tells them no contract
-- can say.)
pub record Causes (P D S : Type 0) : Type 0 where
  pub of_policy : P → Option Cause
  pub of_listed : D → Option Cause
  pub of_second : S → Option Cause

-- a replay of these files, with this status
abbrev pub ReplaysFiles : {P D S B W O E : Type 0} → Kinds P D S B W → ReplayFiles → Used O
    → Used E → (status : ℕ) → Type 0
ReplaysFiles kinds files out err status = (policy : FileUse kinds.policies files.policy)
    × (earlier : EarlierUse kinds.listed files.after)
    × (script : FileUse kinds.seconds files.script) × (book : BookUse kinds.books files.book)
    × EndsSo (ReplayAfterEnds (used_file kinds.policies policy)
    (used_earlier kinds.listed earlier) (used_file kinds.seconds script) out
    (used_book kinds.books files.book book)) err status

-- a run of these files, with this status
abbrev pub RunsFiles : {P D S B W O E : Type 0} → Kinds P D S B W → RunFiles → Used O → Used E
    → (status : ℕ) → Type 0
RunsFiles kinds files out err status = (policy : FileUse kinds.policies files.policy)
    × (earlier : EarlierUse kinds.listed files.after)
    × (script : FileUse kinds.seconds files.script) × (book : BookUse kinds.books files.book)
    × EndsSo (RunAfterEnds (used_file kinds.policies policy) (used_earlier kinds.listed earlier)
    (used_file kinds.seconds script) out (used_book kinds.books files.book book)) err status

-- an audit of these files, with this status
abbrev pub AuditsFiles : {P D S B W O E : Type 0} → Kinds P D S B W → AuditFiles → Used O
    → Used E → (status : ℕ) → Type 0
AuditsFiles kinds files out err status = (policy : FileUse kinds.policies files.policy)
    × (earlier : EarlierUse kinds.listed files.after) × (book : FileUse kinds.seconds files.book)
    × EndsSo (AuditAfterEnds (used_file kinds.policies policy) (used_earlier kinds.listed earlier)
    (used_file kinds.seconds book) out) err status

-- a seal of these files, with this status
abbrev pub SealsFiles : {P D S B W O E : Type 0} → Kinds P D S B W → SealFiles → Used O → Used E
    → (status : ℕ) → Type 0
SealsFiles kinds files out err status = (policy : FileUse kinds.policies files.policy)
    × (earlier : EarlierUse kinds.listed files.after) × (book : FileUse kinds.seconds files.book)
    × (sealed : FileUse kinds.seals files.out)
    × EndsSo (SealEnds (used_file kinds.policies policy) (used_earlier kinds.listed earlier)
    (used_file kinds.seconds book) (used_file kinds.seals sealed) out) err status

-- a report on these files, with this status, and its page, where one is asked for
abbrev pub ReportsFiles : {P D S B W O E : Type 0} → Kinds P D S B W → ReportFiles → Used O
    → Used E → (status : ℕ) → Type 0
ReportsFiles {P} {D} {S} kinds files out err status =
    (policy : FileUse kinds.policies files.policy)
    × (earlier : EarlierUse kinds.listed files.after) × (book : FileUse kinds.seconds files.book)
    × (page : BookUse kinds.books files.html) × (causes : Causes P D S)
    × EndsSo (ReportEnds files.policy (causes.of_policy policy.new)
    (used_file kinds.policies policy) causes.of_listed (used_earlier kinds.listed earlier)
    files.book (causes.of_second book.new) (used_file kinds.seconds book)
    out (used_book kinds.books files.html page)) err status

-- a check of these files, with this status
abbrev pub ChecksFiles : {P D S B W O E : Type 0} → Kinds P D S B W → CheckFiles → Used O
    → Used E → (status : ℕ) → Type 0
ChecksFiles {P} {D} kinds files out err status = (policy : FileUse kinds.policies files.policy)
    × (earlier : EarlierUse kinds.listed files.after)
    × (script : UseIfAny kinds.listed files.script) × (book : UseIfAny kinds.listed files.book)
    × (causes : Causes P D D)
    × EndsSo (CheckEnds files.policy (unwrap_or files.script []) (unwrap_or files.book [])
    (used_file kinds.policies policy) (causes.of_policy policy.new)
    (used_if_any kinds.listed causes.of_listed script)
    (book_after causes.of_listed (used_earlier kinds.listed earlier)
    (used_if_any kinds.listed causes.of_second book)) out) err status

-- A script of these files goes on behind the runs of a chain: there is no policy of the next run,
-- which is told, and nothing else was written; or this was done of the script under that policy.
-- Nothing is entered in the chain.
abbrev pub GoesOnBehind : {P D S B W O E : Type 0}
    → (does : ChineseWall → Used S → Used O → Option (Used B) → Ending → Type 0)
    → Kinds P D S B W → NextFiles → Used O → Used E → (status : ℕ) → Type 0
GoesOnBehind does kinds files out err status =
    (HasNoNextAt kinds.policies kinds.listed files err status × IsUntouched out)
    ⊎ ((wall : ChineseWall) × IsNextAt kinds.policies kinds.listed files wall
    × (script : FileUse kinds.seconds files.script) × (book : BookUse kinds.books files.book)
    × EndsSo (does wall (used_file kinds.seconds script) out
    (used_book kinds.books files.book book)) err status)

abbrev pub ReplaysNext : {P D S B W O E : Type 0} → Kinds P D S B W → NextFiles → Used O
    → Used E → (status : ℕ) → Type 0
ReplaysNext kinds files out err status = GoesOnBehind Replays kinds files out err status

abbrev pub RunsNext : {P D S B W O E : Type 0} → Kinds P D S B W → NextFiles → Used O
    → Used E → (status : ℕ) → Type 0
RunsNext kinds files out err status = GoesOnBehind Runs kinds files out err status

-- A report on the last run of the chain of these files, and its page, where one is asked for: there
-- is no chain, which is told; or its runs were read from the files at the paths that it has.
abbrev pub ReportsLast : {P D S B W O E : Type 0} → Kinds P D S B W → LastFiles → Used O
    → Used E → (status : ℕ) → Type 0
ReportsLast kinds files out err status = (chain : FileUse kinds.listed files.chain)
    × (HasNoChain (used_file kinds.listed chain) out err status
    ⊎ ((file : Chain) × IsChainOf (used_file kinds.listed chain) file
    × ((page : BookUse kinds.books files.html)
    × ChainReported kinds.listed.failures kinds.listed.bytes (IsAt kinds.listed) file out
    (used_book kinds.books files.html page) err status)))

-- nothing was done but to tell this ending
abbrev pub Declines : {O E : Type 0} → Ending → Used O → Used E → (status : ℕ) → Type 0
Declines ending out err status = EndsSo (λ e. (e ≡ ending) × IsUntouched out) err status

-- this text was written, or, where there is none, the words are bad
abbrev pub TellsText : {O E : Type 0} → Option Text → Used O → Used E → (status : ℕ) → Type 0
TellsText (Some text) out err status = EndsSo (WritesAll text out) err status
TellsText None out err status = Declines BadArguments out err status

-- how the program is used, or one of its commands
abbrev pub TellsUsage : {O E : Type 0} → (command : Option Text) → Used O → Used E
    → (status : ℕ) → Type 0
TellsUsage command out err status = TellsText (usage_of command) out err status

-- its version
abbrev pub TellsVersion : {O E : Type 0} → Used O → Used E → (status : ℕ) → Type 0
TellsVersion out err status = TellsText (Some VERSION.now) out err status

-- the files of a server, as they are kept
abbrev pub live_files : LivePaths → ServeFiles
live_files paths = record {
  policy = string_bytes paths.policy;
  after = map (λ p. string_bytes p) paths.after.items;
  chain = option_map (λ c. string_bytes c) paths.chain;
  pipes = string_bytes paths.pipes;
  book = option_map (λ b. string_bytes b) paths.book;
  sync = paths.sync;
  calls = paths.calls;
  times = paths.times;
}

-- it was done with this status, or memory ran out before
abbrev pub OrNoMemory : {O E : Type 0} → (Used O → Used E → (status : ℕ) → Type 0)
    → Used O → Used E → (status : ℕ) → Type 0
OrNoMemory done out err status = done out err status ⊎ Declines NoMemory out err status

-- What was asked for was done, over a device for each file that it names, or memory ran out
-- before. Where nothing was asked for, the words are bad, or memory ran out. (To serve, and to seal
-- a chain, is not done here.)
abbrev pub IsDone : {P D S B W O E : Type 0} → Kinds P D S B W → Option Asked → Used O → Used E
    → (status : ℕ) → Type 0
IsDone kinds None out err status = OrNoMemory (Declines BadArguments) out err status
IsDone kinds (Some (to_replay files)) out err status =
    OrNoMemory (ReplaysFiles kinds files) out err status
IsDone kinds (Some (to_replay_next files)) out err status =
    OrNoMemory (ReplaysNext kinds files) out err status
IsDone kinds (Some (to_run files)) out err status =
    OrNoMemory (RunsFiles kinds files) out err status
IsDone kinds (Some (to_run_next files)) out err status =
    OrNoMemory (RunsNext kinds files) out err status
IsDone kinds (Some (to_audit files)) out err status =
    OrNoMemory (AuditsFiles kinds files) out err status
IsDone kinds (Some (to_audit_chain path)) out err status =
    OrNoMemory (AuditsChain kinds.listed path) out err status
IsDone kinds (Some (to_seal files)) out err status =
    OrNoMemory (SealsFiles kinds files) out err status
IsDone kinds (Some (to_report files)) out err status =
    OrNoMemory (ReportsFiles kinds files) out err status
IsDone kinds (Some (to_report_last files)) out err status =
    OrNoMemory (ReportsLast kinds files) out err status
IsDone kinds (Some (to_check files)) out err status =
    OrNoMemory (ChecksFiles kinds files) out err status
IsDone kinds (Some (to_usage command)) out err status =
    OrNoMemory (TellsUsage command) out err status
IsDone kinds (Some to_version) out err status = OrNoMemory TellsVersion out err status
IsDone kinds (Some (to_serve files)) out err status = Declines NoMemory out err status
IsDone kinds (Some (to_seal_chain path)) out err status = Declines NoMemory out err status

-- It is done, with this status; or it is to serve live, by these files, or to seal a chain, and
-- nothing is done yet.
abbrev pub Performs : {P D S B W O E : Type 0} → Kinds P D S B W → Option Asked → Used O → Used E
    → Performed → Type 0
Performs kinds asked out err (performs.Ended status) = IsDone kinds asked out err status
Performs kinds asked out err (performs.ToServe paths) =
    (asked ≡ Some (to_serve (live_files paths))) × IsUntouched out × IsUntouched err
Performs kinds asked out err (performs.ToSealChain path) =
    (asked ≡ Some (to_seal_chain (string_bytes path))) × IsUntouched out × IsUntouched err

-- What was performed, or refused, becomes of the command line: the status is that of what was done,
-- or of the fault, whose line was written; paths are handed on as they are.
abbrev pub Settles : {E : Type 0} → Result Performed ArgFault → Used E → Outcome → Type 0
Settles (Ok (performs.Ended status)) err (outcomes.Ended served) =
    (served ≡ status) × IsUntouched err
Settles (Ok (performs.ToServe paths)) err (outcomes.ToServe kept) =
    (kept ≡ paths) × IsUntouched err
Settles (Ok (performs.ToSealChain path)) err (outcomes.ToSealChain kept) =
    (kept ≡ path) × IsUntouched err
Settles (Err fault) err (outcomes.Ended served) =
    EndsSo (λ e. e ≡ refusal_ending fault) err served
Settles outcome err settled = ⊥

-- ---- a server

-- the policy that a server goes by: what its policy file and the earlier books give
abbrev pub IsServedPolicy : {P D : Type 0} → FileKind P → FileKind D → ServeFiles → ChineseWall
    → Type 0
IsServedPolicy policies listed files wall = (policy : FileUse policies files.policy)
    × (earlier : EarlierUse listed files.after)
    × IsWallAfter (used_file policies policy) (used_earlier listed earlier) wall

-- they give none, and this is why; or memory ran out before
abbrev pub IsNoServedPolicy : {P D : Type 0} → FileKind P → FileKind D → ServeFiles → Ending
    → Type 0
IsNoServedPolicy policies listed files ending = ((policy : FileUse policies files.policy)
    × (earlier : EarlierUse listed files.after)
    × IsNoWallAfter (used_file policies policy) (used_earlier listed earlier) ending)
    ⊎ (ending ≡ NoMemory)
