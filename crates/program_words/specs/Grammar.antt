-- The command line, as `clap` sees it. (Own format.)
use Rattle.std.specs.Prelude.{◌≡◌, ℕ, Bool, true, false, List, [], ◌∷◌, Option, Some, None, codes}
use Rattle.std.specs.Prelude.{option_and_then}
use Rattle.std.specs.Prelude.{option_map, unwrap_or, map, Result, Ok, Err, if◌then◌else◌}
use Rattle.std.specs.Borrow.{Bor}
use Rattle.std.specs.List.{list_any}
use Rattle.std.specs.Str.{bytes_eq}
use Rattle.clap.specs.Words.{App, Row, Rule, Text, Kinds, fault_of, all_of, first_of, new_app}
use Rattle.clap.specs.Words.{new_rule, subcommand_of, with_rule, with_subcommand}
use Rattle.clap.specs.declared.builder.action.ArgAction.TheVariants.{Append, SetTrue}
use Rattle.program_words.specs.Number.{bound_said}
use Rattle.program_words.specs.declared.words.ReplayPaths.{ReplayPaths}
use Rattle.program_words.specs.declared.words.RunPaths.{RunPaths}
use Rattle.program_words.specs.declared.words.NextPaths.{NextPaths}
use Rattle.program_words.specs.declared.words.AuditPaths.{AuditPaths}
use Rattle.program_words.specs.declared.words.ServePaths.{ServePaths}
use Rattle.program_words.specs.declared.words.SealPaths.{SealPaths}
use Rattle.program_words.specs.declared.words.CheckPaths.{CheckPaths}
use Rattle.program_words.specs.declared.words.ReportPaths.{ReportPaths}
use Rattle.program_words.specs.declared.words.LastPaths.{LastPaths}
use Rattle.program_words.specs.declared.words.Command.{Command}
use Rattle.program_words.specs.declared.words.Command.TheVariants.{Replay, Run, Audit, Serve, Seal}
use Rattle.program_words.specs.declared.words.Command.TheVariants.{ReplayNext, RunNext, ReportLast}
use Rattle.program_words.specs.declared.words.Command.TheVariants.{AuditChain, SealChain}
use Rattle.program_words.specs.declared.words.Command.TheVariants.{Check, Report, Usage, Version}
use Rattle.program_words.specs.declared.words.ArgFault.{ArgFault}
use Rattle.program_words.specs.declared.words.ArgFault.TheVariants.{BadArguments, NoMemory}

abbrev pub required_rule : Text → Rule
required_rule id = record (new_rule id) { required = true }

-- an option with a value, which may be missing, by its long name
abbrev pub optional_rule : Text → Rule
optional_rule name = record (new_rule name) { long = Some name }

-- the same of one that may come several times
abbrev pub repeated_rule : Text → Rule
repeated_rule name = record (optional_rule name) { action = Some Append }

-- an option without a value
abbrev pub flag_rule : Text → Rule
flag_rule name = record (optional_rule name) { action = Some SetTrue }

-- NAME POLICY FILE
abbrev pub plain_app : Text → Text → App
plain_app name file =
    let with_policy = with_rule (new_app name) (required_rule (codes "policy")) in
    with_rule with_policy (required_rule file)

-- NAME POLICY FILE [--after BOOK]..
abbrev pub files_app : Text → Text → App
files_app name file = with_rule (plain_app name file) (repeated_rule (codes "after"))

-- NAME POLICY PATH [--after BOOK].. [--book FILE]
abbrev pub keeping_app : Text → Text → App
keeping_app name path = with_rule (files_app name path) (optional_rule (codes "book"))

-- NAME POLICY PATH [--after BOOK].. [--book FILE] [--chain CHAIN]
abbrev pub chained_app : Text → Text → App
chained_app name path = with_rule (keeping_app name path) (optional_rule (codes "chain"))

-- NAME POLICY BOOK, both of which may be missing
abbrev pub pair_app : Text → App
pair_app name =
    let with_policy = with_rule (new_app name) (new_rule (codes "policy")) in
    with_rule with_policy (new_rule (codes "book"))

-- NAME POLICY BOOK [--after BOOK].., or NAME --chain CHAIN
abbrev pub book_app : Text → App
book_app name =
    let with_after = with_rule (pair_app name) (repeated_rule (codes "after")) in
    with_rule with_after (optional_rule (codes "chain"))

-- serve POLICY DIR [--after BOOK].. [--book FILE] [--chain CHAIN] [--sync] [--calls N] [--times]
abbrev pub serve_app : App
serve_app =
    let with_chain = chained_app (codes "serve") (codes "pipes") in
    let with_sync = with_rule with_chain (flag_rule (codes "sync")) in
    let with_calls = with_rule with_sync (optional_rule (codes "calls")) in
    with_rule with_calls (flag_rule (codes "times"))

-- seal POLICY BOOK OUT [--after BOOK].., or seal --chain CHAIN
abbrev pub seal_app : App
seal_app =
    let with_out = with_rule (pair_app (codes "seal")) (new_rule (codes "out")) in
    let with_after = with_rule with_out (repeated_rule (codes "after")) in
    with_rule with_after (optional_rule (codes "chain"))

-- check POLICY [SCRIPT] [--book BOOK] [--after BOOK]..
abbrev pub check_app : App
check_app =
    let with_policy = with_rule (new_app (codes "check")) (required_rule (codes "policy")) in
    let with_script = with_rule with_policy (new_rule (codes "script")) in
    let with_book = with_rule with_script (optional_rule (codes "book")) in
    with_rule with_book (repeated_rule (codes "after"))

-- report POLICY BOOK [--after BOOK].. [--html FILE], or report --chain CHAIN [--html FILE]
abbrev pub report_app : App
report_app = with_rule (book_app (codes "report")) (optional_rule (codes "html"))

-- usage [COMMAND]
abbrev pub usage_app : App
usage_app = with_rule (new_app (codes "usage")) (new_rule (codes "command"))

-- the words after the program's name
abbrev pub bare_app : App
bare_app =
    let a = new_app (codes "consortium") in
    record a { top = record a.top { no_binary_name = true; subcommand_required = true } }

unfoldable pub program_app : App
program_app =
    let with_replay =
    with_subcommand bare_app (chained_app (codes "replay") (codes "script")).top in
    let with_run = with_subcommand with_replay (chained_app (codes "run") (codes "script")).top in
    let with_audit = with_subcommand with_run (book_app (codes "audit")).top in
    let with_serve = with_subcommand with_audit serve_app.top in
    let with_seal = with_subcommand with_serve seal_app.top in
    let with_check = with_subcommand with_seal check_app.top in
    let with_report = with_subcommand with_check report_app.top in
    let with_usage = with_subcommand with_report usage_app.top in
    with_subcommand with_usage (new_app (codes "version")).top

-- the files of a replay, as text; the earlier books have the oldest first
pub record ReplayFiles : Type 0 where
  pub policy : Text
  pub after : List Text
  pub script : Text
  pub book : Option Text

-- the files of a run, as text; the earlier books have the oldest first
pub record RunFiles : Type 0 where
  pub policy : Text
  pub after : List Text
  pub script : Text
  pub book : Option Text

-- the files of a script that goes on behind the runs of a chain, as text
pub record NextFiles : Type 0 where
  pub policy : Text
  pub chain : Text
  pub script : Text
  pub book : Option Text

-- the files of an audit, as text; the earlier books have the oldest first
pub record AuditFiles : Type 0 where
  pub policy : Text
  pub after : List Text
  pub book : Text

-- the files of a server, as text; the earlier books have the oldest first, and its pipes are in a
-- folder
pub record ServeFiles : Type 0 where
  pub policy : Text
  pub after : List Text
  -- the chain of which it is the next run, if it is one of a chain
  pub chain : Option Text
  pub pipes : Text
  pub book : Option Text
  -- whether the book's file is to be synced
  pub sync : Bool
  -- how many calls a session may make, if there is such a bound
  pub calls : Option ℕ
  -- whether the lines of its events begin with their times
  pub times : Bool

-- the files of a seal, as text; the earlier books have the oldest first
pub record SealFiles : Type 0 where
  pub policy : Text
  pub after : List Text
  pub book : Text
  pub out : Text

-- the files of a check, as text; the earlier books have the oldest first
pub record CheckFiles : Type 0 where
  pub policy : Text
  pub after : List Text
  pub script : Option Text
  pub book : Option Text

-- the files of a report, as text; the earlier books have the oldest first
pub record ReportFiles : Type 0 where
  pub policy : Text
  pub after : List Text
  pub book : Text
  -- where the page goes, if it is wanted
  pub html : Option Text

-- the files of a report on the last run of a chain, as text
pub record LastFiles : Type 0 where
  pub chain : Text
  -- where the page goes, if it is wanted
  pub html : Option Text

-- a command and its files
pub data Asked : Type 0 where
  to_replay : ReplayFiles → Asked
  -- to replay a script, or to run it, behind the runs of a chain
  to_replay_next : NextFiles → Asked
  to_run : RunFiles → Asked
  to_run_next : NextFiles → Asked
  to_audit : AuditFiles → Asked
  -- to audit all runs of the chain file at this path
  to_audit_chain : Text → Asked
  to_serve : ServeFiles → Asked
  to_seal : SealFiles → Asked
  -- to make the book whole of the run that the chain file at this path has last
  to_seal_chain : Text → Asked
  to_check : CheckFiles → Asked
  to_report : ReportFiles → Asked
  -- to report on the last run of a chain
  to_report_last : LastFiles → Asked
  -- how it is used, or one of its commands
  to_usage : Option Text → Asked
  to_version : Asked

-- all values of an argument, in the order of the words
abbrev pub every_of : Text → List Row → List Text
every_of id rows = unwrap_or (all_of id rows) []

-- whether an option without a value was given: its value is then `true`
abbrev pub is_set : Text → List Row → Bool
is_set id rows = unwrap_or (option_map (λ v. bytes_eq v (codes "true")) (first_of id rows)) false

-- whether a file that is to be written is one of these
abbrev pub is_one_of : Option Text → List Text → Bool
is_one_of None paths = false
is_one_of (Some path) paths = list_any (λ p. bytes_eq p path) paths

-- these files, unless the book would be written over an earlier one
abbrev pub unless_lost : {F : Type 0} → (book : Option Text) → (after : List Text) → F → Option F
unless_lost book after files = if is_one_of book after then None else Some files

-- whether earlier books are named, and no book that goes on after them
abbrev pub are_idle : (book : Option Text) → (after : List Text) → Bool
are_idle None (oldest ∷ newer) = true
are_idle book after = false

-- these files, unless earlier books are named and no book that goes on after them
abbrev pub unless_idle : {F : Type 0} → (book : Option Text) → (after : List Text) → F → Option F
unless_idle book after files = if are_idle book after then None else Some files

-- Whether earlier books are named beside a chain, which has its own, or a file that would be
-- written over it.
abbrev pub is_at_odds : (chain : Text) → (after : List Text) → (file : Option Text) → Bool
is_at_odds chain [] file = is_one_of file (chain ∷ [])
is_at_odds chain (oldest ∷ newer) file = true

abbrev pub unless_at_odds : {F : Type 0} → (chain : Text) → (after : List Text) →
    (file : Option Text) → F → Option F
unless_at_odds chain after file files = if is_at_odds chain after file then None else Some files

-- the files of a script that goes on behind the runs of this chain
abbrev pub next_in : (chain : Text) → List Row → Option NextFiles
next_in chain rows =
    option_and_then (λ p. option_and_then (λ s.
    unless_at_odds chain (every_of (codes "after") rows) (first_of (codes "book") rows) (record {
      policy = p;
      chain = chain;
      script = s;
      book = first_of (codes "book") rows;
    })) (first_of (codes "script") rows)) (first_of (codes "policy") rows)

abbrev pub replay_in : List Row → Option ReplayFiles
replay_in rows =
    option_and_then (λ p. option_and_then (λ s.
    unless_lost (first_of (codes "book") rows) (every_of (codes "after") rows) (record {
      policy = p;
      after = every_of (codes "after") rows;
      script = s;
      book = first_of (codes "book") rows;
    })) (first_of (codes "script") rows)) (first_of (codes "policy") rows)

-- a replay behind the runs of a chain where one is named, else behind earlier books
abbrev pub either_replay : (chain : Option Text) → List Row → Option Asked
either_replay None rows = option_map to_replay (replay_in rows)
either_replay (Some chain) rows = option_map to_replay_next (next_in chain rows)

abbrev pub replay_asked : List Row → Option Asked
replay_asked rows = either_replay (first_of (codes "chain") rows) rows

abbrev pub run_in : List Row → Option RunFiles
run_in rows =
    option_and_then (λ p. option_and_then (λ s.
    unless_lost (first_of (codes "book") rows) (every_of (codes "after") rows) (record {
      policy = p;
      after = every_of (codes "after") rows;
      script = s;
      book = first_of (codes "book") rows;
    })) (first_of (codes "script") rows)) (first_of (codes "policy") rows)

-- the same of a run
abbrev pub either_run : (chain : Option Text) → List Row → Option Asked
either_run None rows = option_map to_run (run_in rows)
either_run (Some chain) rows = option_map to_run_next (next_in chain rows)

abbrev pub run_asked : List Row → Option Asked
run_asked rows = either_run (first_of (codes "chain") rows) rows

abbrev pub audit_in : List Row → Option AuditFiles
audit_in rows =
    option_and_then (λ p. option_and_then (λ b.
    Some (record { policy = p; after = every_of (codes "after") rows; book = b }))
    (first_of (codes "book") rows)) (first_of (codes "policy") rows)

-- an audit of a chain, unless a file is named that the chain has not
abbrev pub chain_alone : (chain : Text) → (policy book : Option Text) → (after : List Text) →
    Option Asked
chain_alone chain None None after = unless_idle None after (to_audit_chain chain)
chain_alone chain policy book after = None

-- an audit of a chain where one is named, else of a book
abbrev pub either_audit : (chain : Option Text) → List Row → Option Asked
either_audit None rows = option_map to_audit (audit_in rows)
either_audit (Some chain) rows = chain_alone chain (first_of (codes "policy") rows)
    (first_of (codes "book") rows) (every_of (codes "after") rows)

abbrev pub audit_asked : List Row → Option Asked
audit_asked rows = either_audit (first_of (codes "chain") rows) rows

-- Whether a chain is named, and no book that could go into it, or earlier books, which it has
-- itself.
abbrev pub is_astray : (chain : Option Text) → (after : List Text) → (book : Option Text) → Bool
is_astray None after book = false
is_astray (Some chain) [] (Some book) = false
is_astray (Some chain) after book = true

abbrev pub unless_astray : (chain : Option Text) → (after : List Text) → (book : Option Text) →
    ServeFiles → Option ServeFiles
unless_astray chain after book files = if is_astray chain after book then None else Some files

abbrev pub serve_in : List Row → Option ServeFiles
serve_in rows =
    option_and_then (λ p. option_and_then (λ d. option_and_then (λ n.
    unless_astray (first_of (codes "chain") rows) (every_of (codes "after") rows)
    (first_of (codes "book") rows) (record {
      policy = p;
      after = every_of (codes "after") rows;
      chain = first_of (codes "chain") rows;
      pipes = d;
      book = first_of (codes "book") rows;
      sync = is_set (codes "sync") rows;
      calls = n;
      times = is_set (codes "times") rows;
    })) (bound_said (first_of (codes "calls") rows))) (first_of (codes "pipes") rows))
    (first_of (codes "policy") rows)

abbrev pub seal_in : List Row → Option SealFiles
seal_in rows =
    option_and_then (λ p. option_and_then (λ b. option_and_then (λ o.
    Some (record { policy = p; after = every_of (codes "after") rows; book = b; out = o }))
    (first_of (codes "out") rows)) (first_of (codes "book") rows)) (first_of (codes "policy") rows)

-- a seal of a chain, unless a file is named that the chain has not
abbrev pub seal_alone : (chain : Text) → (policy book out : Option Text) → (after : List Text) →
    Option Asked
seal_alone chain None None None after = unless_idle None after (to_seal_chain chain)
seal_alone chain policy book out after = None

-- a seal of the book of a chain's last run where a chain is named, else of a book
abbrev pub either_seal : (chain : Option Text) → List Row → Option Asked
either_seal None rows = option_map to_seal (seal_in rows)
either_seal (Some chain) rows = seal_alone chain (first_of (codes "policy") rows)
    (first_of (codes "book") rows) (first_of (codes "out") rows) (every_of (codes "after") rows)

abbrev pub seal_asked : List Row → Option Asked
seal_asked rows = either_seal (first_of (codes "chain") rows) rows

abbrev pub check_in : List Row → Option CheckFiles
check_in rows =
    option_and_then (λ p.
    unless_idle (first_of (codes "book") rows) (every_of (codes "after") rows) (record {
      policy = p;
      after = every_of (codes "after") rows;
      script = first_of (codes "script") rows;
      book = first_of (codes "book") rows;
    })) (first_of (codes "policy") rows)

abbrev pub report_in : List Row → Option ReportFiles
report_in rows =
    option_and_then (λ p. option_and_then (λ b.
    Some (record {
      policy = p;
      after = every_of (codes "after") rows;
      book = b;
      html = first_of (codes "html") rows;
    })) (first_of (codes "book") rows)) (first_of (codes "policy") rows)

-- A report on a chain's last run, unless a file is named that the chain has, or the page would be
-- written over it.
abbrev pub report_alone : (chain : Text) → (policy book : Option Text) → (after : List Text) →
    (html : Option Text) → Option Asked
report_alone chain None None after html =
    unless_at_odds chain after html (to_report_last (record { chain = chain; html = html }))
report_alone chain policy book after html = None

-- a report on a chain's last run where a chain is named, else on a book
abbrev pub either_report : (chain : Option Text) → List Row → Option Asked
either_report None rows = option_map to_report (report_in rows)
either_report (Some chain) rows = report_alone chain (first_of (codes "policy") rows)
    (first_of (codes "book") rows) (every_of (codes "after") rows) (first_of (codes "html") rows)

abbrev pub report_asked : List Row → Option Asked
report_asked rows = either_report (first_of (codes "chain") rows) rows

-- the command of this name
abbrev pub command_in : Text → List Row → Option Asked
command_in name rows =
    if bytes_eq name (codes "replay") then replay_asked rows
    else if bytes_eq name (codes "run") then run_asked rows
    else if bytes_eq name (codes "audit") then audit_asked rows
    else if bytes_eq name (codes "serve") then option_map to_serve (serve_in rows)
    else if bytes_eq name (codes "seal") then seal_asked rows
    else if bytes_eq name (codes "check") then option_map to_check (check_in rows)
    else if bytes_eq name (codes "report") then report_asked rows
    else if bytes_eq name (codes "usage") then Some (to_usage (first_of (codes "command") rows))
    else if bytes_eq name (codes "version") then Some to_version
    else None

abbrev pub command_of : Option (Text × List Row) → Option Asked
command_of None = None
command_of (Some p) = command_in p.0 p.1

abbrev pub unless_refused : Kinds → Option Asked → Option Asked
unless_refused [] said = said
unless_refused (k ∷ ks) said = None

-- what the words ask for, where clap does not refuse them
unfoldable pub asked : List Text → Option Asked
asked words =
    unless_refused (fault_of program_app words) (command_of (subcommand_of program_app words))

abbrev pub texts_of : List (Bor Text) → List Text
texts_of paths = map (λ p. p.now) paths

abbrev pub replay_files : ReplayPaths → ReplayFiles
replay_files r = record {
  policy = r.policy.now;
  after = texts_of r.after.items;
  script = r.script.now;
  book = option_map (λ b. b.now) r.book;
}

abbrev pub run_files : RunPaths → RunFiles
run_files r = record {
  policy = r.policy.now;
  after = texts_of r.after.items;
  script = r.script.now;
  book = option_map (λ b. b.now) r.book;
}

abbrev pub next_files : NextPaths → NextFiles
next_files r = record {
  policy = r.policy.now;
  chain = r.chain.now;
  script = r.script.now;
  book = option_map (λ b. b.now) r.book;
}

abbrev pub audit_files : AuditPaths → AuditFiles
audit_files r =
    record { policy = r.policy.now; after = texts_of r.after.items; book = r.book.now }

abbrev pub serve_files : ServePaths → ServeFiles
serve_files r = record {
  policy = r.policy.now;
  after = texts_of r.after.items;
  chain = option_map (λ c. c.now) r.chain;
  pipes = r.pipes.now;
  book = option_map (λ b. b.now) r.book;
  sync = r.sync;
  calls = r.calls;
  times = r.times;
}

abbrev pub seal_files : SealPaths → SealFiles
seal_files r = record {
  policy = r.policy.now;
  after = texts_of r.after.items;
  book = r.book.now;
  out = r.out.now;
}

abbrev pub check_files : CheckPaths → CheckFiles
check_files r = record {
  policy = r.policy.now;
  after = texts_of r.after.items;
  script = option_map (λ s. s.now) r.script;
  book = option_map (λ b. b.now) r.book;
}

abbrev pub report_files : ReportPaths → ReportFiles
report_files r = record {
  policy = r.policy.now;
  after = texts_of r.after.items;
  book = r.book.now;
  html = option_map (λ h. h.now) r.html;
}

abbrev pub last_files : LastPaths → LastFiles
last_files r = record { chain = r.chain.now; html = option_map (λ h. h.now) r.html }

abbrev pub asked_by : Command → Asked
asked_by (Replay r) = to_replay (replay_files r)
asked_by (ReplayNext r) = to_replay_next (next_files r)
asked_by (Run r) = to_run (run_files r)
asked_by (RunNext r) = to_run_next (next_files r)
asked_by (Audit r) = to_audit (audit_files r)
asked_by (AuditChain chain) = to_audit_chain chain.now
asked_by (Serve r) = to_serve (serve_files r)
asked_by (Seal r) = to_seal (seal_files r)
asked_by (SealChain chain) = to_seal_chain chain.now
asked_by (Check r) = to_check (check_files r)
asked_by (Report r) = to_report (report_files r)
asked_by (ReportLast r) = to_report_last (last_files r)
asked_by (Usage command) = to_usage (option_map (λ c. c.now) command)
asked_by Version = to_version

-- what was read is what the words ask for, unless memory ran out
abbrev pub Refuses : ArgFault → Option Asked → Type 0
Refuses BadArguments said = said ≡ None
Refuses NoMemory said = Unit {0}

abbrev pub SaysCommand : Result Command ArgFault → Option Asked → Type 0
SaysCommand (Ok command) said = said ≡ Some (asked_by command)
SaysCommand (Err fault) said = Refuses fault said

-- ---- words of private contracts

-- these paths are the earlier books that the words name, in their order
abbrev pub AreEarlier : List Row → List (Bor Text) → Type 0
AreEarlier rows paths = texts_of paths ≡ every_of (codes "after") rows
