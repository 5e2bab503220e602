-- What a command does, by the files that its words name.
use Rattle.std.proofs.Common.{◌≡◌, ◌∙◌, ℕ, ◌+◌, ◌<◌, ◌≤◌, List, [], ◌∷◌, ◌++◌, length, map, take}
use Rattle.std.proofs.Common.{get_or, Option, Some, None, Bor, sym, ap, subst, inl, inr}
use Rattle.std.proofs.lemmas.List.{get_or_default, map_push, take_all, take_more}
use Rattle.clap.specs.Words.{Text}
use Rattle.hall_script.specs.Devices.{Used}
use Rattle.program_words.specs.declared.words.ArgFault.{ArgFault}
use Rattle.program_words.specs.declared.words.ArgFault.TheVariants.{BadArguments, NoMemory}
use Rattle.program_words.specs.Grammar.{RunFiles, ReportFiles, Asked, to_replay, to_run, to_audit}
use Rattle.program_words.specs.Grammar.{to_audit_chain, to_serve, to_seal, to_seal_chain, to_check}
use Rattle.program_words.specs.Grammar.{to_report, to_usage, to_version, Refuses, to_replay_next}
use Rattle.program_words.specs.Grammar.{to_run_next, to_report_last}
use Rattle.wall_policy.specs.Policy.{ChineseWall}
use Rattle.program_commands.specs.Endings.{EndsSo}
use Rattle.program_commands.specs.Running.{Runs}
use Rattle.program_commands.specs.declared.earlier.Earlier.{Earlier}
use Rattle.program_commands.specs.Continuing.{RunAfterEnds}
use Rattle.program_commands.specs.Reporting.{ReportEnds}
use Rattle.program_line.specs.Kinds.{FileKind, Kinds, path_unopened}
use Rattle.program_line.specs.Kinds.{FileUse, used_file}
use Rattle.program_line.specs.Performing.{RunsFiles, AreListed, EarlierUse}
use Rattle.program_line.specs.Performing.{used_earlier, Causes, ReportsFiles, IsDone, Declines}
use Rattle.program_line.specs.Performing.{refusal_ending}
use Rattle.program_commands.proofs.ProgramCommandsLemmas.{kept_nowhere, unpaged, run_bookless}

-- a device that is not opened has its path
pub at_path : {F : Type 0} {file : Option F} {path want : Text}
    → file ≡ None → path ≡ want → path_unopened path file ≡ Some want
at_path is same = rw is (ap Some same)

-- where the words are refused nothing was done
pub refused_words : {P D S B W O E : Type 0} (kinds : Kinds P D S B W) (said : Option Asked)
    (fault : ArgFault) (out : Used O) (err : Used E) (status : ℕ) → Refuses fault said →
    Declines (refusal_ending fault) out err status → IsDone kinds said out err status
refused_words kinds said BadArguments out err status is done =
    subst (λ (o : Option Asked). IsDone kinds o out err status) (sym is) (inl done)
refused_words kinds None NoMemory out err status is done = inr done
refused_words kinds (Some (to_replay files)) NoMemory out err status is done = inr done
refused_words kinds (Some (to_replay_next files)) NoMemory out err status is done = inr done
refused_words kinds (Some (to_run files)) NoMemory out err status is done = inr done
refused_words kinds (Some (to_run_next files)) NoMemory out err status is done = inr done
refused_words kinds (Some (to_audit files)) NoMemory out err status is done = inr done
refused_words kinds (Some (to_audit_chain path)) NoMemory out err status is done = inr done
refused_words kinds (Some (to_serve files)) NoMemory out err status is done = done
refused_words kinds (Some (to_seal files)) NoMemory out err status is done = inr done
refused_words kinds (Some (to_seal_chain path)) NoMemory out err status is done = done
refused_words kinds (Some (to_check files)) NoMemory out err status is done = inr done
refused_words kinds (Some (to_report files)) NoMemory out err status is done = inr done
refused_words kinds (Some (to_report_last files)) NoMemory out err status is done = inr done
refused_words kinds (Some (to_usage command)) NoMemory out err status is done = inr done
refused_words kinds (Some to_version) NoMemory out err status is done = inr done

-- one earlier book more
pub one_listed : {D : Type 0} (kind : FileKind D) (paths : List Text) (books : List (Earlier D))
    (path : Text) (one : Earlier D) → AreListed kind paths books → one.path.now ≡ path →
    kind.unopened one.device ≡ Some path → kind.failures one.device ≡ kind.before →
    AreListed kind (paths ++ (path ∷ [])) (books ++ (one ∷ []))
one_listed kind [] [] path one listed named unopened begins = ((named, unopened, begins), tt)
one_listed kind [] (x ∷ books) path one listed named unopened begins = absurd listed
one_listed kind (p ∷ paths) [] path one listed named unopened begins = absurd listed
one_listed kind (p ∷ paths) (x ∷ books) path one listed named unopened begins =
    (listed.0, one_listed kind paths books path one listed.1 named unopened begins)

-- the same of the next of some paths
pub next_listed : {D : Type 0} (kind : FileKind D) (paths : List (Bor Text)) (i : ℕ)
    (path : Bor Text) (books : List (Earlier D)) (one : Earlier D) → i < length paths →
    get_or paths i path ≡ path → AreListed kind (map (λ p. p.now) (take i paths)) books →
    one.path.now ≡ path.now → kind.unopened one.device ≡ Some path.now →
    kind.failures one.device ≡ kind.before →
    AreListed kind (map (λ p. p.now) (take (i + 1) paths)) (books ++ (one ∷ []))
next_listed kind paths i path books one lt is listed named unopened begins =
    let now : Bor Text → Text = λ p. p.now in
    let longer : take (i + 1) paths ≡ take i paths ++ (path ∷ []) =
    take_more paths i path lt ∙ ap (λ (p : Bor Text). take i paths ++ (p ∷ [])) is in
    let same = ap (map now) longer ∙ map_push now (take i paths) path in
    subst (λ (l : List Text). AreListed kind l (books ++ (one ∷ []))) (sym same)
    (one_listed kind (map now (take i paths)) books path.now one listed named unopened begins)

-- the same of the one that is read there, at any default
pub read_listed : {D : Type 0} (kind : FileKind D) (paths : List (Bor Text)) (i : ℕ)
    (d : Bor Text) (books : List (Earlier D)) (one : Earlier D) → i < length paths →
    AreListed kind (map (λ p. p.now) (take i paths)) books →
    one.path.now ≡ (get_or paths i d).now →
    kind.unopened one.device ≡ Some (get_or paths i d).now →
    kind.failures one.device ≡ kind.before →
    AreListed kind (map (λ p. p.now) (take (i + 1) paths)) (books ++ (one ∷ []))
read_listed kind paths i d books one lt listed named unopened begins =
    let path = get_or paths i d in
    next_listed kind paths i path books one lt (get_or_default paths i path d lt) listed named
    unopened begins

-- the same of all of them
pub all_listed : {D : Type 0} (kind : FileKind D) (paths : List (Bor Text)) (i : ℕ)
    (books : List (Earlier D)) → length paths ≤ i →
    AreListed kind (map (λ p. p.now) (take i paths)) books →
    AreListed kind (map (λ p. p.now) paths) books
all_listed kind paths i books all listed =
    subst (λ (l : List (Bor Text)). AreListed kind (map (λ p. p.now) l) books)
    (take_all i paths all) listed

-- a run whose book no file was named for
module _ {P D S B W O A E : Type 0} (kinds : Kinds P D S B W) (files : RunFiles) (out : Used O)
    (err : Used E) (status : ℕ) where
  pub ran_bookless : (policy : FileUse kinds.policies files.policy)
      (earlier : EarlierUse kinds.listed files.after) (script : FileUse kinds.seconds files.script)
      → files.book ≡ None
      → EndsSo (RunAfterEnds {B = A} (used_file kinds.policies policy)
      (used_earlier kinds.listed earlier) (used_file kinds.seconds script) out None)
      err status → RunsFiles kinds files out err status
  ran_bookless policy earlier script none ended =
      let policy' = used_file kinds.policies policy in
      let earlier' = used_earlier kinds.listed earlier in
      let script' = used_file kinds.seconds script in
      let run = kept_nowhere policy' earlier' script' out ended.0 {A = A} {B = B} ended.1 in
      rw none (policy, earlier, script, tt, (ended.0, run, ended.2, ended.3))

-- a report whose page no file was named for
module _ {P D S B W O A E : Type 0} (kinds : Kinds P D S B W) (files : ReportFiles)
    (out : Used O) (err : Used E) (status : ℕ) where
  pub reported_unpaged : (policy : FileUse kinds.policies files.policy)
      (earlier : EarlierUse kinds.listed files.after) (book : FileUse kinds.seconds files.book)
      (causes : Causes P D S) → files.html ≡ None
      → EndsSo (ReportEnds {W = A} files.policy (causes.of_policy policy.new)
      (used_file kinds.policies policy) causes.of_listed (used_earlier kinds.listed earlier)
      files.book (causes.of_second book.new) (used_file kinds.seconds book) out None)
      err status → ReportsFiles kinds files out err status
  reported_unpaged policy earlier book causes none ended =
      let report = unpaged files.policy (causes.of_policy policy.new)
      (used_file kinds.policies policy) causes.of_listed (used_earlier kinds.listed earlier)
      files.book (causes.of_second book.new) (used_file kinds.seconds book) out ended.0
      {A = A} {W = B} ended.1 in
      rw none (policy, earlier, book, tt, causes, (ended.0, report, ended.2, ended.3))

-- a script that was run behind the runs of a chain, and whose book no file was named for
pub next_bookless : {S O A B E : Type 0} (wall : ChineseWall) (script : Used S) (out : Used O)
    (err : Used E) (status : ℕ) → EndsSo (Runs {B = A} wall script out None) err status →
    EndsSo (Runs {B = B} wall script out None) err status
next_bookless {A = A} {B = B} wall script out err status ended = (
  ended.0,
  run_bookless A B wall script out ended.0 ended.1,
  ended.2,
  ended.3,
)
