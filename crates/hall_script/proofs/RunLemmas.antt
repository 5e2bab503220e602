-- Scripts that are answered line by line.
use Rattle.std.proofs.Common.{◌≡◌, ℕ, ◌+◌, List, [], ◌∷◌, ◌++◌, Option, Some, None, Result, Ok, Err}
use Rattle.std.proofs.Common.{inl, inr, refl, sym, ap, ◌∙◌, subst, append_assoc}
use Rattle.std.specs.Prelude.{IfOk, IfErr}
use Rattle.std.proofs.lemmas.List.{append-nil}
use Rattle.std.specs.Io.KnownBytes.{Appends}
use Rattle.wall_labels.specs.Known.{AppendsPrefix}
use Rattle.wall_labels.proofs.WallLabelsLemmas.{Appends-then}
use Rattle.wall_policy.specs.Policy.{ChineseWall}
use Rattle.run_model.specs.declared.call.Call.{Call}
use Rattle.run_model.specs.Runs.{Entry, entry}
use Rattle.coll_text.specs.declared.fault.LineFault.{LineFault}
use Rattle.coll_text.specs.declared.fault.LineFault.TheVariants as faults
use Rattle.coll_text.specs.Writing.{Moves}
use Rattle.coll_text.proofs.CollTextLemmas.{Appends-none}
use Rattle.hall_script.specs.declared.fault.ScriptFault.{ScriptFault}
use Rattle.hall_script.specs.declared.fault.ScriptFault.TheVariants.{Read, Line, Write, NoMemory}
use Rattle.hall_script.specs.Devices.{Used, bytes_before, bytes_after, IsUntouched, NeverFailed}
use Rattle.hall_script.specs.Devices.{FailedOnce, IsRead}
use Rattle.hall_script.specs.Replies.{reply_line}
use Rattle.hall_script.specs.Scripts.{Script, with_line, line_call, script_from, script_of}
use Rattle.hall_script.specs.Scripts.{calls_in, reply_lines, Answers, Stops, StopsAtCall}
use Rattle.hall_script.specs.Scripts.{IsReplayed, StopsWith, script_limit}
use Rattle.hall_script.specs.Answering.{IsCall, AnswersLine, FailsLine, line_fault, behind, Told}
use Rattle.hall_script.specs.Answering.{SoFar, no_more, fault_at, Ends, Finishes, HasFinished}
use Rattle.hall_script.specs.Answering.{HasStopped, stopped_by}

module _ (wall : ChineseWall) (before now : Option (List ℕ)) (text : List ℕ) (whole rest : Script)
    (run : List Entry) (told : Told wall before now text whole rest run) where
  -- a prefix of the text is written
  pub told-moves : (later : Option (List ℕ)) (new : List ℕ) → Moves now later text new →
      Told wall before later new whole rest run
  told-moves later new m = record {
    legal = told.legal;
    sent = told.sent ++ m.0;
    written = Appends-then before now later told.sent m.0 told.written m.1;
    kept = append_assoc told.sent m.0 new ∙ ap (λ (t : List ℕ). told.sent ++ t) m.2 ∙ told.kept;
    left = told.left;
  }

  -- all of the text is written
  pub told-written : (later : Option (List ℕ)) → Appends now later text →
      Appends before later (reply_lines wall run)
  told-written later h = subst (Appends before later) told.kept
      (Appends-then before now later told.sent text told.written h)

  -- the writer failed
  pub told-breaks : (later : Option (List ℕ)) → AppendsPrefix now later text →
      Stops wall before later whole.calls
  told-breaks later f = record {
    run = run;
    rest = rest.calls;
    legal = told.legal;
    first = ap (λ (s : Script). s.calls) told.left;
    written = (
      told.sent ++ f.0,
      f.1,
      append_assoc told.sent f.0 f.1 ∙ ap (λ (t : List ℕ). told.sent ++ t) f.2 ∙ told.kept,
      Appends-then before now later told.sent f.0 told.written f.3,
    );
  }

-- the calls of a run, where nothing is left behind them
pub told-answers : (wall : ChineseWall) (before now later : Option (List ℕ)) (text : List ℕ)
    (whole : Script) (f : Option (ℕ × LineFault)) (run : List Entry) →
    Told wall before now text whole (record { calls = []; fault = f }) run
    → Appends now later text → Answers wall before later whole.calls run × (whole.fault ≡ f)
told-answers wall before now later text whole f run told h = (
  record {
    legal = told.legal;
    answered = sym (append-nil (calls_in run)) ∙ ap (λ (s : Script). s.calls) told.left;
    written =
        told-written wall before now text whole (record { calls = []; fault = f }) run told later h;
  },
  sym (ap (λ (s : Script). s.fault) told.left),
)

-- all is written, and memory ran out at a call
pub told-short : (wall : ChineseWall) (before now later : Option (List ℕ)) (text : List ℕ)
    (whole rest : Script) (call : Call) (run : List Entry) →
    Told wall before now text whole (behind (call ∷ []) rest) run
    → Appends now later text → StopsAtCall wall before later whole.calls
told-short wall before now later text whole rest call run told h = record {
  run = run;
  call = call;
  rest = rest.calls;
  legal = told.legal;
  first = ap (λ (s : Script). s.calls) told.left;
  written =
      told-written wall before now text whole (behind (call ∷ []) rest) run told later h;
}

module _ {M : Type 0} (stands : M → List Entry → Type 0) (wall : ChineseWall) where
  pub begins : (machine : M) (before : Option (List ℕ)) (text : List ℕ) (whole : Script) →
      stands machine [] → text ≡ [] → SoFar stands wall machine before before text whole whole
  begins machine before text whole h e = record {
    run = [];
    told = record { legal = tt; sent = []; written = Appends-none before; kept = e; left = refl };
    standing = h;
  }

  -- a line is answered
  after : (old new : M) (before now : Option (List ℕ)) (text after : List ℕ) (whole rest : Script)
      (n : ℕ) (said : Result (Option Call) LineFault) (x : Unit {0})
      → SoFar stands wall old before now text whole (with_line n said rest) →
      AnswersLine stands wall old new text after said (Ok x) →
      SoFar stands wall new before now after whole rest
  after old new before now text later whole rest n (Ok None) x s a = record {
    run = s.run;
    told = subst (λ (t : List ℕ). Told wall before now t whole rest s.run) (sym a.1) s.told;
    standing = subst (λ (m : M). stands m s.run) (sym a.0) s.standing;
  }
  after old new before now text later whole rest n (Ok (Some call)) x s a =
      let c = a s.run s.told.legal s.standing in
      record {
        run = entry call c.reply ∷ s.run;
        told = record {
          legal = c.legal;
          sent = s.told.sent;
          written = s.told.written;
          kept = ap (λ (t : List ℕ). s.told.sent ++ t) c.text
              ∙ sym (append_assoc s.told.sent text (reply_line wall c.reply))
              ∙ ap (λ (t : List ℕ). t ++ reply_line wall c.reply) s.told.kept;
          left = ap (λ (cs : List Call). record { calls = cs; fault = rest.fault })
              (append_assoc (calls_in s.run) (call ∷ []) rest.calls) ∙ s.told.left;
        };
        standing = c.standing;
      }
  after old new before now text later whole rest n (Err e) x s a = absurd a

  pub goes_on : (old new : M) (before now later : Option (List ℕ)) (text mid next : List ℕ)
      (whole : Script) (n : ℕ) (line : List ℕ) (lines rest : List (List ℕ)) (x : Unit {0})
      → lines ≡ line ∷ rest
      →
      SoFar stands wall old before now text whole
      (script_from (line_call wall.dataset_names) n lines)
      → AnswersLine stands wall old new text mid (line_call wall.dataset_names line) (Ok x)
      → Moves now later mid next
      →
      SoFar stands wall new before later next whole
      (script_from (line_call wall.dataset_names) (n + 1) rest)
  unfolding script_from
  goes_on old new before now later text mid next whole n line lines rest x split s a m =
      let s' = subst (λ ls. SoFar stands wall old before now text whole
      (script_from (line_call wall.dataset_names) n ls)) split s in
      let r = after old new before now text mid whole
      (script_from (line_call wall.dataset_names) (n + 1) rest) n
      (line_call wall.dataset_names line) x s' a in
      record {
        run = r.run;
        told = told-moves wall before now mid whole
            (script_from (line_call wall.dataset_names) (n + 1) rest) r.run r.told later next m;
        standing = r.standing;
      }

  -- the writer failed behind a line
  pub breaks : (old new : M) (before now later : Option (List ℕ)) (text mid : List ℕ)
      (whole : Script) (n : ℕ) (line : List ℕ) (lines rest : List (List ℕ)) (x : Unit {0})
      → lines ≡ line ∷ rest
      →
      SoFar stands wall old before now text whole
      (script_from (line_call wall.dataset_names) n lines)
      → AnswersLine stands wall old new text mid (line_call wall.dataset_names line) (Ok x)
      → AppendsPrefix now later mid
      → Stops wall before later whole.calls
  unfolding script_from
  breaks old new before now later text mid whole n line lines rest x split s a f =
      let s' = subst (λ ls. SoFar stands wall old before now text whole
      (script_from (line_call wall.dataset_names) n ls)) split s in
      let r = after old new before now text mid whole
      (script_from (line_call wall.dataset_names) (n + 1) rest) n
      (line_call wall.dataset_names line) x s' a in
      told-breaks wall before now mid whole
      (script_from (line_call wall.dataset_names) (n + 1) rest) r.run r.told later f

  -- a line has a fault
  at_fault : (machine : M) (before now : Option (List ℕ)) (text after : List ℕ)
      (whole rest : Script) (n : ℕ) (said : Result (Option Call) LineFault) (f : LineFault)
      (run : List Entry)
      → Told wall before now text whole (with_line n said rest) run → said ≡ Err f → after ≡ text →
      Ends {X = Unit {0}} stands wall machine before now after whole (Err (Line n f))
  at_fault machine before now text later whole rest n said f run told e k =
      let t = subst (λ (u : List ℕ). Told wall before now u whole (with_line n said rest) run)
      (sym k) told in (
        run,
        subst (λ (r : Result (Option Call) LineFault).
            Told wall before now later whole (with_line n r rest) run) e t,
      )

  no_memory : (machine : M) (before now : Option (List ℕ)) (text after : List ℕ)
      (whole rest : Script) (n : ℕ) (said : Result (Option Call) LineFault) (run : List Entry)
      → Told wall before now text whole (with_line n said rest) run → IsCall said → after ≡ text →
      Ends {X = Unit {0}} stands wall machine before now after whole (Err NoMemory)
  no_memory machine before now text later whole rest n (Ok (Some call)) run told is k = (
    call,
    rest,
    run,
    subst (λ (u : List ℕ). Told wall before now u whole (behind (call ∷ []) rest) run) (sym k) told,
  )
  no_memory machine before now text later whole rest n (Ok None) run told is k = absurd is
  no_memory machine before now text later whole rest n (Err f) run told is k = absurd is

  fails : (old new : M) (before now : Option (List ℕ)) (text after : List ℕ) (whole rest : Script)
      (n : ℕ) (said : Result (Option Call) LineFault) (f : LineFault) (run : List Entry)
      → Told wall before now text whole (with_line n said rest) run →
      FailsLine old new text after said f →
      Ends {X = Unit {0}} stands wall new before now after whole (Err (line_fault n f))
  fails old new before now text later whole rest n said faults.NoMemory run t a =
      no_memory new before now text later whole rest n said run t a.0 a.1
  fails old new before now text later whole rest n said faults.BadVerb run t a =
      at_fault new before now text later whole rest n said faults.BadVerb run t a.0 a.2
  fails old new before now text later whole rest n said faults.BadShape run t a =
      at_fault new before now text later whole rest n said faults.BadShape run t a.0 a.2
  fails old new before now text later whole rest n said faults.BadField run t a =
      at_fault new before now text later whole rest n said faults.BadField run t a.0 a.2
  fails old new before now text later whole rest n said faults.BadKind run t a =
      at_fault new before now text later whole rest n said faults.BadKind run t a.0 a.2
  fails old new before now text later whole rest n said faults.BadType run t a =
      at_fault new before now text later whole rest n said faults.BadType run t a.0 a.2
  fails old new before now text later whole rest n said faults.UnknownOp run t a =
      at_fault new before now text later whole rest n said faults.UnknownOp run t a.0 a.2
  fails old new before now text later whole rest n said faults.BadLabel run t a =
      at_fault new before now text later whole rest n said faults.BadLabel run t a.0 a.2
  fails old new before now text later whole rest n said faults.BadNumber run t a =
      at_fault new before now text later whole rest n said faults.BadNumber run t a.0 a.2
  fails old new before now text later whole rest n said faults.OddPair run t a =
      at_fault new before now text later whole rest n said faults.OddPair run t a.0 a.2

  line_fails : (old new : M) (before now : Option (List ℕ)) (text after : List ℕ)
      (whole rest : Script) (n : ℕ) (said : Result (Option Call) LineFault) (f : LineFault)
      (run : List Entry)
      → Told wall before now text whole (with_line n said rest) run →
      AnswersLine {X = Unit {0}} stands wall old new text after said (Err f) →
      Ends {X = Unit {0}} stands wall new before now after whole (Err (line_fault n f))
  line_fails old new before now text later whole rest n (Ok None) f run t a =
      fails old new before now text later whole rest n (Ok None) f run t a
  line_fails old new before now text later whole rest n (Ok (Some call)) f run t a =
      fails old new before now text later whole rest n (Ok (Some call)) f run t a
  line_fails old new before now text later whole rest n (Err e) f run t a =
      fails old new before now text later whole rest n (Err e) f run t a

  pub ends : (old new : M) (before now : Option (List ℕ)) (text after : List ℕ) (whole : Script)
      (n : ℕ) (line : List ℕ) (lines rest : List (List ℕ)) (f : LineFault)
      → lines ≡ line ∷ rest
      →
      SoFar stands wall old before now text whole
      (script_from (line_call wall.dataset_names) n lines)
      →
      AnswersLine {X = Unit {0}} stands wall old new text after
      (line_call wall.dataset_names line) (Err f)
      → Ends {X = Unit {0}} stands wall new before now after whole (Err (line_fault n f))
  unfolding script_from
  ends old new before now text later whole n line lines rest f split s a =
      let s' = subst (λ ls. SoFar stands wall old before now text whole
      (script_from (line_call wall.dataset_names) n ls)) split s in
      line_fails old new before now text later whole
      (script_from (line_call wall.dataset_names) (n + 1) rest) n
      (line_call wall.dataset_names line) f s'.run s'.told a

  pub is_done : (machine : M) (before now : Option (List ℕ)) (text : List ℕ) (whole : Script)
      (n : ℕ) (lines : List (List ℕ)) (x : Unit {0}) → lines ≡ []
      →
      SoFar stands wall machine before now text whole
      (script_from (line_call wall.dataset_names) n lines) →
      Ends stands wall machine before now text whole (Ok x)
  unfolding script_from
  is_done machine before now text whole n lines x none s = subst (λ ls.
      SoFar stands wall machine before now text whole
      (script_from (line_call wall.dataset_names) n ls)) none s

  -- ---- the end of the text

  -- the text was written
  pub written_out : (machine : M) (before now later : Option (List ℕ)) (text : List ℕ)
      (whole : Script) (r : Result (Unit {0}) ScriptFault) → (r ≡ Err Write → ⊥)
      → Ends stands wall machine before now text whole r → Appends now later text →
      Finishes stands wall machine before later whole r
  written_out machine before now later text whole (Ok x) other e h =
      let a = told-answers wall before now later text whole None e.run e.told h in
      (e.run, a.0, e.standing, a.1)
  written_out machine before now later text whole (Err (Line n f)) other e h =
      let a = told-answers wall before now later text whole (Some (n, f)) e.0 e.1 h in
      (e.0, a.0, a.1)
  written_out machine before now later text whole (Err NoMemory) other e h =
      told-short wall before now later text whole e.1 e.0 e.2 e.3 h
  written_out machine before now later text whole (Err Write) other e h = absurd (other refl)
  written_out machine before now later text whole (Err Read) other e h = absurd e

  -- the writer failed at it
  pub broken_off : (machine : M) (before now later : Option (List ℕ)) (text : List ℕ)
      (whole : Script) (r : Result (Unit {0}) ScriptFault) → (r ≡ Err Write → ⊥)
      → Ends stands wall machine before now text whole r → AppendsPrefix now later text →
      Stops wall before later whole.calls
  broken_off machine before now later text whole (Ok x) other e f =
      told-breaks wall before now text whole no_more e.run e.told later f
  broken_off machine before now later text whole (Err (Line n g)) other e f =
      told-breaks wall before now text whole (fault_at n g) e.0 e.1 later f
  broken_off machine before now later text whole (Err NoMemory) other e f =
      told-breaks wall before now text whole (behind (e.0 ∷ []) e.1) e.2 e.3 later f
  broken_off machine before now later text whole (Err Write) other e f = absurd (other refl)
  broken_off machine before now later text whole (Err Read) other e f = absurd e

  pub not_read : (machine : M) (before now : Option (List ℕ)) (text : List ℕ) (whole : Script)
      (f : ScriptFault) →
      Ends {X = Unit {0}} stands wall machine before now text whole (Err f) → f ≡ Read → ⊥
  not_read machine before now text whole Read e k = e
  not_read machine before now text whole (Line n f) e k = absurd cc
  not_read machine before now text whole Write e k = absurd cc
  not_read machine before now text whole NoMemory e k = absurd cc

-- ---- a script that was not begun

-- memory ran out before the first line
pub short_of_memory : {R W : Type 0} (wall : ChineseWall) (source : Used R) (sink : Used W) →
    NeverFailed source → IsUntouched sink
    → StopsWith wall source sink NoMemory
short_of_memory wall source sink went same = inl (went, same)

-- ---- a script that was read

abbrev failed : ScriptFault → Result (Unit {0}) ScriptFault
failed f = Err f

line_is_no_write : (n : ℕ) (e : LineFault) → failed (Line n e) ≡ failed Write → ⊥
line_is_no_write n e k = cc

memory_is_no_write : failed NoMemory ≡ failed Write → ⊥
memory_is_no_write k = cc

module _ {R W M : Type 0} (stands : M → List Entry → Type 0) (policy : ChineseWall)
    (source : Used R) (sink : Used W) (machine : M) where
  abbrev pub Finished : List ℕ → Result (Unit {0}) ScriptFault → Type 0
  Finished script r = Finishes {X = Unit {0}} stands policy machine (bytes_before sink)
      (bytes_after sink) (script_of policy.dataset_names script) r

  -- the same of the policy and the bytes under other names
  finished : (wall : ChineseWall) (script bytes : List ℕ) (r : Result (Unit {0}) ScriptFault) →
      wall ≡ policy → bytes ≡ script
      →
      Finishes {X = Unit {0}} stands wall machine (bytes_before sink) (bytes_after sink)
      (script_of wall.dataset_names bytes) r → Finished script r
  finished wall script bytes r same is h =
      let P : ChineseWall → Type 0 = λ w. Finishes {M = M} {X = Unit {0}} stands w machine
      (bytes_before sink) (bytes_after sink) (script_of w.dataset_names bytes) r in
      let mine : P policy = subst P same h in
      let Q : List ℕ → Type 0 = λ bs. Finished bs r in
      subst Q is mine

  -- it was answered to its end
  answered_so : (script : List ℕ) → IsRead source script_limit script → NeverFailed sink →
      Finished script (Ok tt)
      → (run : List Entry) × stands machine run × IsReplayed policy source sink run
  answered_so script read went h = (
    h.0,
    h.2,
    record { script = script; read = read; faultless = h.3; went = went; answers = h.1 },
  )

  -- it ended with a fault
  stopped_so : (script : List ℕ) (fault : ScriptFault) → IsRead source script_limit script →
      ((failed fault ≡ failed Write → ⊥) → NeverFailed sink)
      → (failed fault ≡ failed Write → FailedOnce sink) → Finished script (Err fault) →
      StopsWith policy source sink fault
  stopped_so script Read read went broke h = absurd h
  stopped_so script (Line n e) read went broke h =
      (script, read, (h.0, went (line_is_no_write n e), h.1, h.2))
  stopped_so script Write read went broke h = (script, read, broke refl, h)
  stopped_so script NoMemory read went broke h =
      inr (script, read, went memory_is_no_write, h)

  pub answered : (wall : ChineseWall) (script bytes : List ℕ) → wall ≡ policy → bytes ≡ script →
      IsRead source script_limit script → NeverFailed sink
      →
      Finishes {X = Unit {0}} stands wall machine (bytes_before sink) (bytes_after sink)
      (script_of wall.dataset_names bytes) (Ok tt)
      → (run : List Entry) × stands machine run × IsReplayed policy source sink run
  answered wall script bytes same is read went h =
      answered_so script read went (finished wall script bytes (Ok tt) same is h)

  pub stopped : (wall : ChineseWall) (script bytes : List ℕ) (fault : ScriptFault) → wall ≡ policy →
      bytes ≡ script → IsRead source script_limit script
      → ((failed fault ≡ failed Write → ⊥) → NeverFailed sink) →
      (failed fault ≡ failed Write → FailedOnce sink)
      →
      Finishes {X = Unit {0}} stands wall machine (bytes_before sink) (bytes_after sink)
      (script_of wall.dataset_names bytes) (Err fault)
      → StopsWith policy source sink fault
  stopped wall script bytes fault same is read went broke h =
      stopped_so script fault read went broke (finished wall script bytes (Err fault) same is h)

-- ---- what came of a machine that was handed over

module _ {R W M : Type 0} (stands : M → List Entry → Type 0) (wall_of : M → ChineseWall)
    (policy : ChineseWall) (source : Used R) (sink : Used W) (wall : ChineseWall)
    (script bytes : List ℕ) (same : wall ≡ policy) (is : bytes ≡ script)
    (read : IsRead source script_limit script) where
  pub handed_back : (r : Result M ScriptFault)
      → IfOk r (HasFinished stands wall_of wall (bytes_before sink) (bytes_after sink)
      (sink.failures sink.old) (sink.failures sink.new) (script_of wall.dataset_names bytes))
      → IfOk r (λ machine. (run : List Entry) × stands machine run
      × IsReplayed policy source sink run)
  handed_back (Ok machine) h =
      answered stands policy source sink machine wall script bytes same is read h.went h.finishes
  handed_back (Err fault) h = tt

  pub same_policy : (r : Result M ScriptFault)
      → IfOk r (HasFinished stands wall_of wall (bytes_before sink) (bytes_after sink)
      (sink.failures sink.old) (sink.failures sink.new) (script_of wall.dataset_names bytes))
      → IfOk r (λ machine. wall_of machine ≡ policy)
  same_policy (Ok machine) h = h.wall_is ∙ same
  same_policy (Err fault) h = tt

  pub not_handed_back : (r : Result M ScriptFault)
      → IfErr r (HasStopped stands wall (bytes_before sink) (bytes_after sink)
      (sink.failures sink.old) (sink.failures sink.new) (script_of wall.dataset_names bytes))
      → IfErr r (StopsWith policy source sink)
  not_handed_back (Ok machine) h = tt
  not_handed_back (Err fault) h =
      stopped stands policy source sink h.machine wall script bytes fault same is read h.went
      h.broke
      h.finishes

-- ---- a machine that another is made of

module _ {M N : Type 0} (part : M → N) (stands : M → List Entry → Type 0)
    (part_stands : N → List Entry → Type 0)
    (carries : (machine : M) (run : List Entry) → stands machine run →
    part_stands (part machine) run)
    (wall : ChineseWall) (before after : Option (List ℕ)) where
  part_finishes : (machine : M) (script : Script) (r : Result (Unit {0}) ScriptFault) →
      Finishes stands wall machine before after script r →
      Finishes part_stands wall (part machine) before after script r
  part_finishes machine script (Ok x) h = (h.0, h.1, carries machine h.0 h.2, h.3)
  part_finishes machine script (Err Read) h = h
  part_finishes machine script (Err (Line n fault)) h = h
  part_finishes machine script (Err Write) h = h
  part_finishes machine script (Err NoMemory) h = h

  pub part_has_finished : (wall_of : N → ChineseWall) (fewer failures : ℕ) (script : Script)
      (machine : M)
      → HasFinished stands (λ (m : M). wall_of (part m)) wall before after fewer failures script
      machine
      → HasFinished part_stands wall_of wall before after fewer failures script (part machine)
  part_has_finished wall_of fewer failures script machine h = record {
    wall_is = h.wall_is;
    went = h.went;
    finishes = part_finishes machine script (Ok tt) h.finishes;
  }

  pub part_has_stopped : (fewer failures : ℕ) (script : Script) (fault : ScriptFault)
      → HasStopped stands wall before after fewer failures script fault
      → HasStopped part_stands wall before after fewer failures script fault
  part_has_stopped fewer failures script fault h = record {
    machine = part h.machine;
    went = h.went;
    broke = h.broke;
    finishes = part_finishes h.machine script (stopped_by fault) h.finishes;
  }
