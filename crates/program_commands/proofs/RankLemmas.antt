-- The text of a run, process by process, and what becomes of a script whose scripts were run.
use Rattle.std.proofs.Common.{◌≡◌, ℕ, zero, suc, ◌+◌, ◌-◌, ◌≤◌, ◌⊎◌, inl, inr, List, [], ◌++◌}
use Rattle.std.proofs.Common.{length, slice_index_or, Option, sym, ap, subst, subst₂, ◌∙◌}
use Rattle.std.proofs.Common.{Result, Ok, Err}
use Rattle.std.specs.Prelude.{IfOk, IfErr}
use Rattle.std.proofs.Common.{append_assoc, append-nil, arith}
use Rattle.std.specs.Io.KnownBytes.{Appends}
use Rattle.wall_labels.specs.Known.{AppendsPrefix}
use Rattle.wall_policy.specs.Policy.{ChineseWall}
use Rattle.run_model.specs.declared.call.Act.{Act}
use Rattle.run_model.specs.declared.reply.Reply.{Reply}
use Rattle.run_model.specs.Runs.{Entry}
use Rattle.audit_book.specs.declared.fault.WriteFault.{WriteFault}
use Rattle.audit_book.specs.declared.fault.WriteFault.TheVariants as writes
use Rattle.hall_core.specs.Halls.{HallValue, StandsFor}
use Rattle.hall_script.specs.Devices.{Used, used, IsUntouched}
use Rattle.rank_run.specs.Waits.{script_patience}
use Rattle.rank_run.specs.Ran.{IsRun, Ran}
use Rattle.program_commands.specs.declared.ending.Ending.{Ending}
use Rattle.program_commands.specs.Replaying.{IsKept, IsUnkept, KeepsIfRan}
use Rattle.program_commands.specs.Running.{rank_line, reply_lines, ranks_text, rank_text}
use Rattle.program_commands.specs.Running.{break_ending}
use Rattle.program_commands.specs.Running.{IsScriptOf, IsNoRun, Tells, Breaks, Runs, Reached}
use Rattle.program_commands.specs.Running.{FellShort, RunsIfRead}
use Rattle.wall_labels.proofs.WallLabelsLemmas.{Appends-then}
use Rattle.live_book.proofs.LiveBookLemmas.{prefix_more, prefix_then}
use Rattle.program_commands.proofs.KnownLemmas.{appends_none}
use Rattle.program_commands.proofs.ReplayLemmas.{no_hall}

-- the text of one process more
pub ranks_more : (wall : ChineseWall) (rows : List (List Reply)) (n : ℕ)
    →
    ranks_text wall rows (n + 1)
    ≡ ranks_text wall rows n
    ++ (rank_line wall n ++ reply_lines wall (slice_index_or rows n []))
unfolding ranks_text
ranks_more wall rows n = let e : n + 1 ≡ suc n = omega arith in ap (ranks_text wall rows) e

-- the text of the first processes begins that of more of them
pub ranks_prefix : (wall : ChineseWall) (rows : List (List Reply)) (n more : ℕ)
    → (rest : List ℕ) × (ranks_text wall rows n ++ rest ≡ ranks_text wall rows (n + more))
ranks_prefix wall rows n zero = let e : n ≡ n + 0 = omega arith in
    ([], append-nil (ranks_text wall rows n) ∙ ap (ranks_text wall rows) e)
ranks_prefix wall rows n (suc more) =
    let prefix = ranks_prefix wall rows n more in
    let last = rank_line wall (n + more) ++ reply_lines wall (slice_index_or rows (n + more) []) in
    let e : n + more + 1 ≡ n + suc more = omega arith in (
      prefix.0 ++ last,
      sym (append_assoc (ranks_text wall rows n) prefix.0 last)
          ∙ ap (λ (l : List ℕ). l ++ last) prefix.1
          ∙ sym (ranks_more wall rows (n + more)) ∙ ap (ranks_text wall rows) e,
    )

pub ranks_none : (wall : ChineseWall) (rows : List (List Reply)) (a : Option (List ℕ)) →
    Appends a a (ranks_text wall rows 0)
unfolding ranks_text
ranks_none wall rows a = appends_none a

-- the lines of process n were written behind those of the processes before
pub ranks_step : (wall : ChineseWall) (rows : List (List Reply)) (n p : ℕ) (given : List Reply)
    (a b c : Option (List ℕ)) → p ≡ n → given ≡ slice_index_or rows n []
    → Appends a b (ranks_text wall rows n) →
    Appends b c (rank_line wall p ++ reply_lines wall given) →
    Appends a c (ranks_text wall rows (n + 1))
ranks_step wall rows n p given a b c is are before now =
    let now' = subst₂ (λ q g. Appends b c (rank_line wall q ++ reply_lines wall g)) is are now in
    let last = rank_line wall n ++ reply_lines wall (slice_index_or rows n []) in
    subst (Appends a c) (sym (ranks_more wall rows n))
    (Appends-then a b c (ranks_text wall rows n) last before now')

-- the writer broke off in the lines of process n
pub ranks_broken : (wall : ChineseWall) (rows : List (List Reply)) (n p : ℕ) (given : List Reply)
    (a b c : Option (List ℕ)) → p ≡ n → given ≡ slice_index_or rows n []
    → n + 1 ≤ length rows → Appends a b (ranks_text wall rows n) →
    AppendsPrefix b c (rank_line wall p ++ reply_lines wall given)
    → AppendsPrefix a c (ranks_text wall rows (length rows))
ranks_broken wall rows n p given a b c is are lt before broken =
    let broken' = subst₂ (λ q g. AppendsPrefix b c (rank_line wall q ++ reply_lines wall g)) is are
    broken in
    let last = rank_line wall n ++ reply_lines wall (slice_index_or rows n []) in
    let begun = subst (AppendsPrefix a c) (sym (ranks_more wall rows n))
    (prefix_then a b c (ranks_text wall rows n) last before broken') in
    let whole = ranks_prefix wall rows (n + 1) (length rows - (n + 1)) in
    let e : n + 1 + (length rows - (n + 1)) ≡ length rows = omega arith in
    subst (AppendsPrefix a c) (whole.1 ∙ ap (ranks_text wall rows) e)
    (prefix_more a c (ranks_text wall rows (n + 1)) whole.0 begun)

pub ranks_done : (wall : ChineseWall) (rows : List (List Reply)) (n : ℕ) (a b : Option (List ℕ)) →
    n ≡ length rows → Appends a b (ranks_text wall rows n)
    → Appends a b (rank_text wall rows)
ranks_done wall rows n a b e written = subst (λ m. Appends a b (ranks_text wall rows m)) e written

-- in the lines of process n the writer failed, or memory ran out
pub ranks_fell_short : {O : Type 0} (failures : O → ℕ) (contents : O → Option (List ℕ))
    (wall : ChineseWall) (rows : List (List Reply)) (n p : ℕ) (given : List Reply) (a b c : O)
    (fault : WriteFault)
    → p ≡ n → given ≡ slice_index_or rows n [] → n + 1 ≤ length rows → failures b ≡ failures a →
    Appends (contents a) (contents b) (ranks_text wall rows n)
    →
    Breaks (used failures contents b c) (rank_line wall p ++ reply_lines wall given)
    (break_ending fault)
    → Breaks (used failures contents a c) (ranks_text wall rows (length rows)) (break_ending fault)
ranks_fell_short failures contents wall rows n p given a b c writes.Write is are lt same before
    broke = (
      broke.0 ∙ ap (λ (m : ℕ). m + 1) same,
      ranks_broken wall rows n p given (contents a) (contents b) (contents c) is are lt before
          broke.1,
    )
ranks_fell_short failures contents wall rows n p given a b c writes.NoMemory is are lt same before
    broke = (
      broke.0 ∙ same,
      ranks_broken wall rows n p given (contents a) (contents b) (contents c) is are lt before
          broke.1,
    )

-- ---- a run that ended before its book

module _ {S O : Type 0} (wall : ChineseWall) (script : Used S) (out : Used O) where
  -- the writer failed, or memory ran out, in the text
  pub broken : (named : ChineseWall) (scripts : List (List Act)) (replies : List (List Reply))
      (hall : HallValue) (fault : WriteFault) (ending : Ending)
      → IsScriptOf wall script scripts → Ran script_patience wall scripts replies hall →
      named ≡ hall.policy → ending ≡ break_ending fault
      → Breaks out (rank_text named replies) (break_ending fault) → FellShort wall script out ending
  broken named scripts replies hall fault ending read ran is so breaks = inr (
    scripts,
    read,
    inr (
      replies,
      ran.run,
      ran.is,
      subst₂ (λ w e. Breaks out (rank_text w replies) e) (is ∙ ran.policy) (sym so) breaks,
    ),
  )

  short : {B : Type 0} (book : Option (Used B)) (scripts : List (List Act)) (ending : Ending) →
      IsUnkept book
      → (IsNoRun scripts ending × IsUntouched out)
      ⊎ ((replies : List (List Reply)) × (run : List Entry)
      × IsRun script_patience wall scripts replies run
      × Breaks out (rank_text wall replies) ending)
      → (IsNoRun scripts ending × IsUntouched out × IsUnkept book)
      ⊎ Tells wall scripts out book ending
  short book scripts ending none (inl a) = inl (a.0, a.1, none)
  short book scripts ending none (inr a) =
      inr (record { replies = a.0; run = a.1; ran = a.2; told = inr (a.3, none) })

  -- the run ended before the book was looked at
  pub ended : {B : Type 0} (book : Option (Used B)) (ending : Ending) →
      FellShort wall script out ending → IsUnkept book → Runs wall script out book ending
  ended book ending (inl a) none = inl (a.0, a.1, none)
  ended book ending (inr a) none = inr (a.0, a.1, short book a.0 ending none a.2)

  -- the text was written, and the book of each run that the hall stands for was kept so
  pub reached : {B : Type 0} (book : Option (Used B)) (hall : HallValue) (ending : Ending) →
      Reached wall script out hall
      → ((run : List Entry) → StandsFor hall run → IsKept wall run book ending) →
      Runs wall script out book ending
  reached book hall ending r kept = inr (
    r.scripts,
    r.read,
    inr (record {
      replies = r.replies;
      run = r.ran.run;
      ran = r.ran.is;
      told = inl (r.written, kept r.ran.run r.ran.stands);
    }),
  )

-- ---- a policy that was read or not, what comes of its script, and the book

module _ {S O B : Type 0} (script : Used S) (out : Used O) (book : Option (Used B)) where
  -- under a policy at hand
  pub ran_so : (wall : ChineseWall) (hall : Result HallValue Ending) (ending : Ending) →
      RunsIfRead (Ok wall) script out hall → KeepsIfRan hall book ending →
      Runs wall script out book ending
  ran_so wall (Ok hall) ending so kept =
      reached wall script out book hall ending so
      (λ run stands. subst (λ w. IsKept w run book ending) so.ran.policy (kept run stands))
  ran_so wall (Err before) ending so kept =
      ended wall script out book ending (subst (FellShort wall script out) (sym kept.0) so) kept.1

  pub ran_under : (IsOne : ChineseWall → Type 0) (IsNone : Ending → Type 0)
      (wall : Result ChineseWall Ending) (hall : Result HallValue Ending) (ending : Ending) →
      IfOk wall IsOne → IfErr wall IsNone → RunsIfRead wall script out hall →
      KeepsIfRan hall book ending →
      (IsNone ending × IsUntouched script × IsUntouched out × IsUnkept book)
      ⊎ ((wall : ChineseWall) × IsOne wall × Runs wall script out book ending)
  ran_under IsOne IsNone (Err before) hall ending one none so kept =
      let ends = no_hall book IsNone hall before ending so.0 kept none in
      inl (ends.0, so.1, so.2, ends.1)
  ran_under IsOne IsNone (Ok wall) hall ending one none so kept =
      inr (wall, one, ran_so wall hall ending so kept)
