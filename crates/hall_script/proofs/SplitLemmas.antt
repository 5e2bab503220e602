-- Scripts that are split line by line.
use Rattle.std.proofs.Common.{◌≡◌, ℕ, ◌+◌, ◌<◌, List, [], ◌∷◌, ◌++◌, length, replicate, get_or}
use Rattle.std.proofs.Common.{Bool, true, false, cond, eqb, ltb, Option, Some, None, Result, Ok}
use Rattle.std.proofs.Common.{Err, refl, sym, ap, ◌∙◌, subst, append_assoc}
use Rattle.std.proofs.lemmas.List.{append-nil, get_or-set_same, get_or-set_other, length-set}
use Rattle.std.proofs.lemmas.List.{length-replicate, get_or-replicate}
use Rattle.std.specs.Prelude.{All}
use Rattle.std.proofs.lemmas.List.Elements.{All-nil}
use Rattle.run_model.specs.Known.{HasKnownLabel, ScriptsHaveKnownLabels}
use Rattle.std.proofs.lemmas.Bool.{eqb-true, eq-eqb, ltb-true}
use Rattle.std.proofs.lemmas.Option.{slice_get-get_or}
use Rattle.wall_policy.specs.Policy.{ChineseWall}
use Rattle.coll_text.specs.declared.fault.LineFault.{LineFault}
use Rattle.coll_text.specs.declared.fault.LineFault.TheVariants as faults
use Rattle.coll_text.specs.Reading.{◌>>=◌, Fails}
use Rattle.run_model.specs.declared.call.Act.{Act}
use Rattle.run_model.specs.declared.call.Call.{Call}
use Rattle.hall_script.specs.Scripts.{Script, with_line, line_call, of_member, member_call}
use Rattle.hall_script.specs.Scripts.{script_from, acts_of, AreActs, IsSplit}
use Rattle.hall_script.specs.Splitting.{with_act, with_said, with_line_of, SplitSoFar}
use Rattle.hall_script.specs.Answering.{IsCall, line_fault}

-- ---- processes of the policy

low_by : (wall : ChineseWall) (c call : Call) (b : Bool) →
    ltb c.process (length wall.process_names) ≡ b →
    cond b (Ok (Some c)) (Err faults.BadField) ≡ Ok (Some call) →
    call.process < length wall.process_names
low_by wall c call true h e = let same : c ≡ call = cc in
    subst (λ (x : Call). x.process < length wall.process_names) same
    (ltb-true c.process (length wall.process_names) h)
low_by wall c call false h e = absurd cc

low_of : (wall : ChineseWall) (said : Option Call) (call : Call) →
    of_member wall said ≡ Ok (Some call) → call.process < length wall.process_names
low_of wall None call e = absurd cc
low_of wall (Some c) call e = low_by wall c call (ltb c.process (length wall.process_names)) refl e

low_in : (wall : ChineseWall) (said : Result (Option Call) LineFault) (call : Call) →
    (said >>= λ s. of_member wall s) ≡ Ok (Some call) → call.process < length wall.process_names
low_in wall (Ok said) call e = low_of wall said call e
low_in wall (Err f) call e = absurd cc

pub member_is_low : (wall : ChineseWall) (line : List ℕ) (call : Call) →
    member_call wall line ≡ Ok (Some call) → call.process < length wall.process_names
unfolding member_call
member_is_low wall line call e = low_in wall (line_call wall.dataset_names line) call e

call_in : (wall : ChineseWall) (said : Result (Option Call) LineFault) (call : Call) →
    (said >>= λ s. of_member wall s) ≡ Ok (Some call) → IsCall said
call_in wall (Ok (Some c)) call e = tt
call_in wall (Ok None) call e = absurd cc
call_in wall (Err f) call e = absurd cc

pub member_is_call : (wall : ChineseWall) (line : List ℕ) (call : Call) →
    member_call wall line ≡ Ok (Some call) → IsCall (line_call wall.dataset_names line)
unfolding member_call
member_is_call wall line call e = call_in wall (line_call wall.dataset_names line) call e

-- ---- acts so far

act_added : (rows : List (List Act)) (q : ℕ) (act : Act) (p : ℕ) (rest total : List Act) →
    q < length rows → (same : Bool) → eqb q p ≡ same
    → get_or rows p [] ++ cond same (act ∷ rest) rest ≡ total →
    get_or (with_act rows q act) p [] ++ rest ≡ total
act_added rows q act p rest total lt true e h =
    let at : q ≡ p = eqb-true q p e in
    subst (λ (r : ℕ). get_or (with_act rows q act) r [] ++ rest ≡ total) at (
    ap (λ (xs : List Act). xs ++ rest) (get_or-set_same rows q (get_or rows q [] ++ act ∷ []) [] lt)
    ∙ append_assoc (get_or rows q []) (act ∷ []) rest
    ∙ ap (λ (r : ℕ). get_or rows r [] ++ act ∷ rest) at
    ∙ h
    )
act_added rows q act p rest total lt false e h =
    ap (λ (xs : List Act). xs ++ rest) (get_or-set_other rows q p (get_or rows q [] ++ act ∷ []) []
    (λ k. let t : eqb q p ≡ true = eq-eqb q p (sym k) in cc)) ∙ h

pub none_named : (wall : ChineseWall) (n : ℕ) (rows : List (List Act)) → rows ≡ replicate n [] →
    ScriptsHaveKnownLabels wall rows
none_named wall n rows e =
    let none : ScriptsHaveKnownLabels wall (replicate n []) = λ k d lt.
    subst (All (HasKnownLabel wall))
    (sym (get_or-replicate n k [] d (subst (λ (m : ℕ). k < m) (length-replicate n []) lt)))
    (All-nil (HasKnownLabel wall)) in
    subst (ScriptsHaveKnownLabels wall) (sym e) none

module _ (wall : ChineseWall) (whole : Script) where
  pub begins : (rows : List (List Act)) → rows ≡ replicate (length wall.process_names) [] →
      SplitSoFar wall whole whole rows
  begins rows e =
      let n = length wall.process_names in
      let none : SplitSoFar wall whole whole (replicate n []) = record {
        count = length-replicate n [];
        each = λ p lt. ap (λ (xs : List Act). xs ++ acts_of p whole.calls)
            (get_or-replicate n p [] [] (subst (λ (m : ℕ). p < m) (length-replicate n []) lt));
        fault = refl;
      } in
      subst (λ (rs : List (List Act)). SplitSoFar wall whole whole rs) (sym e) none

  -- a line is read
  after : (old new : List (List Act)) (rest : Script) (n : ℕ)
      (said : Result (Option Call) LineFault) →
      ((call : Call) → said ≡ Ok (Some call) → call.process < length wall.process_names)
      → SplitSoFar wall whole (with_line n said rest) old →
      (said >>= λ s. Ok (with_said old s)) ≡ Ok new → SplitSoFar wall whole rest new
  after old new rest n (Ok None) low s e = let same : old ≡ new = cc in
      subst (λ (rs : List (List Act)). SplitSoFar wall whole rest rs) same s
  after old new rest n (Ok (Some call)) low s e =
      let same : with_act old call.process call.act ≡ new = cc in
      let lt : call.process < length old = subst (λ (m : ℕ). call.process < m) (sym s.count)
      (low call refl) in
      let long = length-set old call.process (get_or old call.process [] ++ call.act ∷ []) in
      let one : SplitSoFar wall whole rest (with_act old call.process call.act) = record {
        count = long ∙ s.count;
        each = λ p h. act_added old call.process call.act p (acts_of p rest.calls)
            (acts_of p whole.calls) lt (eqb call.process p) refl
            (s.each p (subst (λ (m : ℕ). p < m) long h));
        fault = s.fault;
      } in
      subst (λ (rs : List (List Act)). SplitSoFar wall whole rest rs) same one
  after old new rest n (Err f) low s e = absurd cc

  pub goes_on : (old new : List (List Act)) (n : ℕ) (line : List ℕ) (lines rest : List (List ℕ)) →
      lines ≡ line ∷ rest → SplitSoFar wall whole (script_from (member_call wall) n lines) old
      → with_line_of wall line old ≡ Ok new →
      SplitSoFar wall whole (script_from (member_call wall) (n + 1) rest) new
  unfolding script_from
  goes_on old new n line lines rest split s e =
      let s' = subst (λ ls. SplitSoFar wall whole (script_from (member_call wall) n ls) old) split s
      in
      after old new (script_from (member_call wall) (n + 1) rest) n (member_call wall line)
      (member_is_low wall line) s' e

  -- a line has a fault
  stopped : (rows : List (List Act)) (rest : Script) (n : ℕ) (f : LineFault)
      (said : Result (Option Call) LineFault) →
      SplitSoFar wall whole (with_line n said rest) rows
      → (said >>= λ s. Ok (with_said rows s)) ≡ Err f → whole.fault ≡ Some (n, f)
  stopped rows rest n f (Ok s) so_far e = absurd cc
  stopped rows rest n f (Err g) so_far e =
      let same : g ≡ f = cc in sym so_far.fault ∙ ap (λ (h : LineFault). Some (n, h)) same

  fails : (rows : List (List Act)) (rest : Script) (n : ℕ) (said : Result (Option Call) LineFault)
      (f : LineFault) → SplitSoFar wall whole (with_line n said rest) rows
      → Fails f (said >>= λ s. Ok (with_said rows s)) → IsSplit wall whole (Err (line_fault n f))
  fails rows rest n said faults.NoMemory s a = tt
  fails rows rest n said faults.BadVerb s a = stopped rows rest n faults.BadVerb said s a
  fails rows rest n said faults.BadShape s a = stopped rows rest n faults.BadShape said s a
  fails rows rest n said faults.BadField s a = stopped rows rest n faults.BadField said s a
  fails rows rest n said faults.BadKind s a = stopped rows rest n faults.BadKind said s a
  fails rows rest n said faults.BadType s a = stopped rows rest n faults.BadType said s a
  fails rows rest n said faults.UnknownOp s a = stopped rows rest n faults.UnknownOp said s a
  fails rows rest n said faults.BadLabel s a = stopped rows rest n faults.BadLabel said s a
  fails rows rest n said faults.BadNumber s a = stopped rows rest n faults.BadNumber said s a
  fails rows rest n said faults.OddPair s a = stopped rows rest n faults.OddPair said s a

  pub ends : (rows : List (List Act)) (n : ℕ) (line : List ℕ) (lines rest : List (List ℕ))
      (f : LineFault) → lines ≡ line ∷ rest →
      SplitSoFar wall whole (script_from (member_call wall) n lines) rows
      → Fails f (with_line_of wall line rows) → IsSplit wall whole (Err (line_fault n f))
  unfolding script_from
  ends rows n line lines rest f split s a =
      let s' = subst (λ ls. SplitSoFar wall whole (script_from (member_call wall) n ls) rows) split
      s in
      fails rows (script_from (member_call wall) (n + 1) rest) n (member_call wall line) f s' a

  pub is_done : (rows : List (List Act)) (n : ℕ) (lines : List (List ℕ)) → lines ≡ [] →
      SplitSoFar wall whole (script_from (member_call wall) n lines) rows →
      AreActs wall whole.calls rows × (whole.fault ≡ None)
  unfolding script_from
  is_done rows n lines none s =
      let s' = subst (λ ls. SplitSoFar wall whole (script_from (member_call wall) n ls) rows) none s
      in (
        record {
          count = s'.count;
          each = λ p h.
              let lt : p < length rows = subst (λ (m : ℕ). p < m) (sym s'.count) h in
              slice_get-get_or rows p [] lt
              ∙ ap Some (sym (append-nil (get_or rows p [])) ∙ s'.each p lt);
        },
        sym s'.fault,
      )
