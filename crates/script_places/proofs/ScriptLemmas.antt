-- The faults of a script, line by line.
use Rattle.std.proofs.Common.{◌≡◌, ℕ, zero, suc, ◌+◌, ◌-◌, ◌==◌, ◌<◌, ◌≤◌, List, [], ◌∷◌, ◌++◌}
use Rattle.std.proofs.Common.{length}
use Rattle.std.proofs.Common.{drop, Option, Some, None, refl, sym, ap, ◌∙◌, subst}
use Rattle.std.proofs.Common.{arith}
use Rattle.std.proofs.Common.{slice_get, inl, inr}
use Rattle.std.specs.Prelude.{All, AllPairs, Contains}
use Rattle.std.proofs.Common.{Bool, true, false, cond, Result, Ok, Err}
use Rattle.std.proofs.lemmas.Bool.{cases_lt, lt-ltb, le-ltb}
use Rattle.std.proofs.lemmas.List.Elements.{All-nil, All-push, All-weaker, All-get_or}
use Rattle.std.proofs.lemmas.List.Elements.{Contains-push}
use Rattle.std.proofs.lemmas.List.Elements.{Contains-append_left}
use Rattle.std.proofs.lemmas.List.Quantifiers.{all_pairs_push}
use Rattle.std.proofs.lemmas.List.Sums.{count_by-le-length}
use Rattle.std.proofs.lemmas.List.Splits.{length-slice_split}
use Rattle.std.proofs.lemmas.Option.{slice_get_within}
use Rattle.wall_policy.specs.Policy.{ChineseWall}
use Rattle.run_model.specs.declared.call.Call.{Call}
use Rattle.coll_text.specs.declared.fault.LineFault.{LineFault}
use Rattle.coll_text.specs.declared.fault.LineFault.TheVariants.{BadField}
use Rattle.coll_text.specs.Reading.{◌>>=◌, parts}
use Rattle.hall_script.specs.Lines.{answer_to}
use Rattle.hall_script.specs.Scripts.{trimmed, is_skipped, line_call, of_member, member_call}
use Rattle.script_places.specs.declared.found.Found.{Found}
use Rattle.script_places.specs.Places.{IsFaultColumn}
use Rattle.script_places.specs.Found.{HasFault, IsFound, AreFaults}

---- the fault of a line

module _ (wall : ChineseWall) (line : List ℕ) where
  said : Bool → Result Call LineFault → Result (Option Call) LineFault
  said skipped answer =
      cond skipped (Ok None) (answer >>= λ call. Ok (Some call)) >>= λ one. of_member wall one

  read_is : member_call wall line
      ≡ said (is_skipped (trimmed line)) (answer_to wall.dataset_names (trimmed line))
  unfolding member_call line_call said
  read_is = refl

  read_as : (skipped : Bool) (answer : Result Call LineFault) →
      is_skipped (trimmed line) ≡ skipped → answer_to wall.dataset_names (trimmed line) ≡ answer →
      member_call wall line ≡ said skipped answer
  read_as skipped answer s a = read_is
      ∙ ap (λ (x : Bool). said x (answer_to wall.dataset_names (trimmed line))) s
      ∙ ap (said skipped) a

  -- one that is passed over has none
  pub skipped_none : is_skipped (trimmed line) ≡ true → (fault : LineFault) →
      ¬ (HasFault wall line fault)
  unfolding said
  skipped_none s fault has =
      let none : Ok None ≡ Err fault =
      sym (read_as true (answer_to wall.dataset_names (trimmed line)) s refl) ∙ has in
      absurd cc

  -- one that is no call has that of its words
  pub own_fault : is_skipped (trimmed line) ≡ false → (fault : LineFault) →
      answer_to wall.dataset_names (trimmed line) ≡ Err fault → HasFault wall line fault
  unfolding said
  own_fault s fault a = read_as false (Err fault) s a

  -- a call of a process that there is has none
  pub member_none : is_skipped (trimmed line) ≡ false → (call : Call) →
      answer_to wall.dataset_names (trimmed line) ≡ Ok call →
      call.process < length wall.process_names → (fault : LineFault) → ¬ (HasFault wall line fault)
  unfolding said
  member_none s call a low fault has =
      let is : said false (Ok call) ≡ Ok (Some call) = ap
      (λ (x : Bool). cond x (Ok (Some call)) (Err BadField))
      (lt-ltb call.process (length wall.process_names) low) in
      let none : Ok (Some call) ≡ Err fault = sym is ∙ sym (read_as false (Ok call) s a) ∙ has in
      absurd cc

  -- a call of one that there is not has this
  pub absent_fault : is_skipped (trimmed line) ≡ false → (call : Call) →
      answer_to wall.dataset_names (trimmed line) ≡ Ok call →
      length wall.process_names ≤ call.process → HasFault wall line BadField
  unfolding said
  absent_fault s call a high = read_as false (Ok call) s a
      ∙ ap (λ (x : Bool). cond x (Ok (Some call)) (Err BadField))
      (le-ltb call.process (length wall.process_names) high)

---- the lines of a script

-- there is no line more than bytes, but for one
pub lines_few : (bytes : List ℕ) → length (parts 10 bytes) ≤ length bytes + 1
lines_few bytes =
    let lines = length-slice_split (λ b. b == 10) bytes in
    let few = count_by-le-length (λ b. b == 10) bytes in
    omega (arith, lines, few)

-- the faults of the lines before number n
pub record AreFaultsTo (wall : ChineseWall) (lines : List (List ℕ)) (n : ℕ) (found : List Found)
    : Type 0 where
  pub sound : All (IsFound wall lines) found
  pub early : All (λ f. f.line < n) found
  pub whole : (m : ℕ) (line : List ℕ) (fault : LineFault) → m + 1 < n →
      slice_get lines m ≡ Some line → HasFault wall line fault →
      (one : Found) × Contains found one × (one.line ≡ m + 1)
  pub once : AllPairs (λ a b. a.line < b.line) found

module _ (wall : ChineseWall) (lines : List (List ℕ)) where
  pub faults_none : AreFaultsTo wall lines 1 []
  faults_none = record {
    sound = All-nil (IsFound wall lines);
    early = All-nil (λ f. f.line < 1);
    whole = λ m line fault low at has. absurd (omega arith);
    once = λ i j d lt within. absurd (omega arith);
  }

  -- the line that comes next
  pub next_line : (n : ℕ) (line : List ℕ) (rest : List (List ℕ)) → drop n lines ≡ line ∷ rest →
      (slice_get lines n ≡ Some line) × (rest ≡ drop (n + 1) lines)
  next_line n line rest e = go n lines e
    where
      go : (n : ℕ) (ls : List (List ℕ)) → drop n ls ≡ line ∷ rest →
          (slice_get ls n ≡ Some line) × (rest ≡ drop (n + 1) ls)
      go zero [] h = absurd cc
      go zero (l ∷ ls) h = (
        let same : l ≡ line = cc in ap (λ (x : List ℕ). Some x) same,
        let same : ls ≡ rest = cc in sym same,
      )
      go (suc n) [] h = absurd cc
      go (suc n) (l ∷ ls) h =
          let later = go n ls h in
          let more : suc n + 1 ≡ suc (n + 1) = omega arith in
          (later.0, later.1 ∙ ap (λ m. drop m (l ∷ ls)) (sym more))

  module _ (n : ℕ) (line : List ℕ) (found : List Found) (some : 1 ≤ n)
      (at : slice_get lines (n - 1) ≡ Some line)
      (so_far : AreFaultsTo wall lines n found) where
    -- a line without a fault
    pub faults_same : ((fault : LineFault) → ¬ (HasFault wall line fault)) →
        AreFaultsTo wall lines (n + 1) found
    faults_same none = record {
      sound = so_far.sound;
      early = All-weaker (λ (f : Found). f.line < n) (λ (f : Found). f.line < n + 1)
          (λ f lt. omega arith) found so_far.early;
      whole = λ m l fault low there has. elim (cases_lt (m + 1) n) [
        | inl earlier ↦ so_far.whole m l fault earlier there has
        | inr here ↦
            let same : m ≡ n - 1 = omega arith in
            let both : Some l ≡ Some line = sym there ∙ ap (slice_get lines) same ∙ at in
            let line_is : l ≡ line = cc in
            absurd (none fault (subst (λ k. HasFault wall k fault) line_is has))
      ];
      once = so_far.once;
    }

    -- a line with one
    pub faults_more : (one : Found) → one.line ≡ n → HasFault wall line one.fault →
        IsFaultColumn wall (trimmed line) one.fault one.column →
        AreFaultsTo wall lines (n + 1) (found ++ one ∷ [])
    faults_more one number has column =
        let there : slice_get lines (one.line - 1) ≡ Some line =
        ap (λ m. slice_get lines (m - 1)) number ∙ at in
        record {
          sound = All-push (IsFound wall lines) found one so_far.sound
              (record {
                line = line;
                counted = omega (arith, number, some);
                there = there;
                fault = has;
                column = column;
              });
          early = All-push (λ (f : Found). f.line < n + 1) found one
              (All-weaker (λ (f : Found). f.line < n) (λ (f : Found). f.line < n + 1)
              (λ f lt. omega arith) found so_far.early)
              (omega (arith, number));
          whole = λ m l fault low at_m has_m. elim (cases_lt (m + 1) n) [
            | inl earlier ↦
                let old = so_far.whole m l fault earlier at_m has_m in
                (old.0, Contains-append_left found (one ∷ []) old.0 old.1, old.2)
            | inr here ↦ (one, Contains-push found one, omega (arith, number))
          ];
          once = all_pairs_push (λ (a b : Found). a.line < b.line) found one so_far.once
              (λ k d within.
              let low = All-get_or (λ (f : Found). f.line < n) found k d within so_far.early in
              omega (arith, number, low));
        }

  -- all lines
  pub faults_all : (n : ℕ) (found : List Found) → AreFaultsTo wall lines n found → 1 ≤ n →
      [] ≡ drop (n - 1) lines → AreFaults wall lines found
  faults_all n found so_far some none = record {
    sound = so_far.sound;
    whole = λ m line fault at has.
        let low = slice_get_within lines m line at in
        let all = past (n - 1) lines none in
        so_far.whole m line fault (omega arith) at has;
    once = so_far.once;
  }
    where
      past : (n : ℕ) (ls : List (List ℕ)) → [] ≡ drop n ls → length ls ≤ n
      past zero [] h = omega arith
      past zero (l ∷ ls) h = absurd cc
      past (suc n) [] h = omega arith
      past (suc n) (l ∷ ls) h = let later = past n ls h in omega arith
