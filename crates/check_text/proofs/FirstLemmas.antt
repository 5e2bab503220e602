-- The first fault of a script is the first of all its faults.
use Rattle.std.proofs.Common.{◌≡◌, ℕ, zero, suc, ◌+◌, ◌-◌, ◌<◌, ◌≤◌, List}
use Rattle.std.proofs.Common.{[], ◌∷◌, length, get_or, Option, Some, None, Result, Ok, Err, refl}
use Rattle.std.proofs.Common.{sym, ap, ◌∙◌, arith, slice_get}
use Rattle.std.specs.Prelude.{All, AllPairs, Contains, ◌↔◌}
use Rattle.std.proofs.lemmas.List.Elements.{All-weaker}
use Rattle.wall_policy.specs.Policy.{ChineseWall}
use Rattle.run_model.specs.declared.call.Call.{Call}
use Rattle.coll_text.specs.declared.fault.LineFault.{LineFault}
use Rattle.coll_text.specs.Reading.{parts}
use Rattle.hall_script.specs.Scripts.{script_from, with_line, member_call, members_script}
use Rattle.script_places.specs.declared.found.Found.{Found}
use Rattle.script_places.specs.Found.{IsFound, AreFaults}
use Rattle.check_text.specs.Lines.{first_of, IsFaultless}

---- the faults of lines from a number on, each read so

module _ (read : List ℕ → Result (Option Call) LineFault) where
  record IsFaultFrom (n : ℕ) (lines : List (List ℕ)) (found : Found) : Type 0 where
    from : n ≤ found.line
    line : List ℕ
    there : slice_get lines (found.line - n) ≡ Some line
    fault : read line ≡ Err found.fault

  record AreFaultsFrom (n : ℕ) (lines : List (List ℕ)) (found : List Found) : Type 0 where
    sound : All (IsFaultFrom n lines) found
    whole : (m : ℕ) (line : List ℕ) (fault : LineFault) → slice_get lines m ≡ Some line →
        read line ≡ Err fault → (one : Found) × Contains found one × (one.line ≡ n + m)
    once : AllPairs (λ a b. a.line < b.line) found

  -- the first line has no fault
  later_one : (n : ℕ) (l : List ℕ) (ls : List (List ℕ)) (found : Found) →
      ((fault : LineFault) → read l ≡ Err fault → ⊥) → IsFaultFrom n (l ∷ ls) found →
      IsFaultFrom (n + 1) ls found
  later_one n l ls found none one = go (found.line - n) refl one.there
    where
      go : (k : ℕ) → found.line - n ≡ k → slice_get (l ∷ ls) (found.line - n) ≡ Some one.line →
          IsFaultFrom (n + 1) ls found
      go zero e at =
          let here : Some l ≡ Some one.line = sym (ap (slice_get (l ∷ ls)) e) ∙ at in
          let same : l ≡ one.line = cc in
          absurd (none found.fault (ap read same ∙ one.fault))
      go (suc k) e at =
          let low = one.from in
          let less : found.line - (n + 1) ≡ k = omega arith in
          record {
            from = omega arith;
            line = one.line;
            there = ap (slice_get ls) less ∙ sym (ap (slice_get (l ∷ ls)) e) ∙ at;
            fault = one.fault;
          }

  later : (n : ℕ) (l : List ℕ) (ls : List (List ℕ)) (found : List Found) →
      ((fault : LineFault) → read l ≡ Err fault → ⊥) → AreFaultsFrom n (l ∷ ls) found →
      AreFaultsFrom (n + 1) ls found
  later n l ls found none so = record {
    sound = All-weaker (IsFaultFrom n (l ∷ ls)) (IsFaultFrom (n + 1) ls)
        (λ one is. later_one n l ls one none is) found so.sound;
    whole = λ m line fault at has.
        let old = so.whole (suc m) line fault at has in
        let place = old.2 in
        (old.0, old.1, omega arith);
    once = so.once;
  }

  -- the first line has this fault
  here : (n : ℕ) (l : List ℕ) (ls : List (List ℕ)) (found : List Found) (fault : LineFault) →
      read l ≡ Err fault → AreFaultsFrom n (l ∷ ls) found → first_of found ≡ Some (n, fault)
  here n l ls found fault e so = go found so.sound so.once one.0 one.1 one.2
    where
      one : (f : Found) × Contains found f × (f.line ≡ n + 0)
      one = so.whole 0 l fault refl e

      at_first : (h : Found) → IsFaultFrom n (l ∷ ls) h → h.line ≡ n →
          ◌≡◌ {A = Option (ℕ × LineFault)} (Some (h.line, h.fault)) (Some (n, fault))
      at_first h is same =
          let none : h.line - n ≡ 0 = omega arith in
          let line : Some l ≡ Some is.line = sym (ap (slice_get (l ∷ ls)) none) ∙ is.there in
          let line_is : l ≡ is.line = cc in
          let faults : Err h.fault ≡ Err fault = sym is.fault ∙ ap read (sym line_is) ∙ e in
          let fault_is : h.fault ≡ fault = cc in
          ap (λ (k : ℕ). Some (k, h.fault)) same ∙ ap (λ (f : LineFault). Some (n, f)) fault_is

      go : (found : List Found) → All (IsFaultFrom n (l ∷ ls)) found →
          AllPairs (λ a b. a.line < b.line) found → (f : Found) → Contains found f →
          f.line ≡ n + 0 → first_of found ≡ Some (n, fault)
      go [] sound once f has place = let low = has.1 in absurd (omega arith)
      go (h ∷ rest) sound once f has place =
          let is = sound 0 h (omega arith) in at_first h is (first has.0 has.1 has.2)
        where
          first : (k : ℕ) → k < length (h ∷ rest) → get_or (h ∷ rest) k f ≡ f → h.line ≡ n
          first zero low same = let line = ap (λ (g : Found). g.line) same in omega (arith, line)
          first (suc k) low same =
              let is = sound 0 h (omega arith) in
              let from = is.from in
              let less : h.line < (get_or (h ∷ rest) (suc k) f).line =
              once 0 (suc k) f (omega arith) low in
              let line : (get_or (h ∷ rest) (suc k) f).line ≡ f.line =
              ap (λ (g : Found). g.line) same in
              absurd (omega arith)

  first_from : (n : ℕ) (lines : List (List ℕ)) (found : List Found) →
      AreFaultsFrom n lines found → (script_from read n lines).fault ≡ first_of found
  unfolding script_from
  first_from n [] [] so = refl
  first_from n [] (h ∷ rest) so =
      let is = so.sound 0 h (omega arith) in
      let at = is.there in
      absurd cc
  first_from n (l ∷ ls) found so = go (read l) refl (λ next. first_from (n + 1) ls found next)
    where
      go : (r : Result (Option Call) LineFault) → read l ≡ r →
          (AreFaultsFrom (n + 1) ls found →
          (script_from read (n + 1) ls).fault ≡ first_of found) →
          (with_line n (read l) (script_from read (n + 1) ls)).fault ≡ first_of found
      go (Ok None) e next =
          ap (λ r. (with_line n r (script_from read (n + 1) ls)).fault) e
          ∙ next (later n l ls found (λ fault bad. let no : Ok None ≡ Err fault = sym e ∙ bad in
          absurd cc) so)
      go (Ok (Some call)) e next =
          ap (λ r. (with_line n r (script_from read (n + 1) ls)).fault) e
          ∙ next (later n l ls found (λ fault bad. let no : Ok (Some call) ≡ Err fault =
          sym e ∙ bad in absurd cc) so)
      go (Err fault) e next =
          ap (λ r. (with_line n r (script_from read (n + 1) ls)).fault) e
          ∙ sym (here n l ls found fault e so)

---- the faults of a script

from_one : (wall : ChineseWall) (lines : List (List ℕ)) (found : List Found) →
    AreFaults wall lines found → AreFaultsFrom (member_call wall) 1 lines found
from_one wall lines found all = record {
  sound = All-weaker (IsFound wall lines) (IsFaultFrom (member_call wall) 1 lines)
      (λ one is. record {
        from = is.counted;
        line = is.line;
        there = is.there;
        fault = is.fault;
      }) found all.sound;
  whole = λ m line fault at has.
      let old = all.whole m line fault at has in
      let place = old.2 in
      (old.0, old.1, omega arith);
  once = all.once;
}

-- the first of them is the fault that a run ends with
pub first_is : (wall : ChineseWall) (script : List ℕ) (found : List Found) →
    AreFaults wall (parts 10 script) found → first_of found ≡ (members_script wall script).fault
first_is wall script found all = sym (first_from (member_call wall) 1 (parts 10 script) found
    (from_one wall (parts 10 script) found all))

-- there is none just where no line is at fault
pub none_is : (wall : ChineseWall) (lines : List (List ℕ)) (found : List Found) →
    AreFaults wall lines found → (first_of found ≡ None) ↔ IsFaultless wall lines
none_is wall lines [] all = (
  λ none n line fault at has.
      let low = (all.whole n line fault at has).1.1 in absurd (omega arith),
  λ faultless. refl,
)
none_is wall lines (h ∷ rest) all = (
  λ none. absurd cc,
  λ faultless.
      let is = all.sound 0 h (omega arith) in
      absurd (faultless (h.line - 1) is.line h.fault is.there is.fault),
)

---- what a walk through the lines needs

pub counted : (wall : ChineseWall) (lines : List (List ℕ)) (found : List Found) →
    AreFaults wall lines found → All (λ one. 1 ≤ one.line) found
counted wall lines found all = All-weaker (IsFound wall lines) (λ one. 1 ≤ one.line)
    (λ one is. is.counted) found all.sound
