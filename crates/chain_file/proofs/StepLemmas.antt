-- Steps of a walk over a chain file.
use Rattle.std.proofs.Common.{◌≡◌, ℕ, ◌+◌, ◌==◌, true, false, List, [], ◌∷◌, length}
use Rattle.std.proofs.Common.{Result, Ok, Err, refl, sym, ap, ◌∙◌, subst}
use Rattle.std.specs.Prelude.{if◌then◌else◌}
use Rattle.chain_file.specs.declared.fault.ChainFault.{ChainFault}
use Rattle.chain_file.specs.declared.fault.ChainFault.TheVariants.{Cut}
use Rattle.chain_file.specs.declared.walk.Walk.{Walk}
use Rattle.chain_file.specs.Text.{Chain}
use Rattle.chain_file.specs.Reading.{line_in, lines_in, then_lines}
use Rattle.chain_file.specs.Steps.{HasRead, Took}

pub took_fault : (walk : Walk) (fault : ChainFault) (said : Result Chain ChainFault) →
    said ≡ Err fault → Took walk (Err fault) said
took_fault walk fault said is = subst (Took walk (Err fault)) (sym is) refl

pub took_chain : (walk : Walk) (chain : Chain) (said : Result Chain ChainFault) →
    said ≡ Ok chain → HasRead walk chain → Took walk (Ok tt) said
took_chain walk chain said is read = subst (Took walk (Ok tt)) (sym is) (refl, read)

pub took_is : (walk : Walk) (said : Result Chain ChainFault) → Took walk (Ok tt) said →
    (chain : Chain) × (said ≡ Ok chain) × HasRead walk chain
took_is walk (Ok chain) took = (chain, refl, took.1)
took_is walk (Err fault) took = absurd (let e : Ok tt ≡ Err fault = took in cc)

pub fault_is : (walk : Walk) (fault : ChainFault) (said : Result Chain ChainFault) →
    Took walk (Err fault) said → said ≡ Err fault
fault_is walk fault (Ok chain) took =
    absurd (let e : Err fault ≡ Ok tt = took.0 in cc)
fault_is walk fault (Err other) took = sym (let e : Err fault ≡ Err other = took in cc)

---- Lines one after the other.

-- the lines before these are those of a chain
pub record IsAt (walk : Walk) (number : ℕ) (line : List ℕ) (lines : List (List ℕ))
    (total : Result Chain ChainFault) : Type 0 where
  pub chain : Chain
  pub read : HasRead walk chain
  pub so_far : lines_in chain number (line ∷ lines) ≡ total

opened : (chain : Chain) (number : ℕ) (line next : List ℕ) (before more : List (List ℕ)) →
    before ≡ next ∷ more → lines_in chain number (line ∷ before)
    ≡ then_lines (line_in chain number line) (λ now. lines_in now (number + 1) (next ∷ more))
unfolding lines_in
opened chain number line next before more split =
    ap (λ (ls : List (List ℕ)). lines_in chain number (line ∷ ls)) split

module _ (was now : Walk) (number : ℕ) (line next : List ℕ) (before more : List (List ℕ))
    (total : Result Chain ChainFault) (split : before ≡ next ∷ more)
    (at : IsAt was number line before total) where
  pub reads_on : Took now (Ok tt) (line_in at.chain number line) →
      IsAt now (number + 1) next more total
  reads_on took =
      let is = took_is now (line_in at.chain number line) took in record {
        chain = is.0;
        read = is.2;
        so_far = sym (ap (λ r. then_lines r (λ c. lines_in c (number + 1) (next ∷ more))) is.1)
            ∙ sym (opened at.chain number line next before more split) ∙ at.so_far;
      }

  pub stops : (fault : ChainFault) → Took now (Err fault) (line_in at.chain number line) →
      total ≡ Err fault
  stops fault took = sym at.so_far ∙ opened at.chain number line next before more split
      ∙ ap (λ r. then_lines r (λ c. lines_in c (number + 1) (next ∷ more)))
      (fault_is now fault (line_in at.chain number line) took)

-- the last line
last_line : (chain : Chain) (number : ℕ) (line : List ℕ) (before : List (List ℕ)) → before ≡ [] →
    lines_in chain number (line ∷ before) ≡ (if length line == 0 then Ok chain else Err Cut)
unfolding lines_in
last_line chain number line before none =
    ap (λ (ls : List (List ℕ)). lines_in chain number (line ∷ ls)) none

pub ends_well : (walk : Walk) (number : ℕ) (line : List ℕ) (before : List (List ℕ))
    (total : Result Chain ChainFault) → before ≡ [] → (length line == 0) ≡ true →
    IsAt walk number line before total → Took walk (Ok tt) total
ends_well walk number line before total none empty at = took_chain walk at.chain total
    (sym at.so_far ∙ last_line at.chain number line before none
    ∙ ap (λ t. if t then Ok at.chain else Err Cut) empty) at.read

pub ends_cut : (walk : Walk) (number : ℕ) (line : List ℕ) (before : List (List ℕ))
    (total : Result Chain ChainFault) → before ≡ [] → (length line == 0) ≡ false →
    IsAt walk number line before total → Took walk (Err Cut) total
ends_cut walk number line before total none some at = took_fault walk Cut total
    (sym at.so_far ∙ last_line at.chain number line before none
    ∙ ap (λ t. if t then Ok at.chain else Err Cut) some)
