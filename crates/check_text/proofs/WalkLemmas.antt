-- Lines by number, where those before one are passed over.
use Rattle.std.proofs.Common.{◌≡◌, ℕ, ◌+◌, ◌-◌, ◌<◌, List, [], ◌++◌, length, take, drop}
use Rattle.std.proofs.Common.{get_or, sym, ap, ◌∙◌, arith}
use Rattle.std.specs.List.{flat_map}
use Rattle.std.proofs.lemmas.List.{drop-drop, get_or-drop, flat_map_more, take_more}
use Rattle.hall_script.specs.Scripts.{trimmed}
use Rattle.script_places.specs.declared.found.Found.{Found}
use Rattle.check_text.specs.Sentences.{told_line}
use Rattle.check_text.specs.Lines.{raw_line, fault_line}

-- the line that stands so far behind those that were passed
pub line_behind : (lines : List (List ℕ)) (passed number : ℕ) → passed < number →
    raw_line (drop passed lines) (number - passed) ≡ raw_line lines number
line_behind lines passed number low =
    get_or-drop passed lines (number - passed - 1) []
    ∙ ap (λ k. get_or lines k []) (let e : passed + (number - passed - 1) ≡ number - 1 = omega arith
    in e)

pub lines_behind : (lines : List (List ℕ)) (passed number : ℕ) → passed < number →
    drop (number - passed) (drop passed lines) ≡ drop number lines
lines_behind lines passed number low = drop-drop (number - passed) passed lines
    ∙ ap (λ k. drop k lines) (let e : passed + (number - passed) ≡ number = omega arith in e)

-- one line more is passed over
pub one_more : (lines rest : List (List ℕ)) (n m : ℕ) → rest ≡ drop n lines → m ≡ n + 1 →
    drop 1 rest ≡ drop m lines
one_more lines rest n m e more =
    ap (drop 1) e ∙ drop-drop 1 n lines ∙ ap (λ k. drop k lines) (sym more)

-- the line behind n lines
pub behind : (lines rest : List (List ℕ)) (n m : ℕ) → rest ≡ drop n lines → m ≡ n + 1 →
    raw_line rest 1 ≡ raw_line lines m
behind lines rest n m e more =
    ap (λ ls. get_or ls 0 []) e ∙ get_or-drop n lines 0 []
    ∙ ap (λ k. get_or lines k []) (let f : n + 0 ≡ m - 1 = omega (arith, more) in f)

-- the line of one fault more is written
pub one_line_more : (path : List ℕ) (lines : List (List ℕ)) (found : List Found) (i : ℕ)
    (d : Found) (before now after line : List ℕ) → i < length found →
    now ≡ before ++ flat_map (fault_line path lines) (take i found) →
    after ≡ now ++ told_line path line (get_or found i d) →
    line ≡ trimmed (raw_line lines (get_or found i d).line) →
    after ≡ before ++ flat_map (fault_line path lines) (take (i + 1) found)
one_line_more path lines found i d before now after line low so_far added is =
    added
    ∙ ap (λ l. now ++ told_line path l (get_or found i d)) is
    ∙ ap (λ t. t ++ fault_line path lines (get_or found i d)) so_far
    ∙ flat_map_more (fault_line path lines) before (take i found) (get_or found i d)
    ∙ ap (λ fs. before ++ flat_map (fault_line path lines) fs) (sym (take_more found i d low))
