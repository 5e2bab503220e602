-- A text that was read as a chain file is its text.
use Rattle.std.proofs.Common.{◌≡◌, ℕ, ◌+◌, ◌≤◌, ◌==◌, Bool, true, false, List, [], ◌∷◌, ◌++◌, length}
use Rattle.std.proofs.Common.{Option, Some, None, Result, Ok, Err, refl, sym, ap, ◌∙◌, ⊎_elim, arith}
use Rattle.std.proofs.Common.{append_assoc}
use Rattle.std.specs.Prelude.{codes, if◌then◌else◌, IfOk, IsOk}
use Rattle.std.specs.List.{join_with_byte}
use Rattle.std.specs.Str.{bytes_eq}
use Rattle.std.proofs.lemmas.Bool.{cases_Bool}
use Rattle.std.proofs.lemmas.Bool.Decides.{Decides-eqb}
use Rattle.std.proofs.lemmas.List.{append-nil}
use Rattle.std.proofs.lemmas.List.Splits.{join_with_byte-slice_split, length-slice_split}
use Rattle.std.proofs.lemmas.List.Sums.{count_by-le-length}
use Rattle.std.proofs.lemmas.Slice.Eq.{bytes_eq-Decides}
use Rattle.chain_heads.specs.Heads.{head_of}
use Rattle.chain_file.specs.declared.fault.ChainFault.{ChainFault}
use Rattle.chain_file.specs.declared.fault.ChainFault.TheVariants.{BadLine, BadHead, Cut, NoMemory}
use Rattle.chain_file.specs.Text.{Chain, first_line, text_of}
use Rattle.chain_file.specs.Words.{spaced}
use Rattle.chain_file.specs.Reading.{parts, Said, words_of, begun_in, ended_in, said_in, after_said}
use Rattle.chain_file.specs.Reading.{with_head, by_said, line_in, then_lines, lines_in, no_runs}
use Rattle.chain_file.specs.Reading.{file_in, chain_in}
use Rattle.chain_file.proofs.SpellLemmas.{nil_of}
use Rattle.chain_file.proofs.LineLemmas.{WordsSay, says_of, begun_found, ended_found}
use Rattle.chain_file.proofs.TextLemmas.{line_text, no_runs_text}

---- A line.

pub if_true : {A : Type 0} (t : Bool) (x y : A) → t ≡ true → (if t then x else y) ≡ x
if_true t x y h = ap (λ s. if s then x else y) h

pub if_false : {A : Type 0} (t : Bool) (x y : A) → t ≡ false → (if t then x else y) ≡ y
if_false t x y h = ap (λ s. if s then x else y) h

same_word : (verb word : List ℕ) (words : List (List ℕ)) (said : Said) (head : List ℕ) →
    bytes_eq verb word ≡ true → WordsSay (word ∷ words) said head →
    WordsSay (verb ∷ words) said head
same_word verb word words said head same say = record {
  are = ap (λ (v : List ℕ). v ∷ words) ((bytes_eq-Decides verb word).0 same) ∙ say.are;
  long = say.long;
}

pub said_found : (words : List (List ℕ)) (said : Said) (head : List ℕ) →
    said_in words ≡ Some (said, head) → WordsSay words said head
unfolding said_in
said_found [] said head h = absurd cc
said_found (verb ∷ words) said head h = ⊎_elim
    (λ begun. same_word verb (codes "begun") words said head begun (begun_found words said head
    (sym (if_true (bytes_eq verb (codes "begun")) (begun_in words)
    (if bytes_eq verb (codes "ended") then ended_in words else None) begun) ∙ h)))
    (λ not_begun.
    let k = sym (if_false (bytes_eq verb (codes "begun")) (begun_in words)
    (if bytes_eq verb (codes "ended") then ended_in words else None) not_begun) ∙ h in
    ⊎_elim
    (λ ended. same_word verb (codes "ended") words said head ended (ended_found words said
    head (sym (if_true (bytes_eq verb (codes "ended")) (ended_in words) None ended) ∙ k)))
    (λ not_ended. absurd (let e : None ≡ Some (said, head) =
    sym (if_false (bytes_eq verb (codes "ended")) (ended_in words) None not_ended) ∙ k in cc))
    (cases_Bool (bytes_eq verb (codes "ended"))))
    (cases_Bool (bytes_eq verb (codes "begun")))

with_head_found : (number : ℕ) (o : Option Chain) (head due : List ℕ) (now : Chain) →
    with_head number o head due ≡ Ok now → (o ≡ Some now) × (head ≡ due)
with_head_found number None head due now h = absurd cc
with_head_found number (Some chain) head due now h = ⊎_elim
    (λ same.
    let e : Ok chain ≡ Ok now =
    sym (if_true (bytes_eq head due) (Ok chain) (Err (BadHead number)) same) ∙ h in
    let k : chain ≡ now = cc in (ap Some k, (bytes_eq-Decides head due).0 same))
    (λ other. absurd (let e : Err (BadHead number) ≡ Ok now =
    sym (if_false (bytes_eq head due) (Ok chain) (Err (BadHead number)) other) ∙ h in cc))
    (cases_Bool (bytes_eq head due))

-- what a line that was taken says
pub record Taken (chain : Chain) (o : Option (Said × List ℕ)) (now : Chain) : Type 0 where
  pub said : Said
  pub head : List ℕ
  pub is : o ≡ Some (said, head)
  pub after : after_said chain said ≡ Some now
  pub due : head ≡ head_of (text_of chain ++ spaced (words_of said))

pub by_said_found : (chain : Chain) (number : ℕ) (o : Option (Said × List ℕ)) (now : Chain) →
    by_said chain number o ≡ Ok now → Taken chain o now
by_said_found chain number None now h = absurd cc
by_said_found chain number (Some (said, head)) now h =
    let both = with_head_found number (after_said chain said) head
    (head_of (text_of chain ++ spaced (words_of said))) now h in
    record { said = said; head = head; is = refl; after = both.0; due = both.1 }

line_found : (chain : Chain) (number : ℕ) (line : List ℕ) (now : Chain) →
    line_in chain number line ≡ Ok now → text_of now ≡ text_of chain ++ (line ++ 10 ∷ [])
line_found chain number line now h =
    let t = by_said_found chain number (said_in (parts 32 line)) now h in
    let say = said_found (parts 32 line) t.said t.head t.is in
    let says = says_of line t.head t.said say.are say.long in
    let words = spaced (words_of t.said) in
    line_text chain t.said now t.after
    ∙ ap (λ (d : List ℕ). (text_of chain ++ words) ++ (d ++ 10 ∷ [])) (sym t.due)
    ∙ append_assoc (text_of chain) words (t.head ++ 10 ∷ [])
    ∙ ap (λ (w : List ℕ). text_of chain ++ w) (sym (append_assoc words t.head (10 ∷ [])))
    ∙ ap (λ (l : List ℕ). text_of chain ++ (l ++ 10 ∷ [])) (sym says.is)

---- Lines.

pub then_found : (r : Result Chain ChainFault) (more : Chain → Result Chain ChainFault) (now : Chain) →
    then_lines r more ≡ Ok now → (mid : Chain) × (r ≡ Ok mid) × (more mid ≡ Ok now)
then_found (Ok mid) more now h = (mid, refl, h)
then_found (Err fault) more now h = absurd cc

last_found : (chain : Chain) (rest : List ℕ) (now : Chain) →
    (if length rest == 0 then Ok chain else Err Cut) ≡ Ok now → text_of now ≡ text_of chain ++ rest
last_found chain rest now h = ⊎_elim
    (λ none.
    let e : Ok chain ≡ Ok now = sym (if_true (length rest == 0) (Ok chain) (Err Cut) none) ∙ h in
    let k : chain ≡ now = cc in
    ap text_of (sym k) ∙ sym (append-nil (text_of chain))
    ∙ ap (λ (r : List ℕ). text_of chain ++ r) (sym (nil_of rest none)))
    (λ some. absurd (let e : Err Cut ≡ Ok now =
    sym (if_false (length rest == 0) (Ok chain) (Err Cut) some) ∙ h in cc))
    (cases_Bool (length rest == 0))

lines_found : (chain : Chain) (number : ℕ) (lines : List (List ℕ)) (now : Chain) →
    lines_in chain number lines ≡ Ok now → text_of now ≡ text_of chain ++ join_with_byte 10 lines
unfolding lines_in
lines_found chain number [] now h = absurd cc
lines_found chain number (rest ∷ []) now h = last_found chain rest now h
lines_found chain number (line ∷ next ∷ more) now h =
    let t = then_found (line_in chain number line)
    (λ c. lines_in c (number + 1) (next ∷ more)) now h in
    let rest = join_with_byte 10 (next ∷ more) in
    lines_found t.0 (number + 1) (next ∷ more) now t.2
    ∙ ap (λ (w : List ℕ). w ++ rest) (line_found chain number line t.0 t.1)
    ∙ append_assoc (text_of chain) (line ++ 10 ∷ []) rest
    ∙ ap (λ (w : List ℕ). text_of chain ++ w) (append_assoc line (10 ∷ []) rest)

file_found : (lines : List (List ℕ)) (now : Chain) → file_in lines ≡ Ok now →
    text_of now ≡ join_with_byte 10 lines
file_found [] now h = absurd cc
file_found (first ∷ []) now h = absurd cc
file_found (first ∷ next ∷ more) now h = ⊎_elim
    (λ same.
    let k = sym (if_true (bytes_eq first first_line) (lines_in no_runs 2 (next ∷ more))
    (Err (BadLine 1)) same) ∙ h in
    let rest = join_with_byte 10 (next ∷ more) in
    lines_found no_runs 2 (next ∷ more) now k
    ∙ ap (λ (w : List ℕ). w ++ rest) no_runs_text
    ∙ ap (λ (w : List ℕ). w ++ (10 ∷ rest)) (sym ((bytes_eq-Decides first first_line).0 same)))
    (λ other. absurd (let e : Err (BadLine 1) ≡ Ok now =
    sym (if_false (bytes_eq first first_line) (lines_in no_runs 2 (next ∷ more))
    (Err (BadLine 1)) other) ∙ h in cc))
    (cases_Bool (bytes_eq first first_line))

pub chain_found : (text : List ℕ) (now : Chain) → chain_in text ≡ Ok now → text ≡ text_of now
unfolding chain_in
chain_found text now h =
    sym (file_found (parts 10 text) now h ∙ join_with_byte-slice_split 10 text)

---- Out of memory is never said of a text.

head_said : (number : ℕ) (o : Option Chain) (head due : List ℕ) →
    with_head number o head due ≡ Err NoMemory → ⊥
head_said number None head due h = absurd cc
head_said number (Some chain) head due h = ⊎_elim
    (λ same. absurd (let e : Ok chain ≡ Err NoMemory =
    sym (if_true (bytes_eq head due) (Ok chain) (Err (BadHead number)) same) ∙ h in cc))
    (λ other. absurd (let e : ◌≡◌ {A = Result Chain ChainFault} (Err (BadHead number))
    (Err NoMemory) =
    sym (if_false (bytes_eq head due) (Ok chain) (Err (BadHead number)) other) ∙ h in cc))
    (cases_Bool (bytes_eq head due))

line_said : (chain : Chain) (number : ℕ) (o : Option (Said × List ℕ)) →
    by_said chain number o ≡ Err NoMemory → ⊥
line_said chain number None h = absurd cc
line_said chain number (Some (said, head)) h = head_said number (after_said chain said) head
    (head_of (text_of chain ++ spaced (words_of said))) h

then_said : (r : Result Chain ChainFault) (more : Chain → Result Chain ChainFault) →
    (r ≡ Err NoMemory → ⊥) → ((c : Chain) → more c ≡ Err NoMemory → ⊥) →
    then_lines r more ≡ Err NoMemory → ⊥
then_said (Ok c) more one others h = others c h
then_said (Err fault) more one others h = one h

rest_said : (chain : Chain) (rest : List ℕ) →
    (if length rest == 0 then Ok chain else Err Cut) ≡ Err NoMemory → ⊥
rest_said chain [] h = absurd cc
rest_said chain (b ∷ rest) h = ⊎_elim
    (λ none. absurd (let e = (Decides-eqb (length (b ∷ rest)) 0).0 none in omega (arith, e)))
    (λ some. absurd (let e : ◌≡◌ {A = Result Chain ChainFault} (Err Cut) (Err NoMemory) =
    sym (if_false (length (b ∷ rest) == 0) (Ok chain) (Err Cut) some) ∙ h in cc))
    (cases_Bool (length (b ∷ rest) == 0))

pub lines_said : (chain : Chain) (number : ℕ) (lines : List (List ℕ)) →
    lines_in chain number lines ≡ Err NoMemory → ⊥
unfolding lines_in
lines_said chain number [] h = absurd cc
lines_said chain number (rest ∷ []) h = rest_said chain rest h
lines_said chain number (line ∷ next ∷ more) h = then_said (line_in chain number line)
    (λ c. lines_in c (number + 1) (next ∷ more))
    (line_said chain number (said_in (parts 32 line)))
    (λ c. lines_said c (number + 1) (next ∷ more)) h

-- a text has at most one line more than bytes
pub parts_few : (text : List ℕ) → length (parts 10 text) ≤ length text + 1
parts_few text = let n = length-slice_split (λ b. b == 10) text in
    omega (arith, n, count_by-le-length (λ (b : ℕ). b == 10) text)

---- What was read.

pub text_lines : (text first line : List ℕ) (before lines : List (List ℕ)) →
    parts 10 text ≡ first ∷ before → before ≡ line ∷ lines → bytes_eq first first_line ≡ true →
    chain_in text ≡ lines_in no_runs 2 (line ∷ lines)
unfolding chain_in
text_lines text first line before lines one two same = ap file_in (one ∙ ap (λ ls. first ∷ ls) two)
    ∙ if_true (bytes_eq first first_line) (lines_in no_runs 2 (line ∷ lines)) (Err (BadLine 1)) same

pub text_read : (r : Result Chain ChainFault) (chain : Chain) (text : List ℕ) →
    IfOk r (λ file. file ≡ chain) → chain_in text ≡ Ok chain → IfOk r (λ file. text ≡ text_of file)
text_read (Ok file) chain text is h = chain_found text chain h ∙ ap text_of (sym is)
text_read (Err fault) chain text is h = tt

pub no_memory_said : (text first line : List ℕ) (before lines : List (List ℕ)) →
    parts 10 text ≡ first ∷ before → before ≡ line ∷ lines → bytes_eq first first_line ≡ true →
    (fault : ChainFault) → lines_in no_runs 2 (line ∷ lines) ≡ Err fault → fault ≡ NoMemory →
    IsOk (chain_in text)
no_memory_said text first line before lines one two same fault h is =
    absurd (lines_said no_runs 2 (line ∷ lines) (h ∙ ap Err is))
