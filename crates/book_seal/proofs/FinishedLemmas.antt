-- What is finished of a text, and its parts.
use Rattle.std.proofs.Common.{◌≡◌, ℕ, suc, ◌+◌, ◌<◌, eqb, Bool, true, false, cond, List, [], ◌∷◌}
use Rattle.std.proofs.Common.{◌++◌, length, take, drop, get_or, refl, sym, ap, subst, ◌∙◌, arith}
use Rattle.std.specs.List.{AllByRecursion, onto_first}
use Rattle.std.proofs.Math.Seq.{drop-cons, take-suc}
use Rattle.std.proofs.lemmas.Bool.{eqb-true, ne_eqb}
use Rattle.std.proofs.lemmas.List.{append-nil, take-append-drop}
use Rattle.std.proofs.lemmas.List.Elements.{All-nil, All-cons}
use Rattle.std.proofs.lemmas.List.Splits.{slice_split_none}
use Rattle.coll_text.specs.Numbers.{Word}
use Rattle.coll_text.specs.Reading.{parts}
use Rattle.audit_book.specs.Faults.{IsLine}
use Rattle.audit_book.proofs.AuditBookLemmas.{ended_lines, parts_lines, parts_more}
use Rattle.book_seal.specs.Seals.{all_but_last, finished_lines, finished}

-- all but the last of some lines and one more
pub but_last : (ls : List Word) (l : Word) → all_but_last (ls ++ (l ∷ [])) ≡ ls
but_last [] l = refl
but_last (m ∷ []) l = refl
but_last (m ∷ n ∷ ls) l = ap (λ t. m ∷ t) (but_last (n ∷ ls) l)

-- ---- where a text is cut

onto_more : (b : ℕ) (ls ms : List Word) → 0 < length ls →
    onto_first b (ls ++ ms) ≡ onto_first b ls ++ ms
onto_more b [] ms some = absurd (omega arith)
onto_more b (l ∷ ls) ms some = refl

some_onto : (b : ℕ) (ls : List Word) → 0 < length (onto_first b ls)
some_onto b [] = omega arith
some_onto b (l ∷ ls) = omega arith

some_of : (b : ℕ) (ls : List Word) (t : Bool) → 0 < length (cond t ([] ∷ ls) (onto_first b ls))
some_of b ls true = omega arith
some_of b ls false = some_onto b ls

some_parts : (text : List ℕ) → 0 < length (parts 10 text)
some_parts [] = omega arith
some_parts (b ∷ text) = some_of b (parts 10 text) (eqb b 10)

more_step : (b : ℕ) (ls ms : List Word) (t : Bool) → 0 < length ls →
    cond t ([] ∷ (ls ++ ms)) (onto_first b (ls ++ ms))
    ≡ cond t ([] ∷ ls) (onto_first b ls) ++ ms
more_step b ls ms true some = refl
more_step b ls ms false some = onto_more b ls ms some

-- the parts of two texts with a line feed between them
parts_joined : (a b : List ℕ) → parts 10 (a ++ (10 ∷ b)) ≡ parts 10 a ++ parts 10 b
parts_joined [] b = refl
parts_joined (x ∷ a) b =
    ap (λ (ls : List Word). cond (eqb x 10) ([] ∷ ls) (onto_first x ls)) (parts_joined a b)
    ∙ more_step x (parts 10 a) (parts 10 b) (eqb x 10) (some_parts a)

ended_step : (x : ℕ) (ls : List Word) (t : Bool) → eqb x 10 ≡ t → 0 < length ls →
    ended_lines (cond t ([] ∷ ls) (onto_first x ls)) ≡ x ∷ ended_lines ls
ended_step x ls true e some = ap (λ b. b ∷ ended_lines ls) (sym (eqb-true x 10 e))
ended_step x [] false e some = absurd (omega arith)
ended_step x (l ∷ ls) false e some = refl

-- the parts of a text, each with a line feed
pub ended_parts : (a : List ℕ) → ended_lines (parts 10 a) ≡ a ++ (10 ∷ [])
ended_parts [] = refl
ended_parts (x ∷ a) = ended_step x (parts 10 a) (eqb x 10) refl (some_parts a)
    ∙ ap (λ t. x ∷ t) (ended_parts a)

-- what stands before the last line feed, with it
pub finished_up_to : (a b : List ℕ) → IsLine b → finished (a ++ (10 ∷ b)) ≡ a ++ (10 ∷ [])
unfolding finished finished_lines
finished_up_to a b line =
    ap (λ (ls : List Word). ended_lines (all_but_last ls))
    (parts_joined a b
    ∙ ap (λ (ls : List Word). parts 10 a ++ ls) (slice_split_none (λ x. eqb x 10) b line))
    ∙ ap ended_lines (but_last (parts 10 a) b)
    ∙ ended_parts a

-- no line is finished
pub finished_none : (b : List ℕ) → IsLine b → finished b ≡ []
unfolding finished finished_lines
finished_none b line = ap (λ (ls : List Word). ended_lines (all_but_last ls))
    (slice_split_none (λ x. eqb x 10) b line)

-- ---- the finished lines

abbrev pub AreLines : List Word → Type 0
AreLines ls = AllByRecursion IsLine ls

prefix_lines : (ls : List Word) → AreLines ls → AreLines (all_but_last ls)
prefix_lines [] h = tt
prefix_lines (l ∷ []) h = tt
prefix_lines (l ∷ m ∷ ls) h = (h.0, prefix_lines (m ∷ ls) h.1)

pub finished_are_lines : (text : List ℕ) → AreLines (finished_lines text)
unfolding finished_lines
finished_are_lines text = prefix_lines (parts 10 text) (parts_lines text)

pub finished_is : (text : List ℕ) → finished text ≡ ended_lines (finished_lines text)
unfolding finished
finished_is text = refl

-- the parts of the finished text and of what is put behind it
pub parts_behind : (text rest : List ℕ) →
    parts 10 (finished text ++ rest) ≡ finished_lines text ++ parts 10 rest
unfolding finished
parts_behind text rest = parts_more (finished_lines text) (finished_are_lines text) rest

pub parts_of_finished : (text : List ℕ) →
    parts 10 (finished text) ≡ finished_lines text ++ ([] ∷ [])
parts_of_finished text =
    ap (parts 10) (sym (append-nil (finished text))) ∙ parts_behind text []

no_ends : (ls : List Word) → ended_lines ls ≡ [] → ls ≡ []
no_ends [] e = refl
no_ends ([] ∷ ls) e = absurd cc
no_ends ((b ∷ bs) ∷ ls) e = absurd cc

pub none_finished : (text : List ℕ) → finished text ≡ [] → finished_lines text ≡ []
none_finished text e = no_ends (finished_lines text) (sym (finished_is text) ∙ e)

-- ---- going back from the end of a text

pub end_is_line : (text : List ℕ) → IsLine (drop (length text) text)
end_is_line [] = All-nil (λ b. eqb b 10 ≡ false)
end_is_line (b ∷ text) = end_is_line text

pub line_grows : (text : List ℕ) (n : ℕ) → n < length text → (get_or text n 0 ≡ 10 → ⊥) →
    IsLine (drop (n + 1) text) → IsLine (drop n text)
line_grows text n low other line = subst IsLine (sym (drop-cons text n 0 low))
    (All-cons (λ b. eqb b 10 ≡ false) (get_or text n 0) (drop (suc n) text)
    (ne_eqb (get_or text n 0) 10 other)
    (subst (λ (m : ℕ). IsLine (drop m text)) (let z : n + 1 ≡ suc n = omega arith in z) line))

-- nothing but a line is left
pub all_unfinished : (text : List ℕ) → IsLine (drop 0 text) → finished text ≡ []
all_unfinished [] line = finished_none [] line
all_unfinished (b ∷ text) line = finished_none (b ∷ text) line

pub up_to_here : (text : List ℕ) (n : ℕ) → n < length text → get_or text n 0 ≡ 10 →
    IsLine (drop (n + 1) text) → finished text ≡ take (n + 1) text
up_to_here text n low feed line =
    let next : n + 1 ≡ suc n = omega arith in
    let behind : drop n text ≡ 10 ∷ drop (n + 1) text = drop-cons text n 0 low
    ∙ (λ i. feed i ∷ drop (sym next i) text) in
    let whole : text ≡ take n text ++ (10 ∷ drop (n + 1) text) =
    sym (take-append-drop n text) ∙ ap (λ t. take n text ++ t) behind in
    let prefix : take (suc n) text ≡ take n text ++ (10 ∷ []) =
    take-suc text n 0 low ∙ ap (λ b. take n text ++ (b ∷ [])) feed in
    ap finished whole ∙ finished_up_to (take n text) (drop (n + 1) text) line
    ∙ sym prefix ∙ ap (λ (m : ℕ). take m text) (sym next)
