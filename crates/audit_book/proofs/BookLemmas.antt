-- A text that is read as a book is the book's text.
use Rattle.std.proofs.Common.{◌≡◌, ℕ, suc, ◌+◌, eqb, Bool, true, false, cond, List, [], ◌∷◌, ◌++◌}
use Rattle.std.proofs.Common.{length, map, Result, Ok, Err, refl, sym, ap, ◌∙◌, append_assoc}
use Rattle.std.proofs.Common.{arith}
use Rattle.std.specs.List.{join_with_byte, flat_map}
use Rattle.std.specs.Str.{bytes_eq}
use Rattle.std.proofs.lemmas.Bool.{eqb-true}
use Rattle.std.proofs.lemmas.Grind.{flat_map-append}
use Rattle.std.proofs.lemmas.List.{append-nil}
use Rattle.std.proofs.lemmas.List.Splits.{join_with_byte-slice_split}
use Rattle.std.proofs.lemmas.Slice.Eq.{bytes_eq-Decides}
use Rattle.wall_policy.specs.Policy.{ChineseWall}
use Rattle.run_model.specs.declared.entry.Entry.{Entry}
use Rattle.coll_text.specs.declared.fault.LineFault.{LineFault}
use Rattle.coll_text.specs.Numbers.{Word}
use Rattle.coll_text.specs.Reading.{parts}
use Rattle.audit_book.specs.declared.fault.ReadFault.{ReadFault}
use Rattle.audit_book.specs.declared.fault.ReadFault.TheVariants.{BadLine}
use Rattle.audit_book.specs.declared.line.Line.{Line}
use Rattle.audit_book.specs.declared.line.Line.TheVariants.{Said, End}
use Rattle.audit_book.specs.Lines.{line_at}
use Rattle.audit_book.specs.Text.{line_of, entry_words, end_words, header_words, header_line}
use Rattle.audit_book.specs.Text.{entry_lines, book_text}
use Rattle.audit_book.specs.Reading.{with_prefix, by_line, ended_at, entries_in, lines_in, book_in}
use Rattle.audit_book.proofs.FoundLemmas.{line_words, line_found}

-- lines with their ends
abbrev pub ended_lines : List Word → List ℕ
ended_lines ls = flat_map (λ l. l ++ (10 ∷ [])) ls

-- the lines of entries, without their ends
abbrev pub said_lines : ChineseWall → List Entry → List Word
said_lines wall es = map (λ e. join_with_byte 32 (entry_words wall e)) es

-- and behind them the end
abbrev pub all_lines : ChineseWall → List Entry → ℕ → List Word
all_lines wall es n = said_lines wall es ++ (join_with_byte 32 (end_words n) ∷ [])

pub line_text : (wall : ChineseWall) (line : Word) (l : Line) → line_at wall line ≡ Ok l →
    line ≡ join_with_byte 32 (line_words wall l)
line_text wall line l h = sym (join_with_byte-slice_split 32 line)
    ∙ ap (join_with_byte 32) (line_found wall (parts 32 line) l h)

abbrev pub done : List Entry → Result (List Entry) ReadFault
done es = Ok es

pub same_done : (xs ys : List Entry) → done xs ≡ done ys → xs ≡ ys
same_done xs ys e = cc

-- one entry more
pub record More (e : Entry) (others : Result (List Entry) ReadFault) (es : List Entry)
    : Type 0 where
  pub rest : List Entry
  pub read : others ≡ Ok rest
  pub whole : es ≡ e ∷ rest

pub more_found : (e : Entry) (others : Result (List Entry) ReadFault) (es : List Entry) →
    with_prefix (e ∷ []) others ≡ Ok es → More e others es
more_found e (Ok rest) es h =
    record { rest = rest; read = refl; whole = sym (same_done (e ∷ rest) es h) }
more_found e (Err f) es h = absurd cc

empty_is : (rest : Word) (n : ℕ) (es : List Entry) (t : Bool) → eqb (length rest) 0 ≡ t →
    cond t (Ok []) (Err (BadLine n)) ≡ Ok es → (length rest ≡ 0) × (es ≡ [])
empty_is rest n es true e h = (eqb-true (length rest) 0 e, sym (same_done [] es h))
empty_is rest n es false e h = absurd cc

nothing : (rest : Word) → length rest ≡ 0 → rest ≡ []
nothing [] e = refl
nothing (b ∷ bs) e = absurd (omega (arith, e))

pub ended_found : (n : ℕ) (next : Word) (more : List Word) (es : List Entry) →
    ended_at n (next ∷ more) ≡ Ok es → (next ∷ more ≡ [] ∷ []) × (es ≡ [])
ended_found n next [] es h = let e = empty_is next n es (eqb (length next) 0) refl h in
    (ap (λ w. w ∷ []) (nothing next e.0), e.1)
ended_found n next (m ∷ ms) es h = absurd cc

pub end_step : (k n : ℕ) (ended : Result (List Entry) ReadFault) (es : List Entry) (t : Bool) →
    eqb n k ≡ t → cond t ended (Err (BadLine (k + 2))) ≡ Ok es → (n ≡ k) × (ended ≡ Ok es)
end_step k n ended es true e h = (eqb-true n k e, h)
end_step k n ended es false e h = absurd cc

abbrev Spells : ChineseWall → ℕ → List Word → List Entry → Type 0
Spells wall k ls es = ls ≡ all_lines wall es (k + length es) ++ ([] ∷ [])

by_line_found : (wall : ChineseWall) (k : ℕ) (line next : Word) (more : List Word) (es : List Entry)
    (r : Result Line LineFault) → line_at wall line ≡ r
    → ((rest : List Entry) → entries_in wall (k + 1) (next ∷ more) ≡ Ok rest →
    Spells wall (k + 1) (next ∷ more) rest)
    → by_line k r (entries_in wall (k + 1) (next ∷ more)) (ended_at (k + 3) (next ∷ more)) ≡ Ok es →
    Spells wall k (line ∷ next ∷ more) es
by_line_found wall k line next more es (Ok (Said e)) said behind h =
    let m = more_found e (entries_in wall (k + 1) (next ∷ more)) es h in
    let sum : k + 1 + length m.rest ≡ k + suc (length m.rest) = omega arith in
    (λ i. line_text wall line (Said e) said i ∷ behind m.rest m.read i)
    ∙ ap
    (λ (n : ℕ). join_with_byte 32 (entry_words wall e) ∷ (all_lines wall m.rest n ++ ([] ∷ [])))
    sum
    ∙ ap (λ (es : List Entry). all_lines wall es (k + length es) ++ ([] ∷ [])) (sym m.whole)
by_line_found wall k line next more es (Ok (End n)) said behind h =
    let e = end_step k n (ended_at (k + 3) (next ∷ more)) es (eqb n k) refl h in
    let f = ended_found (k + 3) next more es e.1 in
    let zero_more : k ≡ k + 0 = omega arith in
    (λ i. line_text wall line (End n) said i ∷ f.0 i)
    ∙ ap (λ (n : ℕ). join_with_byte 32 (end_words n) ∷ [] ∷ []) (e.0 ∙ zero_more)
    ∙ ap (λ (es : List Entry). all_lines wall es (k + length es) ++ ([] ∷ [])) (sym f.1)
by_line_found wall k line next more es (Err f) said behind h = absurd cc

entries_found : (wall : ChineseWall) (k : ℕ) (ls : List Word) (es : List Entry) →
    entries_in wall k ls ≡ Ok es → Spells wall k ls es
unfolding entries_in
entries_found wall k [] es h = absurd cc
entries_found wall k (line ∷ []) es h = absurd cc
entries_found wall k (line ∷ next ∷ more) es h = by_line_found wall k line next more es
    (line_at wall line) refl (entries_found wall (k + 1) (next ∷ more)) h

-- ---- the whole text

join_ended : (ls : List Word) → join_with_byte 10 (ls ++ ([] ∷ [])) ≡ ended_lines ls
join_ended [] = refl
join_ended (l ∷ []) = sym (append-nil (l ++ (10 ∷ [])))
join_ended (l ∷ m ∷ ls) = ap (λ t. l ++ (10 ∷ t)) (join_ended (m ∷ ls))
    ∙ sym (append_assoc l (10 ∷ []) (ended_lines (m ∷ ls)))

pub lines_are : (wall : ChineseWall) (es : List Entry) (n : ℕ) →
    ended_lines (all_lines wall es n) ≡ entry_lines wall es ++ line_of (end_words n)
lines_are wall [] n = append-nil (line_of (end_words n))
lines_are wall (e ∷ es) n = ap (λ t. line_of (entry_words wall e) ++ t) (lines_are wall es n)
    ∙ sym
    (append_assoc (line_of (entry_words wall e)) (entry_lines wall es) (line_of (end_words n)))

-- the lines of one entry more are the lines before, and its own
pub lines_more : (wall : ChineseWall) (es : List Entry) (e : Entry) →
    entry_lines wall (es ++ (e ∷ [])) ≡ entry_lines wall es ++ line_of (entry_words wall e)
lines_more wall es e = flat_map-append (λ (x : Entry). line_of (entry_words wall x)) es (e ∷ [])
    ∙ ap (λ t. entry_lines wall es ++ t) (append-nil (line_of (entry_words wall e)))

-- the text of a book is its header, its lines and its end
pub text_in_lines : (wall : ChineseWall) (es : List Entry) →
    book_text wall es ≡ line_of (header_words wall.version)
    ++ (entry_lines wall es ++ line_of (end_words (length es)))
unfolding book_text
text_in_lines wall es = refl

-- the text of a book is that of its lines
pub text_is : (wall : ChineseWall) (es : List Entry) →
    ended_lines (header_line wall.version ∷ all_lines wall es (length es)) ≡ book_text wall es
unfolding book_text
text_is wall es = ap (λ t. line_of (header_words wall.version) ++ t) (lines_are wall es (length es))

pub header_step :
    (wall : ChineseWall) (line next : Word) (more : List Word) (es : List Entry) (t : Bool) →
    bytes_eq line (header_line wall.version) ≡ t
    → cond t (entries_in wall 0 (next ∷ more)) (Err (BadLine 1)) ≡ Ok es →
    (line ≡ header_line wall.version) × (entries_in wall 0 (next ∷ more) ≡ Ok es)
header_step wall line next more es true e h =
    ((bytes_eq-Decides line (header_line wall.version)).0 e, h)
header_step wall line next more es false e h = absurd cc

lines_found : (wall : ChineseWall) (ls : List Word) (es : List Entry) → lines_in wall ls ≡ Ok es →
    ls ≡ (header_line wall.version ∷ all_lines wall es (length es)) ++ ([] ∷ [])
lines_found wall [] es h = absurd cc
lines_found wall (line ∷ []) es h = absurd cc
lines_found wall (line ∷ next ∷ more) es h =
    let s = header_step wall line next more es (bytes_eq line (header_line wall.version)) refl h in
    let none : 0 + length es ≡ length es = omega arith in
    (λ i. s.0 i ∷ entries_found wall 0 (next ∷ more) es s.1 i)
    ∙ ap (λ (n : ℕ). (header_line wall.version ∷ all_lines wall es n) ++ ([] ∷ [])) none

pub book_found : (wall : ChineseWall) (text : List ℕ) (es : List Entry) →
    book_in wall text ≡ Ok es → text ≡ book_text wall es
unfolding book_in
book_found wall text es h =
    sym (join_with_byte-slice_split 10 text)
    ∙ ap (join_with_byte 10) (lines_found wall (parts 10 text) es h)
    ∙ join_ended (header_line wall.version ∷ all_lines wall es (length es))
    ∙ text_is wall es
