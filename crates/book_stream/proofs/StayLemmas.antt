-- A line at fault stays so, whatever comes behind it.
use Rattle.std.proofs.Common.{◌≡◌, ℕ, ◌+◌, ◌<◌, ◌==◌, Bool, true, false, cond, eqb, List, [], ◌∷◌}
use Rattle.std.proofs.Common.{◌++◌, length, Result, Ok, Err, refl, sym, ap, ◌∙◌, arith}
use Rattle.std.specs.Str.{bytes_eq}
use Rattle.std.proofs.lemmas.Bool.{false≢true}
use Rattle.std.proofs.lemmas.Bool.Decides.{nat_tests}
use Rattle.std.proofs.lemmas.List.{length-append}
use Rattle.std.proofs.lemmas.List.Splits.{length-slice_split}
use Rattle.wall_policy.specs.Policy.{ChineseWall}
use Rattle.run_model.specs.declared.entry.Entry.{Entry}
use Rattle.coll_text.specs.declared.fault.LineFault.{LineFault}
use Rattle.coll_text.specs.Numbers.{Word}
use Rattle.coll_text.specs.Reading.{parts}
use Rattle.audit_book.specs.declared.fault.ReadFault.{ReadFault}
use Rattle.audit_book.specs.declared.fault.ReadFault.TheVariants.{BadLine, Cut}
use Rattle.audit_book.specs.declared.line.Line.{Line}
use Rattle.audit_book.specs.declared.line.Line.TheVariants.{Said, End}
use Rattle.audit_book.specs.Lines.{line_at}
use Rattle.audit_book.specs.Reading.{with_prefix, by_line, ended_at, entries_in, lines_in, book_in}
use Rattle.audit_book.specs.Text.{header_line}
use Rattle.book_stream.specs.Cuts.{behind}
use Rattle.book_stream.proofs.CutLemmas.{parts_behind}

-- the first fault is the second, if it is a line's
abbrev Stays : (n : ℕ) → (old new : Result (List Entry) ReadFault) → Type 0
Stays n old new = old ≡ Err (BadLine n) → new ≡ Err (BadLine n)

if_stays : (n : ℕ) (b : Bool) (old new other : Result (List Entry) ReadFault) → Stays n old new →
    Stays n (cond b old other) (cond b new other)
if_stays n true old new other h = h
if_stays n false old new other h = λ is. is

prefix_stays : (n : ℕ) (e : Entry) (old new : Result (List Entry) ReadFault) → Stays n old new →
    Stays n (with_prefix (e ∷ []) old) (with_prefix (e ∷ []) new)
prefix_stays n e (Ok es) new h is = absurd cc
prefix_stays n e (Err f) new h is = ap (with_prefix (e ∷ [])) (h is)

line_stays : (m n : ℕ) (said : Result Line LineFault)
    (others ended later end : Result (List Entry) ReadFault) → Stays n others later →
    Stays n ended end → Stays n (by_line m said others ended) (by_line m said later end)
line_stays m n (Ok (Said e)) others ended later end h k = prefix_stays n e others later h
line_stays m n (Ok (End j)) others ended later end h k =
    if_stays n (j == m) ended end (Err (BadLine (m + 2))) k
line_stays m n (Err f) others ended later end h k = λ is. is

bad_if : (m n : ℕ) (b : Bool) →
    cond b (let none : Result (List Entry) ReadFault = Ok [] in none) (Err (BadLine m))
    ≡ Err (BadLine n) → (let bad : Result (List Entry) ReadFault = Err (BadLine m) in bad)
    ≡ Err (BadLine n)
bad_if m n true h = absurd cc
bad_if m n false h = h

none_here : (n : ℕ) → (let none : Result (List Entry) ReadFault = Ok [] in none)
    ≡ Err (BadLine n) → ⊥
none_here n h = cc

cut_here : (n : ℕ) → (let said : Result (List Entry) ReadFault = Err Cut in said)
    ≡ Err (BadLine n) → ⊥
cut_here n h = cc

other_test : (n : ℕ) → n ≡ 0 → (n == 0) ≡ false → ⊥
other_test n none some = false≢true (sym some ∙ ap (λ k. k == 0) none)

not_none : (line more : Word) → (length line == 0) ≡ false → (length (line ++ more) == 0) ≡ false
not_none line more some =
    let long = length-append line more in
    let test : length line ≡ 0 → ⊥ = λ none. other_test (length line) none some in
    grind (arith, nat_tests)

alone_stays : (m n : ℕ) (b : Bool) (line more : Word) → (length line == 0) ≡ b →
    Stays n (cond b (Ok []) (Err (BadLine m))) (ended_at m ((line ++ more) ∷ []))
alone_stays m n true line more is h = absurd (none_here n h)
alone_stays m n false line more is h =
    ap (λ c. cond c (Ok []) (Err (BadLine m))) (not_none line more is) ∙ h

end_stays : (m n : ℕ) (lines : List Word) (line more : Word) (later : List Word) →
    Stays n (ended_at m (lines ++ line ∷ [])) (ended_at m (lines ++ (line ++ more) ∷ later))
end_stays m n [] line more [] h = alone_stays m n (length line == 0) line more refl h
end_stays m n [] line more (next ∷ later) h = bad_if m n (length line == 0) h
end_stays m n (x ∷ []) line more later h = h
end_stays m n (x ∷ y ∷ lines) line more later h = h

entries_stay : (wall : ChineseWall) (m n : ℕ) (lines : List Word) (line more : Word)
    (later : List Word) → Stays n (entries_in wall m (lines ++ line ∷ []))
    (entries_in wall m (lines ++ (line ++ more) ∷ later))
unfolding entries_in
entries_stay wall m n [] line more later h = absurd (cut_here n h)
entries_stay wall m n (x ∷ []) line more later h =
    line_stays m n (line_at wall x) (entries_in wall (m + 1) (line ∷ []))
    (ended_at (m + 3) (line ∷ [])) (entries_in wall (m + 1) ((line ++ more) ∷ later))
    (ended_at (m + 3) ((line ++ more) ∷ later))
    (entries_stay wall (m + 1) n [] line more later) (end_stays (m + 3) n [] line more later) h
entries_stay wall m n (x ∷ y ∷ lines) line more later h =
    line_stays m n (line_at wall x) (entries_in wall (m + 1) (y ∷ (lines ++ line ∷ [])))
    (ended_at (m + 3) (y ∷ (lines ++ line ∷ [])))
    (entries_in wall (m + 1) (y ∷ (lines ++ (line ++ more) ∷ later)))
    (ended_at (m + 3) (y ∷ (lines ++ (line ++ more) ∷ later)))
    (entries_stay wall (m + 1) n (y ∷ lines) line more later)
    (end_stays (m + 3) n (y ∷ lines) line more later) h

lines_stay : (wall : ChineseWall) (n : ℕ) (lines : List Word) (line more : Word)
    (later : List Word) →
    Stays n (lines_in wall (lines ++ line ∷ [])) (lines_in wall (lines ++ (line ++ more) ∷ later))
lines_stay wall n [] line more later h = absurd (cut_here n h)
lines_stay wall n (x ∷ []) line more later h =
    if_stays n (bytes_eq x (header_line wall.version)) (entries_in wall 0 (line ∷ []))
    (entries_in wall 0 ((line ++ more) ∷ later)) (Err (BadLine 1))
    (entries_stay wall 0 n [] line more later) h
lines_stay wall n (x ∷ y ∷ lines) line more later h =
    if_stays n (bytes_eq x (header_line wall.version))
    (entries_in wall 0 (y ∷ (lines ++ line ∷ [])))
    (entries_in wall 0 (y ∷ (lines ++ (line ++ more) ∷ later))) (Err (BadLine 1))
    (entries_stay wall 0 n (y ∷ lines) line more later) h

-- a list with a first has a last
last_of : (w : Word) (ws : List Word) →
    (lines : List Word) × (line : Word) × (w ∷ ws ≡ lines ++ line ∷ [])
last_of w [] = ([], w, refl)
last_of w (v ∷ ws) =
    let rest = last_of v ws in (w ∷ rest.0, rest.1, ap (λ l. w ∷ l) rest.2)

some_last : (words : List Word) → 0 < length words →
    (lines : List Word) × (line : Word) × (words ≡ lines ++ line ∷ [])
some_last [] some = absurd (omega arith)
some_last (w ∷ ws) some = last_of w ws

behind_stays : (wall : ChineseWall) (n : ℕ) (lines : List Word) (line : Word)
    (later : List Word) →
    Stays n (lines_in wall (lines ++ line ∷ [])) (lines_in wall (lines ++ behind line later))
behind_stays wall n lines line [] h = h
behind_stays wall n lines line (part ∷ later) h = lines_stay wall n lines line part later h

pub bad_stays : (wall : ChineseWall) (text more : List ℕ) (n : ℕ) →
    book_in wall text ≡ Err (BadLine n) → book_in wall (text ++ more) ≡ Err (BadLine n)
unfolding book_in
bad_stays wall text more n h =
    let long : 0 < length (parts 10 text) = omega
    (arith, length-slice_split (λ b. eqb b 10) text) in
    let last = some_last (parts 10 text) long in
    ap (lines_in wall) (parts_behind text more last.0 last.1 last.2)
    ∙ behind_stays wall n last.0 last.1 (parts 10 more)
    (ap (lines_in wall) (sym last.2) ∙ h)
