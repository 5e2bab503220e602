-- The text of a book is read again, and each proper prefix of it is cut.
use Rattle.std.proofs.Common.{◌≡◌, ℕ, zero, suc, ◌+◌, ◌<◌, ◌≤◌, eqb, ltb, true, List, [], ◌∷◌, ◌++◌}
use Rattle.std.proofs.Common.{length, take, Result, Ok, Err, inl, inr, ◌⊎◌, refl, sym, ap}
use Rattle.std.proofs.Common.{◌∙◌, append_assoc, arith, eq-eqb}
use Rattle.std.specs.List.{AllByRecursion, join_with_byte}
use Rattle.std.specs.Str.{bytes_eq}
use Rattle.std.proofs.lemmas.Bool.{and_parts, and_from, cond-true}
use Rattle.std.proofs.lemmas.Slice.Eq.{bytes_eq-Decides}
use Rattle.std.proofs.lemmas.List.{length-append}
use Rattle.std.proofs.lemmas.List.Splits.{slice_split_none, slice_split_at}
use Rattle.wall_policy.specs.Policy.{ChineseWall, IsPolicy}
use Rattle.run_model.specs.declared.entry.Entry.{Entry}
use Rattle.coll_text.specs.Numbers.{Word}
use Rattle.coll_text.specs.Reading.{parts}
use Rattle.audit_book.specs.declared.fault.ReadFault.TheVariants.{Cut, BadLine}
use Rattle.audit_book.specs.declared.line.Line.{Line}
use Rattle.audit_book.specs.declared.line.Line.TheVariants.{Said}
use Rattle.audit_book.specs.Lines.{line_at}
use Rattle.audit_book.specs.Text.{entry_words, end_words, header_line, book_text}
use Rattle.audit_book.specs.Reading.{with_prefix, by_line, ended_at, entries_in, lines_in, book_in}
use Rattle.audit_book.specs.Laws.{IsSpelled}
use Rattle.audit_book.proofs.BookLemmas.{ended_lines, all_lines, text_is}
use Rattle.audit_book.proofs.AgainLemmas.{is_line, line_lacks, header_whole, entry_line_again}
use Rattle.audit_book.proofs.AgainLemmas.{end_line_again, entry_line_whole, end_line_whole}

abbrev pub AreLines : List Word → Type 0
AreLines ls = AllByRecursion (λ l. is_line l ≡ true) ls

pub parts_ended : (ls : List Word) → AreLines ls → parts 10 (ended_lines ls) ≡ ls ++ ([] ∷ [])
parts_ended [] h = refl
parts_ended (l ∷ ls) h =
    ap (parts 10) (append_assoc l (10 ∷ []) (ended_lines ls))
    ∙ slice_split_at (λ b. eqb b 10) l 10 (ended_lines ls) (line_lacks l h.0) refl
    ∙ ap (λ ws. l ∷ ws) (parts_ended ls h.1)

pub some_behind : (ls : List Word) (w : Word) → 0 < length (ls ++ (w ∷ []))
some_behind ls w = omega (arith, length-append ls (w ∷ []))

-- a prefix of lines: so many finished ones, and the beginning of the next
record Prefix (ls : List Word) (prefix : List ℕ) : Type 0 where
  finished : ℕ
  last : Word
  some : finished < length ls
  lines : parts 10 prefix ≡ take finished ls ++ (last ∷ [])

abbrev Later : Word → List ℕ → List ℕ → List ℕ → Type 0
Later l more prefix rest = (after : List ℕ) × (prefix ≡ l ++ (10 ∷ after)) × (after ++ rest ≡ more)

longer : (c b : ℕ) (l : Word) (bs more rest : List ℕ) → ltb 10 c ≡ true → b ≡ c →
    (is_line bs ≡ true) ⊎ Later l more bs rest →
    (is_line (b ∷ bs) ≡ true) ⊎ Later (c ∷ l) more (b ∷ bs) rest
longer c b l bs more rest far same (inl h) =
    inl (and_from (ltb 10 b) (is_line bs) (ap (ltb 10) same ∙ far) h)
longer c b l bs more rest far same (inr r) = inr (r.0, (λ i. same i ∷ r.1 i), r.2)

within : (l : Word) → is_line l ≡ true → (more prefix rest : List ℕ) →
    prefix ++ rest ≡ l ++ (10 ∷ more) → (is_line prefix ≡ true) ⊎ Later l more prefix rest
within l h more [] rest e = inl refl
within [] h more (b ∷ bs) rest e =
    let same : b ≡ 10 = cc in
    let tail : bs ++ rest ≡ more = cc in
    inr (bs, ap (λ b. b ∷ bs) same, tail)
within (c ∷ l) h more (b ∷ bs) rest e =
    let same : b ≡ c = cc in
    let tail : bs ++ rest ≡ l ++ (10 ∷ more) = cc in
    let p = and_parts _ (is_line l) h in
    longer c b l bs more rest (p.0) same (within l p.1 more bs rest tail)

here : (l : Word) (ls : List Word) (prefix : List ℕ) → is_line prefix ≡ true →
    Prefix (l ∷ ls) prefix
here l ls prefix h = record {
  finished = 0;
  last = prefix;
  some = omega arith;
  lines = slice_split_none (λ b. eqb b 10) prefix (line_lacks prefix h);
}

prefix_step : {rest : List ℕ} (l : Word) (ls : List Word) → is_line l ≡ true → (prefix : List ℕ) →
    ((after : List ℕ) → after ++ rest ≡ ended_lines ls → Prefix ls after)
    → (is_line prefix ≡ true) ⊎ Later l (ended_lines ls) prefix rest → Prefix (l ∷ ls) prefix
prefix_step l ls h prefix behind (inl f) = here l ls prefix f
prefix_step l ls h prefix behind (inr r) =
    let f = behind r.0 r.2 in
    record {
      finished = suc f.finished;
      last = f.last;
      some = omega (arith, f.some);
      lines = ap (parts 10) r.1 ∙ slice_split_at (λ b. eqb b 10) l 10 r.0 (line_lacks l h) refl
          ∙ ap (λ ws. l ∷ ws) f.lines;
    }

prefix_parts : (ls : List Word) → AreLines ls → (prefix rest : List ℕ) →
    prefix ++ rest ≡ ended_lines ls → 0 < length rest → Prefix ls prefix
prefix_parts [] h prefix rest e some = absurd (let n = length-append prefix rest in
    let m : length (prefix ++ rest) ≡ 0 = ap length e in omega (arith, n, m))
prefix_parts (l ∷ ls) h prefix rest e some =
    prefix_step l ls h.0 prefix (λ after g. prefix_parts ls h.1 after rest g some)
    (within l h.0 (ended_lines ls) prefix rest (e ∙ append_assoc l (10 ∷ []) (ended_lines ls)))

-- one entry more
pub step_again : (wall : ChineseWall) (k : ℕ) (line : Word) (ls : List Word) (e : Entry) →
    0 < length ls → line_at wall line ≡ Ok (Said e) →
    entries_in wall k (line ∷ ls) ≡ with_prefix (e ∷ []) (entries_in wall (k + 1) ls)
unfolding entries_in
step_again wall k line [] e some said = absurd (omega arith)
step_again wall k line (next ∷ more) e some said = ap (λ (r : Result Line _).
    by_line k r (entries_in wall (k + 1) (next ∷ more)) (ended_at (k + 3) (next ∷ more))) said

module _ (wall : ChineseWall) (policy : IsPolicy wall) where
  pub lines_whole : (es : List Entry) (n : ℕ) → AllByRecursion (IsSpelled wall) es →
      n ≤ 18446744073709551615 → AreLines (all_lines wall es n)
  lines_whole [] n h small = (end_line_whole wall policy n small, tt)
  lines_whole (e ∷ es) n h small = (entry_line_whole wall policy e h.0, lines_whole es n h.1 small)

  end_step : (k n : ℕ) → n ≤ 18446744073709551615 → n ≡ k →
      entries_in wall k (join_with_byte 32 (end_words n) ∷ [] ∷ []) ≡ Ok []
  unfolding entries_in
  end_step k n small same = rw (end_line_again wall policy n small, eq-eqb n k same) refl

  pub entries_again : (k n : ℕ) (es : List Entry) → AllByRecursion (IsSpelled wall) es →
      n ≤ 18446744073709551615 → n ≡ k + length es →
      entries_in wall k (all_lines wall es n ++ ([] ∷ [])) ≡ Ok es
  entries_again k n [] h small sum = end_step k n small (omega (arith, sum))
  entries_again k n (e ∷ es) h small sum =
      step_again wall k (join_with_byte 32 (entry_words wall e)) (all_lines wall es n ++ ([] ∷ []))
      e (some_behind (all_lines wall es n) []) (entry_line_again wall policy e h.0)
      ∙ ap (with_prefix (e ∷ [])) (entries_again (k + 1) n es h.1 small (omega (arith, sum)))

  pub header_again : (ls : List Word) → 0 < length ls →
      lines_in wall (header_line wall.version ∷ ls) ≡ entries_in wall 0 ls
  header_again [] some = absurd (omega arith)
  header_again (next ∷ more) some = cond-true
      (bytes_eq (header_line wall.version) (header_line wall.version))
      (entries_in wall 0 (next ∷ more)) (Err (BadLine 1))
      ((bytes_eq-Decides (header_line wall.version) (header_line wall.version)).1 refl)

  pub book_again : (es : List Entry) → AllByRecursion (IsSpelled wall) es →
      length es ≤ 18446744073709551615 → book_in wall (book_text wall es) ≡ Ok es
  unfolding book_in
  book_again es h small =
      let n = length es in
      ap (λ (t : List ℕ). lines_in wall (parts 10 t)) (sym (text_is wall es))
      ∙ ap (lines_in wall) (parts_ended (header_line wall.version ∷ all_lines wall es n)
      (header_whole wall.version, lines_whole es n h small))
      ∙ header_again (all_lines wall es n ++ ([] ∷ [])) (some_behind (all_lines wall es n) [])
      ∙ entries_again 0 n es h small (omega arith)

  -- ---- fronts

  prefix_cut : (k n j : ℕ) (es : List Entry) (last : Word) → AllByRecursion (IsSpelled wall) es →
      j < length (all_lines wall es n) →
      entries_in wall k (take j (all_lines wall es n) ++ (last ∷ [])) ≡ Err Cut
  unfolding entries_in
  prefix_cut k n zero es last h lt = refl
  prefix_cut k n (suc j) [] last h lt = absurd (omega arith)
  prefix_cut k n (suc j) (e ∷ es) last h lt =
      step_again wall k (join_with_byte 32 (entry_words wall e))
      (take j (all_lines wall es n) ++ (last ∷ [])) e
      (some_behind (take j (all_lines wall es n)) last) (entry_line_again wall policy e h.0)
      ∙ ap (with_prefix (e ∷ [])) (prefix_cut (k + 1) n j es last h.1 (omega arith))

  lines_cut : (n j : ℕ) (es : List Entry) (last : Word) → AllByRecursion (IsSpelled wall) es →
      j < length (header_line wall.version ∷ all_lines wall es n) →
      lines_in wall (take j (header_line wall.version ∷ all_lines wall es n) ++ (last ∷ []))
      ≡ Err Cut
  lines_cut n zero es last h lt = refl
  lines_cut n (suc j) es last h lt =
      header_again (take j (all_lines wall es n) ++ (last ∷ []))
      (some_behind (take j (all_lines wall es n)) last)
      ∙ prefix_cut 0 n j es last h (omega arith)

  pub book_cut : (es : List Entry) (prefix rest : List ℕ) → AllByRecursion (IsSpelled wall) es →
      length es ≤ 18446744073709551615 → prefix ++ rest ≡ book_text wall es → 0 < length rest →
      book_in wall prefix ≡ Err Cut
  unfolding book_in
  book_cut es prefix rest h small e some =
      let n = length es in
      let f = prefix_parts (header_line wall.version ∷ all_lines wall es n)
      (header_whole wall.version, lines_whole es n h small) prefix rest
      (e ∙ sym (text_is wall es)) some in
      ap (lines_in wall) f.lines ∙ lines_cut n f.finished es f.last h f.some
