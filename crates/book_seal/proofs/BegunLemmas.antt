-- Finished lines that tell entries, and what is read where lines are put behind them.
use Rattle.std.proofs.Common.{◌≡◌, ◌⊎◌, inl, inr, ℕ, nat_eq, suc, ◌+◌, ◌<◌, ◌≤◌, eqb, Bool, true}
use Rattle.std.proofs.Common.{false, cond, List, [], ◌∷◌, ◌++◌, length, codes, Result, Ok, Err}
use Rattle.std.proofs.Common.{refl, sym, ap, ◌∙◌, arith, append_assoc}
use Rattle.std.specs.Prelude.{filter_map, Option, None}
use Rattle.std.specs.List.{AllByRecursion, join_with_byte, cons_option}
use Rattle.std.specs.Str.{bytes_eq}
use Rattle.std.proofs.lemmas.List.{append-nil, length-append}
use Rattle.std.proofs.lemmas.List.Splits.{slice_split_none, slice_split_at}
use Rattle.std.proofs.lemmas.Grind.{flat_map-append}
use Rattle.wall_policy.specs.Policy.{ChineseWall, IsPolicy}
use Rattle.run_model.specs.declared.entry.Entry.{Entry}
use Rattle.coll_text.specs.declared.fault.LineFault.{LineFault}
use Rattle.coll_text.specs.Numbers.{Word}
use Rattle.coll_text.specs.Reading.{parts}
use Rattle.audit_book.specs.declared.fault.ReadFault.{ReadFault}
use Rattle.audit_book.specs.declared.fault.ReadFault.TheVariants.{Cut}
use Rattle.audit_book.specs.declared.line.Line.{Line}
use Rattle.audit_book.specs.declared.line.Line.TheVariants.{Said, End}
use Rattle.audit_book.specs.Lines.{verb_of, line_in, line_at}
use Rattle.audit_book.specs.Text.{line_of, entry_words, end_words, header_words, header_line}
use Rattle.audit_book.specs.Text.{entry_lines, book_text}
use Rattle.audit_book.specs.Reading.{with_prefix, by_line, ended_at, entries_in, lines_in, book_in}
use Rattle.audit_book.specs.Faults.{IsLine, IsEntryLine, text_of, IsCut}
use Rattle.audit_book.specs.Laws.{IsSpelled}
use Rattle.audit_book.proofs.AuditBookLemmas.{line_lacks, header_whole, ended_lines, all_lines}
use Rattle.audit_book.proofs.AuditBookLemmas.{line_text, lines_are, more_found, ended_found}
use Rattle.audit_book.proofs.AuditBookLemmas.{end_step, header_step, cut_found, parts_more}
use Rattle.audit_book.proofs.AuditBookLemmas.{step_again, header_again, entries_again, lines_whole}
use Rattle.audit_book.proofs.AuditBookLemmas.{parts_ended, with_none}
use Rattle.book_seal.specs.Seals.{all_but_last, finished_lines, finished, entry_told}
use Rattle.book_seal.specs.Seals.{finished_entries}
use Rattle.book_seal.proofs.FinishedLemmas.{AreLines, but_last, finished_is, parts_behind}
use Rattle.book_seal.proofs.FinishedLemmas.{parts_of_finished, none_finished}

-- the entries that lines tell
abbrev pub told : ChineseWall → List Word → List Entry
told wall ls = filter_map (λ line. entry_told (line_at wall line)) ls

pub entries_are : (wall : ChineseWall) (text : List ℕ) (ls : List Word) →
    finished_lines text ≡ ls → finished_entries wall text ≡ told wall ls
unfolding finished_entries
entries_are wall text ls e = ap (told wall) e

abbrev AreEntryLines : ChineseWall → List Word → Type 0
AreEntryLines wall ls = AllByRecursion (IsEntryLine wall) ls

-- ---- the header tells no entry

header_step_told : (wall : ChineseWall) (t : Bool) →
    entry_told (line_at wall (join_with_byte 32
    (codes "book" ∷ cond t (codes "2") (codes "1") ∷ []))) ≡ None
unfolding line_in verb_of
header_step_told wall true = refl
header_step_told wall false = refl

pub header_told : (wall : ChineseWall) → entry_told (line_at wall (header_line wall.version)) ≡ None
header_told wall = header_step_told wall (nat_eq wall.version 2)

pub told_behind_header : (wall : ChineseWall) (ls : List Word) →
    told wall (header_line wall.version ∷ ls) ≡ told wall ls
told_behind_header wall ls =
    ap (λ (o : Option Entry). cons_option o (told wall ls)) (header_told wall)

pub told_step : (wall : ChineseWall) (l : Word) (ls : List Word) (e : Entry) →
    line_at wall l ≡ Ok (Said e) → told wall (l ∷ ls) ≡ e ∷ told wall ls
told_step wall l ls e said =
    ap (λ (r : Result Line LineFault). cons_option (entry_told r) (told wall ls)) said

-- ---- lines of entries

with_both : (e : Entry) (es : List Entry) (r : Result (List Entry) ReadFault) →
    with_prefix (e ∷ []) (with_prefix es r) ≡ with_prefix (e ∷ es) r
with_both e es (Ok more) = refl
with_both e es (Err f) = refl

some_behind : (ls rest : List Word) → 0 < length rest → 0 < length (ls ++ rest)
some_behind ls rest some = omega (arith, length-append ls rest, some)

module _ (wall : ChineseWall) where
  pub count_of_told : (ls : List Word) → AreEntryLines wall ls →
      length (told wall ls) ≡ length ls
  count_of_told [] h = refl
  count_of_told (l ∷ ls) h = ap length (told_step wall l ls h.0.1.0 h.0.1.1)
      ∙ ap suc (count_of_told ls h.1)

  entry_line_is : (l : Word) (e : Entry) → line_at wall l ≡ Ok (Said e) →
      l ++ (10 ∷ []) ≡ line_of (entry_words wall e)
  entry_line_is l e said = ap (λ w. w ++ (10 ∷ [])) (line_text wall l (Said e) said)

  pub text_of_told : (ls : List Word) → AreEntryLines wall ls →
      ended_lines ls ≡ entry_lines wall (told wall ls)
  text_of_told [] h = refl
  text_of_told (l ∷ ls) h =
      (λ i. entry_line_is l h.0.1.0 h.0.1.1 i ++ text_of_told ls h.1 i)
      ∙ ap (entry_lines wall) (sym (told_step wall l ls h.0.1.0 h.0.1.1))

  pub told_read : (k : ℕ) (ls rest : List Word) → AreEntryLines wall ls → 0 < length rest →
      entries_in wall k (ls ++ rest)
      ≡ with_prefix (told wall ls) (entries_in wall (k + length ls) rest)
  told_read k [] rest h some =
      ap (λ (n : ℕ). entries_in wall n rest) (let z : k ≡ k + 0 = omega arith in z)
      ∙ sym (with_none (entries_in wall (k + 0) rest))
  told_read k (l ∷ ls) rest h some =
      let sum : k + 1 + length ls ≡ k + suc (length ls) = omega arith in
      step_again wall k l (ls ++ rest) h.0.1.0 (some_behind ls rest some) h.0.1.1
      ∙ ap (with_prefix (h.0.1.0 ∷ [])) (told_read (k + 1) ls rest h.1 some)
      ∙ with_both h.0.1.0 (told wall ls) (entries_in wall (k + 1 + length ls) rest)
      ∙ (λ i. with_prefix (sym (told_step wall l ls h.0.1.0 h.0.1.1) i)
      (entries_in wall (sum i) rest))

  lines_of : (ls : List Word) → AreEntryLines wall ls → AreLines ls
  lines_of [] h = tt
  lines_of (l ∷ ls) h = (h.0.0, lines_of ls h.1)

  header_first : (rest : List ℕ) →
      parts 10 (header_line wall.version ++ (10 ∷ rest)) ≡ header_line wall.version ∷ parts 10 rest
  header_first rest = slice_split_at (λ b. eqb b 10) (header_line wall.version) 10 rest
      (line_lacks (header_line wall.version) (header_whole wall.version)) refl

  parts_of_lines : (ls : List Word) (last : Word) → AreEntryLines wall ls → IsLine last →
      parts 10 (text_of wall ls last) ≡ (header_line wall.version ∷ ls) ++ (last ∷ [])
  parts_of_lines ls last h line =
      header_first (ended_lines ls ++ last)
      ∙ ap (λ (ws : List Word). header_line wall.version ∷ ws)
      (parts_more ls (lines_of ls h) last
      ∙ ap (λ (ws : List Word). ls ++ ws) (slice_split_none (λ b. eqb b 10) last line))

  -- what is finished of a text that is cut: nothing, or the header and lines of entries
  pub record HasHeader (text : List ℕ) : Type 0 where
    pub lines : List Word
    pub whole : finished_lines text ≡ header_line wall.version ∷ lines
    pub entries : AllByRecursion (IsEntryLine wall) lines

  by_cut : (text : List ℕ) → IsCut wall (finished text) → (finished text ≡ []) ⊎ HasHeader text
  by_cut text (inl line) =
      let same : [] ++ (finished text ∷ []) ≡ finished_lines text ++ ([] ∷ []) =
      sym (slice_split_none (λ b. eqb b 10) (finished text) line) ∙ parts_of_finished text in
      let none : [] ≡ finished_lines text = sym (but_last [] (finished text))
      ∙ ap all_but_last same ∙ but_last (finished_lines text) [] in
      inl (finished_is text ∙ ap ended_lines (sym none))
  by_cut text (inr c) =
      let same : (header_line wall.version ∷ c.lines) ++ (c.last ∷ [])
      ≡ finished_lines text ++ ([] ∷ []) =
      sym (parts_of_lines c.lines c.last c.entries c.unfinished)
      ∙ ap (parts 10) (sym c.whole) ∙ parts_of_finished text in
      inr (record {
        lines = c.lines;
        whole = sym (sym (but_last (header_line wall.version ∷ c.lines) c.last)
            ∙ ap all_but_last same ∙ but_last (finished_lines text) []);
        entries = c.entries;
      })

  pub cut_is : (text : List ℕ) → book_in wall (finished text) ≡ Err Cut →
      (finished text ≡ []) ⊎ HasHeader text
  cut_is text h = by_cut text (cut_found wall (finished text) h)

  pub told_of : (text : List ℕ) (h : HasHeader text) →
      finished_entries wall text ≡ told wall h.lines
  told_of text h = entries_are wall text (header_line wall.version ∷ h.lines) h.whole
      ∙ told_behind_header wall h.lines

  pub none_told : (text : List ℕ) → finished text ≡ [] → finished_entries wall text ≡ []
  none_told text e = entries_are wall text [] (none_finished text e)

  -- its text with entries and an end behind it
  pub text_behind : (text : List ℕ) (h : HasHeader text) (more : List Entry) (n : ℕ) →
      n ≡ length (told wall h.lines ++ more) →
      finished text ++ (entry_lines wall more ++ line_of (end_words n))
      ≡ book_text wall (told wall h.lines ++ more)
  unfolding book_text
  text_behind text h more n same =
      let head = line_of (header_words wall.version) in
      let es = told wall h.lines in
      ap (λ t. t ++ (entry_lines wall more ++ line_of (end_words n)))
      (finished_is text ∙ ap ended_lines h.whole
      ∙ ap (λ t. head ++ t) (text_of_told h.lines h.entries))
      ∙ append_assoc head (entry_lines wall es)
      (entry_lines wall more ++ line_of (end_words n))
      ∙ ap (λ t. head ++ t)
      (sym (append_assoc (entry_lines wall es) (entry_lines wall more) (line_of (end_words n)))
      ∙ ap (λ t. t ++ line_of (end_words n))
      (sym (flat_map-append (λ (e : Entry). line_of (entry_words wall e)) es more))
      ∙ ap (λ (m : ℕ). entry_lines wall (es ++ more) ++ line_of (end_words m)) same)

  -- and what is read of it
  pub read_behind : IsPolicy wall → (text : List ℕ) (h : HasHeader text) (more : List Entry)
      (n : ℕ) → AllByRecursion (IsSpelled wall) more → n ≤ 18446744073709551615 →
      n ≡ length h.lines + length more →
      book_in wall (finished text ++ (entry_lines wall more ++ line_of (end_words n)))
      ≡ Ok (told wall h.lines ++ more)
  unfolding book_in
  read_behind policy text h more n spelled small sum =
      let ends = all_lines wall more n ++ ([] ∷ []) in
      let some : 0 < length ends =
      omega (arith, length-append (all_lines wall more n) ([] ∷ [])) in
      ap (λ (t : List ℕ). lines_in wall (parts 10 (finished text ++ t)))
      (sym (lines_are wall more n))
      ∙ ap (lines_in wall) (parts_behind text (ended_lines (all_lines wall more n)))
      ∙ (λ i. lines_in wall (h.whole i
      ++ parts_ended (all_lines wall more n) (lines_whole wall policy more n spelled small) i))
      ∙ header_again wall policy (h.lines ++ ends) (some_behind h.lines ends some)
      ∙ told_read 0 h.lines ends h.entries some
      ∙ ap (with_prefix (told wall h.lines))
      (entries_again wall policy (0 + length h.lines) n more spelled small (omega (arith, sum)))

-- ---- a text that is cut, with an end put behind it

module _ (wall : ChineseWall) (text : List ℕ) (cut : book_in wall (finished text) ≡ Err Cut)
    (some : 0 < length (finished text)) where
  header_of : (finished text ≡ []) ⊎ HasHeader wall text → HasHeader wall text
  header_of (inl none) = absurd (omega (arith, some, ap length none))
  header_of (inr h) = h

  header : HasHeader wall text
  header = header_of (cut_is wall text cut)

  count_is : length (parts 10 (finished text)) ≡ length header.lines + 2
  count_is =
      let both = ap length (parts_of_finished text
      ∙ ap (λ (ls : List Word). ls ++ ([] ∷ [])) header.whole) in
      let long = length-append (header_line wall.version ∷ header.lines) ([] ∷ []) in
      omega (arith, both, long)

  pub two_parts : 2 ≤ length (parts 10 (finished text))
  two_parts = let count = count_is in omega (arith, count)

  pub read_with_end : IsPolicy wall → (n : ℕ) → n ≤ 18446744073709551615 →
      n + 2 ≡ length (parts 10 (finished text)) →
      book_in wall (finished text ++ line_of (end_words n)) ≡ Ok (finished_entries wall text)
  read_with_end policy n small sum =
      let count = count_is in
      let lines : n ≡ length header.lines + 0 = omega (arith, sum, count) in
      read_behind wall policy text header [] n tt small lines
      ∙ ap (λ (es : List Entry). Ok es)
      (append-nil (told wall header.lines) ∙ sym (told_of wall text header))

-- ---- lines that have their end

module _ (wall : ChineseWall) where
  pub end_told : (l : Word) (ls : List Word) (n : ℕ) → line_at wall l ≡ Ok (End n) →
      told wall (l ∷ ls) ≡ told wall ls
  end_told l ls n said =
      ap (λ (r : Result Line LineFault). cons_option (entry_told r) (told wall ls)) said

  whole_step : (k : ℕ) (l next : Word) (more ls : List Word) (es : List Entry)
      (r : Result Line LineFault) → line_at wall l ≡ r → ls ++ ([] ∷ []) ≡ next ∷ more →
      ((rest : List Entry) → entries_in wall (k + 1) (next ∷ more) ≡ Ok rest → told wall ls ≡ rest)
      → by_line k r (entries_in wall (k + 1) (next ∷ more)) (ended_at (k + 3) (next ∷ more))
      ≡ Ok es → told wall (l ∷ ls) ≡ es
  whole_step k l next more ls es (Ok (Said e)) said same behind h =
      let m = more_found e (entries_in wall (k + 1) (next ∷ more)) es h in
      told_step wall l ls e said ∙ ap (λ rest. e ∷ rest) (behind m.rest m.read) ∙ sym m.whole
  whole_step k l next more ls es (Ok (End n)) said same behind h =
      let e = end_step k n (ended_at (k + 3) (next ∷ more)) es (eqb n k) refl h in
      let f = ended_found (k + 3) next more es e.1 in
      let none : [] ≡ ls = ap all_but_last (sym (same ∙ f.0)) ∙ but_last ls [] in
      end_told l ls n said ∙ ap (told wall) (sym none) ∙ sym f.1
  whole_step k l next more ls es (Err f) said same behind h = absurd cc

  entries_told : (k : ℕ) (ls : List Word) (es : List Entry) →
      entries_in wall k (ls ++ ([] ∷ [])) ≡ Ok es → told wall ls ≡ es
  unfolding entries_in
  entries_told k [] es h = absurd cc
  entries_told k (l ∷ []) es h = whole_step k l [] [] [] es (line_at wall l) refl refl
      (entries_told (k + 1) []) h
  entries_told k (l ∷ m ∷ ls) es h = whole_step k l m (ls ++ ([] ∷ [])) (m ∷ ls) es
      (line_at wall l) refl refl (entries_told (k + 1) (m ∷ ls)) h

  lines_told : (ls : List Word) (es : List Entry) → lines_in wall (ls ++ ([] ∷ [])) ≡ Ok es →
      told wall ls ≡ es
  lines_told [] es h = absurd cc
  lines_told (l ∷ []) es h =
      let s = header_step wall l [] [] es (bytes_eq l (header_line wall.version)) refl h in
      ap (λ (w : Word). told wall (w ∷ [])) s.0
      ∙ told_behind_header wall [] ∙ entries_told 0 [] es s.1
  lines_told (l ∷ m ∷ ls) es h =
      let s = header_step wall l m (ls ++ ([] ∷ [])) es (bytes_eq l (header_line wall.version)) refl
      h in
      ap (λ (w : Word). told wall (w ∷ m ∷ ls)) s.0
      ∙ told_behind_header wall (m ∷ ls) ∙ entries_told 0 (m ∷ ls) es s.1

  -- a text that is read as a book tells the entries of the book
  pub whole_told : (text : List ℕ) (es : List Entry) → book_in wall (finished text) ≡ Ok es →
      finished_entries wall text ≡ es
  unfolding book_in
  whole_told text es h = entries_are wall text (finished_lines text) refl
      ∙ lines_told (finished_lines text) es
      (ap (lines_in wall) (sym (parts_of_finished text)) ∙ h)
