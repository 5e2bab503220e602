-- How a reader goes on by one finished line.
use Rattle.std.proofs.Common.{◌≡◌, ℕ, ◌+◌, ◌<◌, ◌≤◌, Bool, true, false, List, [], ◌∷◌}
use Rattle.std.proofs.Common.{◌++◌, length, Option, Some, None, Result, Ok, Err, sym, ap}
use Rattle.std.proofs.Common.{subst, ◌∙◌, arith, append-nil}
use Rattle.std.specs.Prelude.{◌^◌, is_none, not}
use Rattle.std.specs.Str.{bytes_eq}
use Rattle.std.specs.List.{cons_option, join_with_byte}
use Rattle.std.proofs.lemmas.List.{length-append}
use Rattle.std.proofs.lemmas.List.Elements.{filter_map-append}
use Rattle.std.proofs.lemmas.Slice.Eq.{bytes_eq-Decides}
use Rattle.wall_policy.specs.Policy.{ChineseWall}
use Rattle.run_model.specs.declared.entry.Entry.{Entry}
use Rattle.coll_text.specs.declared.fault.LineFault.{LineFault}
use Rattle.coll_text.specs.Numbers.{Word}
use Rattle.audit_book.specs.declared.check_fault.BookFault.{BookFault}
use Rattle.audit_book.specs.declared.fault.ReadFault.TheVariants as faults
use Rattle.audit_book.specs.declared.line.Line.{Line}
use Rattle.audit_book.specs.declared.line.Line.TheVariants.{Said, End}
use Rattle.audit_book.specs.Lines.{line_at}
use Rattle.audit_book.specs.declared.fault.ReadFault.{ReadFault}
use Rattle.audit_book.specs.Reading.{entries_in, lines_in}
use Rattle.audit_book.specs.Text.{header_line, end_words}
use Rattle.audit_book.proofs.AuditBookLemmas.{line_text}
use Rattle.book_seal.specs.Seals.{entry_told}
use Rattle.book_seal.proofs.BegunLemmas.{header_told}
use Rattle.book_stream.specs.Cuts.{line_limit}
use Rattle.book_stream.specs.Readings.{SayEntries}
use Rattle.book_stream.proofs.ReadingLemmas.{header_says, header_bad, entry_says, end_says}
use Rattle.book_stream.proofs.ReadingLemmas.{other_end, no_line}
use Rattle.seal_stream.specs.declared.reading.Reading.{Reading}
use Rattle.seal_stream.specs.declared.reading.Stage.{Stage}
use Rattle.seal_stream.specs.declared.reading.Stage.TheVariants as stages
use Rattle.seal_stream.specs.declared.stop.SealStop.TheVariants.{BadLine, TooMany}
use Rattle.seal_stream.specs.Steps.{SayAt, told_by, IsJudged, HasJudged}
use Rattle.seal_stream.specs.Steps.{IsBadBehind, IsLongBehind, kept_if, lines_at}

one_more : {A : Type 0} (xs : List A) (x : A) → length (xs ++ x ∷ []) ≡ length xs + 1
one_more xs x = let long = length-append xs (x ∷ []) in omega (arith, long)

pub none_is : (some none : Bool) → some ≡ not none → none ≡ not some
none_is some true e = sym (ap not e)
none_is some false e = sym (ap not e)

-- ---- what a line more tells

module _ (wall : ChineseWall) (lines : List Word) (line : Word) where
  told_on : told_by wall (lines ++ line ∷ []) ≡ told_by wall lines
      ++ cons_option (entry_told (line_at wall line)) []
  told_on = filter_map-append (λ (l : Word). entry_told (line_at wall l)) lines (line ∷ [])

  tells_none : entry_told (line_at wall line) ≡ None →
      told_by wall (lines ++ line ∷ []) ≡ told_by wall lines
  tells_none none = told_on
      ∙ ap (λ (o : Option Entry). told_by wall lines ++ cons_option o []) none
      ∙ append-nil (told_by wall lines)

  tells_one : (e : Entry) → line_at wall line ≡ Ok (Said e) →
      told_by wall (lines ++ line ∷ []) ≡ told_by wall lines ++ e ∷ []
  tells_one e said = told_on
      ∙ ap (λ (r : Result Line LineFault). told_by wall lines ++ cons_option (entry_told r) []) said

  tells_end : (n : ℕ) → line_at wall line ≡ Ok (End n) →
      told_by wall (lines ++ line ∷ []) ≡ told_by wall lines
  tells_end n said = tells_none
      (ap (λ (r : Result Line LineFault). entry_told r) said)

  tells_header : bytes_eq line (header_line wall.version) ≡ true →
      told_by wall (lines ++ line ∷ []) ≡ told_by wall lines
  tells_header same = tells_none
      (ap (λ (w : Word). entry_told (line_at wall w))
      ((bytes_eq-Decides line (header_line wall.version)).0 same) ∙ header_told wall)

-- ---- lines alone

abbrev read : Result (List Entry) ReadFault → Result (List Entry) ReadFault
read r = r

cut_is_none : (n : ℕ) → read (Err faults.Cut) ≡ Err (faults.BadLine n) → ⊥
cut_is_none n h = cc

book_is_none : (es : List Entry) (n : ℕ) → read (Ok es) ≡ Err (faults.BadLine n) → ⊥
book_is_none es n h = cc

module _ (wall : ChineseWall) (lines : List Word) (es : List Entry) where
  pub header_alone : SayAt wall stages.Header lines es →
      lines_in wall (lines ++ [] ∷ []) ≡ Err faults.Cut
  header_alone say = ap (λ (ls : List Word). lines_in wall (ls ++ [] ∷ [])) say.0

  pub entries_alone : SayAt wall stages.Entry lines es →
      lines_in wall (lines ++ [] ∷ []) ≡ Err faults.Cut
  unfolding entries_in
  entries_alone say = say.says [] []

  pub book_alone : SayAt wall stages.Ended lines es → lines_in wall (lines ++ [] ∷ []) ≡ Ok es
  book_alone say = say [] [] ∙ ap Ok (append-nil es)

  pub none_alone : (stage : Stage) → SayAt wall stage lines es → (n : ℕ) →
      lines_in wall (lines ++ [] ∷ []) ≡ Err (faults.BadLine n) → ⊥
  none_alone stages.Header say n h = cut_is_none n (sym (header_alone say) ∙ h)
  none_alone stages.Entry say n h = cut_is_none n (sym (entries_alone say) ∙ h)
  none_alone stages.Ended say n h = book_is_none es n (sym (book_alone say) ∙ h)

-- ---- a line of a reader

module _ (wall : ChineseWall) (old new : Reading) (lines kept : List Word) (line : Word)
    (h : HasJudged wall old lines kept) where
  pub at_stage : (stage : Stage) → old.stage ≡ stage → SayAt wall stage lines h.entries
  at_stage stage is = subst (λ s. SayAt wall s lines h.entries) is h.say

  count_at : (stage : Stage) → old.stage ≡ stage → length lines ≡ lines_at stage (length h.entries)
  count_at stage is = h.count ∙ ap (λ s. lines_at s (length h.entries)) is

  pub judged_at : (stage : Stage) → old.stage ≡ stage →
      IsJudged wall stage old.audit old.fault lines kept h.entries
  judged_at stage is =
      subst (λ s. IsJudged wall s old.audit old.fault lines kept h.entries) is h.judged

  header_kept : (fault : Option BookFault) →
      IsJudged wall stages.Header old.audit fault lines kept h.entries → lines ≡ [] →
      IsJudged wall stages.Entry old.audit fault (lines ++ line ∷ []) (kept ++ line ∷ []) h.entries
  header_kept None j none = record {
    all = ap (λ (ls : List Word). ls ++ line ∷ []) j.all;
    seen = j.seen;
  }
  header_kept (Some fault) j none =
      let n = j.say.number in
      let long = ap length (sym none ∙ j.whole) ∙ length-append kept j.more in
      absurd (omega (arith, n, long))

  pub header_read : old.stage ≡ stages.Header → new.stage ≡ stages.Entry →
      new.audit ≡ old.audit → new.fault ≡ old.fault → new.entries ≡ old.entries →
      bytes_eq line (header_line wall.version) ≡ true →
      HasJudged wall new (lines ++ line ∷ []) (kept ++ line ∷ [])
  header_read is then audit fault number same =
      let none = at_stage stages.Header is in record {
        entries = h.entries;
        number = number ∙ h.number;
        few = h.few;
        say = subst (λ s. SayAt wall s (lines ++ line ∷ []) h.entries) (sym then)
            (subst (λ (l : List Word). SayEntries wall (l ++ line ∷ []) h.entries) (sym none.0)
            (subst (SayEntries wall (line ∷ [])) (sym none.1) (header_says wall line same)));
        count = ap (λ (ls : List Word). length (ls ++ line ∷ [])) none.0
            ∙ sym (ap (λ s. lines_at s (length h.entries)) then ∙ ap (λ es. length es + 1) none.1);
        told = tells_header wall lines line same ∙ h.told;
        judged = subst (λ s. IsJudged wall s new.audit new.fault (lines ++ line ∷ [])
            (kept ++ line ∷ []) h.entries) (sym then)
            (subst (λ a. IsJudged wall stages.Entry a new.fault (lines ++ line ∷ [])
            (kept ++ line ∷ []) h.entries) (sym audit)
            (subst (λ f. IsJudged wall stages.Entry old.audit f (lines ++ line ∷ [])
            (kept ++ line ∷ []) h.entries) (sym fault)
            (header_kept old.fault (judged_at stages.Header is) none.0)));
      }

  pub entry_read : old.stage ≡ stages.Entry → new.stage ≡ stages.Entry → (e : Entry) →
      line_at wall line ≡ Ok (Said e) → new.entries ≡ old.entries + 1 →
      old.entries < 2 ^ 62 → (is_kept : Bool) → is_kept ≡ is_none new.fault →
      IsJudged wall stages.Entry new.audit new.fault (lines ++ line ∷ [])
      (kept_if (is_none new.fault) kept line) (h.entries ++ e ∷ []) →
      HasJudged wall new (lines ++ line ∷ []) (kept_if is_kept kept line)
  entry_read is then e said number few is_kept good judged =
      let long = one_more h.entries e in
      let was = h.number in record {
        entries = h.entries ++ e ∷ [];
        number = omega (arith, number, long, was);
        few = omega (arith, long, was, few);
        say = subst (λ s. SayAt wall s (lines ++ line ∷ []) (h.entries ++ e ∷ [])) (sym then)
            (entry_says wall lines h.entries (at_stage stages.Entry is) line e said);
        count =
            let was : length lines ≡ length h.entries + 1 = count_at stages.Entry is in
            let now = one_more lines line in
            subst (λ s. length (lines ++ line ∷ []) ≡ lines_at s (length (h.entries ++ e ∷ [])))
            (sym then) (omega (arith, was, now, long));
        told = tells_one wall lines line e said ∙ ap (λ es. es ++ e ∷ []) h.told;
        judged = subst (λ s. IsJudged wall s new.audit new.fault (lines ++ line ∷ [])
            (kept_if is_kept kept line) (h.entries ++ e ∷ [])) (sym then)
            (subst (λ b. IsJudged wall stages.Entry new.audit new.fault (lines ++ line ∷ [])
            (kept_if b kept line) (h.entries ++ e ∷ [])) (sym good) judged);
      }

  pub end_read : old.stage ≡ stages.Entry → new.stage ≡ stages.Ended →
      new.audit ≡ old.audit → new.entries ≡ old.entries → (n : ℕ) → n ≡ old.entries →
      line_at wall line ≡ Ok (End n) →
      IsJudged wall stages.Ended old.audit new.fault (lines ++ line ∷ []) kept h.entries →
      HasJudged wall new (lines ++ line ∷ []) kept
  end_read is then audit number n same said judged = record {
    entries = h.entries;
    number = number ∙ h.number;
    few = h.few;
    say = subst (λ s. SayAt wall s (lines ++ line ∷ []) h.entries) (sym then)
        (end_says wall lines h.entries (at_stage stages.Entry is) line n (same ∙ h.number) said);
    count =
        let was : length lines ≡ length h.entries + 1 = count_at stages.Entry is in
        let now = one_more lines line in
        subst (λ s. length (lines ++ line ∷ []) ≡ lines_at s (length h.entries)) (sym then)
        (omega (arith, was, now));
    told = tells_end wall lines line n said ∙ h.told;
    judged = subst (λ s. IsJudged wall s new.audit new.fault (lines ++ line ∷ []) kept h.entries)
        (sym then) (subst (λ a. IsJudged wall stages.Ended a new.fault (lines ++ line ∷ []) kept
        h.entries) (sym audit) judged);
  }

  -- the line of the end of so many
  pub end_is : (n : ℕ) → n ≡ old.entries → line_at wall line ≡ Ok (End n) →
      line ≡ join_with_byte 32 (end_words (length h.entries))
  end_is n same said = line_text wall line (End n) said
      ∙ ap (λ k. join_with_byte 32 (end_words k)) (same ∙ h.number)

  -- ---- and one that is not taken

  pub header_stops : old.stage ≡ stages.Header →
      bytes_eq line (header_line wall.version) ≡ false → IsBadBehind wall lines line (BadLine 1)
  header_stops is other = λ next more.
      ap (λ (l : List Word). lines_in wall (l ++ line ∷ next ∷ more)) (at_stage stages.Header is).0
      ∙ header_bad wall line other next more

  pub other_stops : old.stage ≡ stages.Entry → (n : ℕ) → (n ≡ old.entries → ⊥) →
      line_at wall line ≡ Ok (End n) → IsBadBehind wall lines line (BadLine (old.entries + 2))
  other_stops is n other said = λ next more.
      other_end wall lines h.entries (at_stage stages.Entry is) line n
      (λ same. other (same ∙ sym h.number)) said next more
      ∙ ap (λ k. Err (faults.BadLine (k + 2))) (sym h.number)

  pub fault_stops : old.stage ≡ stages.Entry → (f : LineFault) → line_at wall line ≡ Err f →
      IsBadBehind wall lines line (BadLine (old.entries + 2))
  fault_stops is f said = λ next more.
      no_line wall lines h.entries (at_stage stages.Entry is) line f said next more
      ∙ ap (λ k. Err (faults.BadLine (k + 2))) (sym h.number)

  pub many_stops : old.stage ≡ stages.Entry → 4611686018427387904 ≤ old.entries →
      IsBadBehind wall lines line TooMany
  many_stops is many =
      (h.entries, at_stage stages.Entry is, let n = h.number in omega (arith, n, many))

  pub ended_stops : old.stage ≡ stages.Ended →
      IsBadBehind wall lines line (BadLine (old.entries + 3))
  ended_stops is = λ next more.
      at_stage stages.Ended is line (next ∷ more)
      ∙ ap (λ k. Err (faults.BadLine (k + 3))) (sym h.number)

  -- ---- nor a long one

  pub long_behind : (stage : Stage) → old.stage ≡ stage → (n : ℕ) →
      n ≡ lines_at stage old.entries + 1 → line_limit < length line →
      IsLongBehind wall lines line n
  long_behind stage is n number long = record {
    place = number ∙ ap (λ k. lines_at stage k + 1) h.number ∙ ap (λ k. k + 1) (sym (count_at stage is));
    long = long;
    good = none_alone wall lines h.entries stage (at_stage stage is);
  }
