-- Why a text has no seal, by its finished lines.
use Rattle.std.proofs.Common.{◌≡◌, inl, inr, ℕ, ◌≤◌, List, [], ◌∷◌, ◌++◌, length}
use Rattle.std.proofs.Common.{Some, Err, refl, sym, ap, subst, ◌∙◌}
use Rattle.std.proofs.Common.{append_assoc}
use Rattle.std.specs.Prelude.{IsOk}
use Rattle.wall_policy.specs.Policy.{ChineseWall}
use Rattle.run_model.specs.declared.entry.Entry.{Entry}
use Rattle.run_model.specs.Books.{IsFirstBad}
use Rattle.coll_text.specs.Numbers.{Word}
use Rattle.coll_text.specs.Reading.{parts}
use Rattle.audit_book.specs.declared.check_fault.BookFault.TheVariants as entry_faults
use Rattle.audit_book.specs.declared.fault.ReadFault.TheVariants as texts
use Rattle.audit_book.specs.Reading.{lines_in, book_in}
use Rattle.audit_book.proofs.AuditBookLemmas.{parts_lines}
use Rattle.book_seal.specs.declared.fault.SealFault.TheVariants as faults
use Rattle.book_seal.specs.Seals.{finished, finished_lines, finished_entries}
use Rattle.book_seal.specs.Refusals.{StartsSoundly, HasBadLine, HasBadEntry}
use Rattle.book_seal.proofs.BegunLemmas.{entries_are}
use Rattle.book_seal.proofs.ExactLemmas.{starts_unsoundly}
use Rattle.book_seal.proofs.FinishedLemmas.{parts_of_finished}
use Rattle.seal_stream.specs.declared.reading.Reading.{Reading}
use Rattle.seal_stream.specs.declared.reading.Stage.{Stage}
use Rattle.seal_stream.specs.declared.reading.Stage.TheVariants as stages
use Rattle.seal_stream.specs.declared.stop.SealStop.TheVariants.{BadLine}
use Rattle.seal_stream.specs.Seals.{lines_text, HasLongLine}
use Rattle.seal_stream.specs.Steps.{AreLines, IsLongBehind}
use Rattle.seal_stream.specs.Steps.{IsBadBehind, told_by, SayAt, IsWrongAt, HasJudged, IsJudged}
use Rattle.seal_stream.proofs.ReadingLemmas.{none_alone, book_alone}
use Rattle.seal_stream.proofs.TextLemmas.{line_stays, finished_goes_on, finished_text, texts_joined}
use Rattle.seal_stream.proofs.TextLemmas.{front_lines, lines_cut, text_is_cut}

-- ---- a line at fault

-- what is read of finished lines alone, with a line behind which one more stands
behind_one : (wall : ChineseWall) (lines : List Word) (line : Word) (n : ℕ) →
    IsBadBehind wall lines line (BadLine n) → (more : List Word) →
    lines_in wall (lines ++ line ∷ (more ++ [] ∷ [])) ≡ Err (texts.BadLine n)
behind_one wall lines line n bad [] = bad [] []
behind_one wall lines line n bad (next ∷ more) = bad next (more ++ [] ∷ [])

pub stays_bad : (wall : ChineseWall) (text : List ℕ) (lines : List Word) (line : Word) (n : ℕ) →
    IsBadBehind wall lines line (BadLine n) → (more : List Word) →
    finished_lines text ≡ (lines ++ line ∷ []) ++ more → HasBadLine wall text n
unfolding book_in
stays_bad wall text lines line n bad more is =
    ap (lines_in wall) (parts_of_finished text
    ∙ ap (λ (ls : List Word). ls ++ [] ∷ []) (is ∙ append_assoc lines (line ∷ []) more)
    ∙ append_assoc lines (line ∷ more) ([] ∷ []))
    ∙ behind_one wall lines line n bad more

pub bad_line : (wall : ChineseWall) (text : List ℕ) (lines : List Word) (line next : Word)
    (more : List Word) (n : ℕ) → parts 10 text ≡ lines ++ line ∷ next ∷ more →
    IsBadBehind wall lines line (BadLine n) → (rest : List ℕ) →
    HasBadLine wall (text ++ rest) n × ¬ (StartsSoundly wall (text ++ rest))
bad_line wall text lines line next more n cut bad rest =
    let g = line_stays text rest lines line next more cut in
    let h = stays_bad wall (text ++ rest) lines line n bad g.more g.whole in
    (h, starts_unsoundly wall (text ++ rest) (faults.BadLine n) h (λ same. absurd cc))

-- ---- none

module _ (wall : ChineseWall) (text : List ℕ) (lines : List Word) (es : List Entry)
    (is : finished_lines text ≡ lines) where
  pub alone : book_in wall (finished text) ≡ lines_in wall (lines ++ [] ∷ [])
  unfolding book_in
  alone = ap (lines_in wall) (parts_of_finished text
      ∙ ap (λ (ls : List Word). ls ++ [] ∷ []) is)

  no_bad_at : (stage : Stage) → SayAt wall stage lines es → (n : ℕ) → HasBadLine wall text n → ⊥
  no_bad_at stage say n h = none_alone wall lines es stage say n (sym alone ∙ h)

  -- ---- an entry at fault

  module _ (told : told_by wall lines ≡ es) (n : ℕ) where
    tells : finished_entries wall text ≡ es
    tells = entries_are wall text lines is ∙ told

    within : (stage : Stage) → SayAt wall stage lines es → IsFirstBad wall es n →
        n ≤ length es → HasBadEntry wall text n
    within stage say bad low = record {
      lines = no_bad_at stage say;
      bad = subst (λ xs. IsFirstBad wall xs n) (sym tells) bad;
      there = inl (subst (λ xs. n ≤ length xs) (sym tells) low);
    }

    bad_entry_at : (stage : Stage) → SayAt wall stage lines es →
        IsWrongAt wall stage es (entry_faults.BadEntry n) → HasBadEntry wall text n
    bad_entry_at stages.Header say h = within stages.Header say h.0 h.1
    bad_entry_at stages.Entry say h = within stages.Entry say h.0 h.1
    bad_entry_at stages.Ended say h = record {
      lines = no_bad_at stages.Ended say;
      bad = subst (λ xs. IsFirstBad wall xs n) (sym tells) h;
      there = inr (subst IsOk (sym (alone ∙ book_alone wall lines es say)) refl);
    }

pub no_bad_line : (wall : ChineseWall) (reading : Reading) (lines kept : List Word) →
    HasJudged wall reading lines kept → (text : List ℕ) → finished_lines text ≡ lines →
    (n : ℕ) → ¬ (HasBadLine wall text n)
no_bad_line wall reading lines kept h text is n =
    no_bad_at wall text lines h.entries is reading.stage h.say n

pub bad_entry : (wall : ChineseWall) (reading : Reading) (lines kept : List Word) →
    (h : HasJudged wall reading lines kept) → (n : ℕ) →
    reading.fault ≡ Some (entry_faults.BadEntry n) → (text : List ℕ) →
    finished_lines text ≡ lines → HasBadEntry wall text n
bad_entry wall reading lines kept h n is text cut =
    let j = subst (λ f. IsJudged wall reading.stage reading.audit f lines kept h.entries) is
    h.judged in
    bad_entry_at wall text lines h.entries cut h.told n reading.stage h.say j.wrong

-- no text that goes on begins a sound book either
begins_before : (wall : ChineseWall) (text rest : List ℕ) → StartsSoundly wall (text ++ rest) →
    StartsSoundly wall text
begins_before wall text rest s =
    let g = finished_goes_on text rest in
    let longer : finished (text ++ rest) ≡ finished text ++ lines_text g.more =
    finished_text (text ++ rest) (finished_lines text ++ g.more) g.whole
    ∙ texts_joined (finished_lines text) g.more
    ∙ ap (λ (t : List ℕ). t ++ lines_text g.more) (sym (finished_text text (finished_lines text) refl))
    in
    record {
      whole = s.whole;
      entries = s.entries;
      read = s.read;
      sound = s.sound;
      prefix = (
        lines_text g.more ++ s.prefix.0,
        sym (append_assoc (finished text) (lines_text g.more) s.prefix.0)
            ∙ ap (λ (t : List ℕ). t ++ s.prefix.0) (sym longer) ∙ s.prefix.1,
      );
    }

pub bad_entry_stays : (wall : ChineseWall) (text : List ℕ) (n : ℕ) → HasBadEntry wall text n →
    (rest : List ℕ) → ¬ (StartsSoundly wall (text ++ rest))
bad_entry_stays wall text n h rest s = starts_unsoundly wall text (faults.BadEntry n) h
    (λ same. absurd cc) (begins_before wall text rest s)

-- ---- a long line

pub long_line : (wall : ChineseWall) (text : List ℕ) (lines : List Word) (line : Word)
    (more : List Word) (n : ℕ) → parts 10 text ≡ lines ++ line ∷ more →
    IsLongBehind wall lines line n → HasLongLine wall text n
long_line wall text lines line more n cut h =
    let are = front_lines lines (line ∷ more) (subst AreLines cut (parts_lines text)) in record {
      lines = lines;
      line = line;
      more = more;
      cut = cut;
      place = h.place;
      long = h.long;
      good = λ k bad. h.good k (sym (read_alone lines are) ∙ bad);
    }
  where
    read_alone : (ls : List Word) → AreLines ls →
        book_in wall (finished (lines_text ls)) ≡ lines_in wall (ls ++ [] ∷ [])
    read_alone ls are = alone wall (lines_text ls) ls []
        (lines_cut (lines_text ls) ls [] (text_is_cut ls are))
