-- The text of the completed entries is a seal.
use Rattle.std.proofs.Common.{◌≡◌, ◌⊎◌, inl, inr, ⊎_elim, ℕ, ◌+◌, ◌≤◌, Bool, true, false, List, []}
use Rattle.std.proofs.Common.{◌∷◌, ◌++◌, ◌<◌, length, Result, Ok, Err, refl, sym, ap, subst, ◌∙◌}
use Rattle.std.proofs.Common.{arith}
use Rattle.std.specs.Prelude.{Some, None, IsOk}
use Rattle.std.specs.Option.{option_to_list}
use Rattle.std.specs.List.{AllByRecursion}
use Rattle.std.proofs.lemmas.Bool.{false≢true}
use Rattle.std.proofs.lemmas.List.{append-nil, length-append}
use Rattle.wall_policy.specs.Policy.{ChineseWall, IsPolicy}
use Rattle.run_model.specs.declared.entry.Entry.{Entry}
use Rattle.run_model.specs.declared.entry.Entry.TheVariants.{Posted, Settled}
use Rattle.run_model.specs.Books.{book, posts_in, IsSound, IsFirstBad}
use Rattle.run_model.specs.EntryForms.{HasForm}
use Rattle.run_model.proofs.RunModelLemmas.{posts_in-append}
use Rattle.audit_book.specs.declared.fault.ReadFault.{ReadFault}
use Rattle.audit_book.specs.declared.fault.ReadFault.TheVariants.{BadLine}
use Rattle.audit_book.specs.Text.{line_of, end_words, entry_lines, book_text}
use Rattle.audit_book.specs.Reading.{book_in}
use Rattle.audit_book.specs.Laws.{IsSpelled}
use Rattle.audit_book.specs.Dues.{IsDueBehind}
use Rattle.audit_book.proofs.AuditBookLemmas.{bad_end, book_again, book_found, no_bad_cut}
use Rattle.book_seal.specs.declared.fault.SealFault.{SealFault}
use Rattle.book_seal.specs.declared.fault.SealFault.TheVariants as faults
use Rattle.book_seal.specs.Seals.{finished, finished_entries, IsSealOf}
use Rattle.book_seal.specs.Refusals.{HasBadLine, IsFaultOf}
use Rattle.book_seal.specs.SealSteps.{IsEnded, IsBegun, IsUnread, IsCompleted, IsUncompleted}
use Rattle.book_seal.proofs.BegunLemmas.{told, HasHeader, cut_is, told_of, none_told, text_behind}
use Rattle.book_seal.proofs.BegunLemmas.{read_behind, count_of_told, whole_told}

pub ok_value : (r : Result (List Entry) ReadFault) → IsOk r → (es : List Entry) × (r ≡ Ok es)
ok_value (Ok es) h = (es, refl)
ok_value (Err f) h = absurd cc

-- a settlement has its form
pub verdict_has_form : (e : Entry) → posts_in (e ∷ []) ≡ [] → HasForm e
verdict_has_form (Posted p c s) h = absurd cc
verdict_has_form (Settled c k o) h = refl

module _ (wall : ChineseWall) (policy : IsPolicy wall) (text : List ℕ)
    (entries sealed : List Entry) (ended : Bool) (begun : IsBegun wall text entries ended)
    (done : IsCompleted wall entries ended sealed) where
  abbrev due : List Entry
  due = option_to_list done.due

  posts_are : posts_in sealed ≡ posts_in (finished_entries wall text)
  posts_are = ap posts_in done.is ∙ posts_in-append entries due
      ∙ ap (λ ps. ps ++ posts_in entries) done.behind.no_post ∙ ap posts_in (sym begun.told)

  sound_is : IsSound wall sealed
  sound_is = subst (IsSound wall) (sym done.is) done.behind.sound

  of_ended : IsOk (book_in wall (finished text)) → sealed ≡ entries →
      IsSealOf wall text (book_text wall sealed)
  of_ended ok same =
      let v = ok_value (book_in wall (finished text)) ok in
      let is : v.0 ≡ sealed = sym (whole_told wall text v.0 v.1) ∙ begun.told ∙ sym same in
      let whole : finished text ≡ book_text wall sealed =
      book_found wall (finished text) v.0 v.1 ∙ ap (book_text wall) is in
      record {
        entries = sealed;
        read = ap (book_in wall) (sym whole) ∙ v.1 ∙ ap (λ es. Ok es) is;
        sound = sound_is;
        posts = posts_are;
        prefix = ([], append-nil (finished text) ∙ whole);
      }

  of_nothing : finished text ≡ [] → IsSealOf wall text (book_text wall sealed)
  of_nothing none =
      let empty : entries ≡ [] = sym begun.told ∙ none_told wall text none in
      let same : sealed ≡ due = done.is ∙ ap (λ es. es ++ due) empty in
      record {
        entries = sealed;
        read = book_again wall policy sealed
            (subst (λ es. AllByRecursion (IsSpelled wall) es) (sym same) done.spelled) done.few;
        sound = sound_is;
        posts = posts_are;
        prefix = (book_text wall sealed, ap (λ t. t ++ book_text wall sealed) none);
      }

  of_header : HasHeader wall text → IsSealOf wall text (book_text wall sealed)
  of_header h =
      let es = told wall h.lines in
      let same : sealed ≡ es ++ due =
      done.is ∙ ap (λ es. es ++ due) (sym begun.told ∙ told_of wall text h) in
      let n = length (es ++ due) in
      let count : n ≡ length h.lines + length due =
      length-append es due ∙ ap (λ m. m + length due) (count_of_told wall h.lines h.entries) in
      let small : n ≤ 18446744073709551615 = subst (λ m. m ≤ 18446744073709551615)
      (ap length same) done.few in
      let rest = entry_lines wall due ++ line_of (end_words n) in
      let whole : finished text ++ rest ≡ book_text wall sealed =
      text_behind wall text h due n refl ∙ ap (book_text wall) (sym same) in
      record {
        entries = sealed;
        read = ap (book_in wall) (sym whole)
            ∙ read_behind wall policy text h due n done.spelled small count
            ∙ ap (λ es. Ok es) (sym same);
        sound = sound_is;
        posts = posts_are;
        prefix = (rest, whole);
      }

  of_cut : (finished text ≡ []) ⊎ HasHeader wall text → IsSealOf wall text (book_text wall sealed)
  of_cut (inl none) = of_nothing none
  of_cut (inr h) = of_header h

  by_end : (b : Bool) → IsEnded wall text b → (b ≡ true → done.due ≡ None) →
      IsSealOf wall text (book_text wall sealed)
  by_end true ok none = of_ended ok
      (done.is ∙ ap (λ d. entries ++ option_to_list d) (none refl) ∙ append-nil entries)
  by_end false cut none = of_cut (cut_is wall text cut)

  pub seal_is : IsSealOf wall text (book_text wall sealed)
  seal_is = by_end ended begun.ends done.none

-- ---- faults

module _ (wall : ChineseWall) (text : List ℕ) where
  ok_good : (r : Result (List Entry) ReadFault) (n : ℕ) → IsOk r → r ≡ Err (BadLine n) → ⊥
  ok_good (Ok es) n ok bad = cc
  ok_good (Err f) n ok bad = cc

  pub good_lines : (ended : Bool) → IsEnded wall text ended → (n : ℕ) → HasBadLine wall text n → ⊥
  good_lines true ok n bad = ok_good (book_in wall (finished text)) n ok bad
  good_lines false cut n bad = no_bad_cut n (sym cut ∙ bad)

  pub unread_is : (f : SealFault) → IsUnread wall text f → IsFaultOf wall text f
  unread_is (faults.BadLine n) h = h
  unread_is (faults.BadEntry n) h = absurd h
  unread_is faults.NoMemory h = h

  pub uncompleted_is : (es : List Entry) (ended : Bool) (f : SealFault) →
      IsBegun wall text es ended → IsUncompleted wall es ended f → IsFaultOf wall text f
  uncompleted_is es ended (faults.BadLine n) begun h = absurd h
  uncompleted_is es ended (faults.BadEntry n) begun h = record {
    lines = good_lines ended begun.ends;
    bad = subst (λ xs. IsFirstBad wall xs n) (sym begun.told) h.0;
    there = ⊎_elim
        (λ (low : n ≤ length es). inl (subst (λ xs. n ≤ length xs) (sym begun.told) low))
        (λ (end : ended ≡ true). inr (subst (IsEnded wall text) end begun.ends)) h.1;
  }
  uncompleted_is es ended faults.NoMemory begun h = good_lines ended begun.ends

-- ---- answers in part

---- The completion of entries.

module _ (wall : ChineseWall) (entries : List Entry) (ended : Bool)
    (few : length entries < 4611686018427387904) where
  pub nothing_due : IsDueBehind wall entries None → IsCompleted wall entries ended entries
  nothing_due behind = record {
    due = None;
    is = sym (append-nil entries);
    behind = behind;
    spelled = tt;
    none = λ _. refl;
    few = omega arith;
  }

  pub verdict_added : (sealed : List Entry) (verdict : Entry) → sealed ≡ entries ++ verdict ∷ [] →
      IsDueBehind wall entries (Some verdict) → IsSpelled wall verdict → ended ≡ false →
      IsCompleted wall entries ended sealed
  verdict_added sealed verdict is behind spelled cut = record {
    due = Some verdict;
    is = is;
    behind = behind;
    spelled = (spelled, tt);
    none = λ end. absurd (false≢true (sym cut ∙ end));
    few = (let long = ap length is ∙ length-append entries (verdict ∷ []) in omega (arith, long));
  }

  -- where the end stands the verdict is missing
  pub verdict_missed : (verdict : Entry) → IsDueBehind wall entries (Some verdict) →
      ended ≡ true → IsUncompleted wall entries ended (faults.BadEntry (length entries + 1))
  verdict_missed verdict behind end = (
    bad_end wall entries (verdict ∷ [], behind.sound) (λ sound. no_more (
        append_assoc_none ∙ behind.sound.given
        ∙ ap (book wall) (posts_in-append entries (verdict ∷ [])
        ∙ ap (λ ps. ps ++ posts_in entries) behind.no_post)
        ∙ sym sound.given)),
    inr end,
  )
    where
      no_more : entries ++ verdict ∷ [] ≡ entries → ⊥
      no_more e = let long = sym (length-append entries (verdict ∷ [])) ∙ ap length e in omega arith

      append_assoc_none : entries ++ verdict ∷ [] ≡ entries ++ option_to_list (Some verdict)
      append_assoc_none = refl
