-- What is read of finished lines with what is put behind them.
use Rattle.std.proofs.Common.{◌≡◌, ℕ, ◌+◌, ◌<◌, ◌≤◌, List, [], ◌∷◌, ◌++◌, length, Option, Some, None}
use Rattle.std.proofs.Common.{Ok, Err, refl, sym, ap, subst, ◌∙◌, arith, append-nil, append_assoc}
use Rattle.std.specs.Prelude.{◌^◌, All}
use Rattle.std.specs.Option.{option_to_list}
use Rattle.std.specs.List.{AllByRecursion, join_with_byte}
use Rattle.std.proofs.lemmas.List.{length-append}
use Rattle.std.proofs.lemmas.List.Elements.{All-nil}
use Rattle.wall_policy.specs.Policy.{ChineseWall, IsPolicy}
use Rattle.run_model.specs.declared.entry.Entry.{Entry}
use Rattle.run_model.specs.Books.{posts_in, IsSound}
use Rattle.run_model.specs.Known.{IsKnownEntry}
use Rattle.run_model.proofs.RunModelLemmas.{posts_in-append}
use Rattle.coll_text.specs.Numbers.{Word}
use Rattle.coll_text.specs.Reading.{parts}
use Rattle.audit_book.specs.declared.audit.Audit.{Audit}
use Rattle.audit_book.specs.declared.check_fault.BookFault.{BookFault}
use Rattle.audit_book.specs.declared.fault.ReadFault.TheVariants as texts
use Rattle.audit_book.specs.Audits.{HasSeen}
use Rattle.audit_book.specs.Dues.{IsDueBehind}
use Rattle.audit_book.specs.Laws.{IsSpelled}
use Rattle.audit_book.specs.Reading.{with_prefix, entries_in, lines_in, book_in}
use Rattle.audit_book.specs.Text.{line_of, end_words, header_words, entry_lines, book_text}
use Rattle.audit_book.proofs.AuditBookLemmas.{all_lines, ended_lines, lines_are, lines_whole}
use Rattle.audit_book.proofs.AuditBookLemmas.{parts_ended, entries_again, book_again}
use Rattle.audit_book.proofs.NamedLemmas.{book_known}
use Rattle.book_seal.specs.Seals.{finished, finished_lines, finished_entries}
use Rattle.book_seal.specs.Refusals.{StartsSoundly}
use Rattle.book_seal.proofs.BegunLemmas.{entries_are}
use Rattle.book_stream.specs.Readings.{SayEntries, SayBook}
use Rattle.seal_stream.specs.declared.reading.Reading.{Reading}
use Rattle.seal_stream.specs.declared.reading.Stage.{Stage}
use Rattle.seal_stream.specs.declared.reading.Stage.TheVariants as stages
use Rattle.seal_stream.specs.Seals.{lines_text}
use Rattle.seal_stream.specs.Steps.{AreLines, told_by, SayAt, IsJudged, HasJudged, IsUnspoilt}
use Rattle.seal_stream.specs.Steps.{IsSpoilt, IsSealWith, Completes}
use Rattle.seal_stream.proofs.TextLemmas.{finished_text, text_parts, text_is_cut, text_is_finished}
use Rattle.seal_stream.proofs.TextLemmas.{front_lines, texts_joined}

some_behind : (ls : List Word) (w : Word) → 0 < length (ls ++ (w ∷ []))
some_behind ls w = omega (arith, length-append ls (w ∷ []))

-- ---- what is read

module _ (wall : ChineseWall) (lines : List Word) (are : AreLines lines) (es : List Entry) where
  says_some : SayEntries wall lines es → (words : List Word) → 0 < length words →
      lines_in wall (lines ++ words) ≡ with_prefix es (entries_in wall (length es) words)
  says_some say [] some = absurd (omega (arith, some))
  says_some say (w ∷ words) some = say.says w words

  -- with what is due and the end behind them
  pub entries_read : IsPolicy wall → SayEntries wall lines es → (due : List Entry) →
      AllByRecursion (IsSpelled wall) due → (n : ℕ) → n ≡ length es + length due →
      n ≤ 18446744073709551615 →
      book_in wall (lines_text lines ++ (entry_lines wall due ++ line_of (end_words n)))
      ≡ Ok (es ++ due)
  unfolding book_in
  entries_read policy say due spelled n sum small =
      let all = all_lines wall due n in
      ap (λ (t : List ℕ). lines_in wall (parts 10 (lines_text lines ++ t)))
      (sym (lines_are wall due n))
      ∙ ap (lines_in wall) (text_parts lines are (ended_lines all)
      ∙ ap (λ (ws : List Word). lines ++ ws)
      (parts_ended all (lines_whole wall policy due n spelled small)))
      ∙ says_some say (all ++ [] ∷ []) (some_behind all [])
      ∙ ap (with_prefix es) (entries_again wall policy (length es) n due spelled small sum)

  -- where the end stands there
  pub book_read : SayBook wall lines es → book_in wall (lines_text lines) ≡ Ok es
  unfolding book_in
  book_read say = ap (lines_in wall) (text_is_cut lines are) ∙ say [] [] ∙ ap Ok (append-nil es)

  -- they name what the policy has
  pub entries_known : IsPolicy wall → SayEntries wall lines es → length es ≤ 2 ^ 62 →
      All (IsKnownEntry wall) es
  entries_known policy say few = book_known wall
      (lines_text lines ++ (entry_lines wall [] ++ line_of (end_words (length es)))) es
      (entries_read policy say [] tt (length es) (omega arith) (omega (arith, few))
      ∙ ap Ok (append-nil es))

  pub book_of_known : SayBook wall lines es → All (IsKnownEntry wall) es
  book_of_known say = book_known wall (lines_text lines) es (book_read say)

-- ---- what a seal is

module _ (wall : ChineseWall) (text : List ℕ) (lines : List Word) (is : finished_lines text ≡ lines)
    (es : List Entry) (told : told_by wall lines ≡ es) where
  tells : finished_entries wall text ≡ es
  tells = entries_are wall text lines is ∙ told

  pub seals : (tail : List ℕ) (due : List Entry) → posts_in due ≡ [] →
      IsSound wall (es ++ due) → book_in wall (lines_text lines ++ tail) ≡ Ok (es ++ due) →
      (n : ℕ) → n ≡ length es + length due → IsSealWith wall text (lines_text lines ++ tail) n
  seals tail due no_post sound read n sum = (
    record {
      entries = es ++ due;
      read = read;
      sound = sound;
      posts = posts_in-append es due ∙ ap (λ ps. ps ++ posts_in es) no_post
          ∙ ap posts_in (sym tells);
      prefix = (tail, ap (λ t. t ++ tail) (finished_text text lines is));
    },
    sum ∙ sym (length-append es due),
  )

module _ (wall : ChineseWall) (policy : IsPolicy wall) where
  empty_read : book_in wall (line_of (header_words wall.version) ++ line_of (end_words 0)) ≡ Ok []
  unfolding book_text
  empty_read = book_again wall policy [] tt (omega arith)

  empty_sound : IsSound wall []
  empty_sound = record { posts = tt; given = refl }

  -- of no line
  pub header_seals : (text : List ℕ) → finished_lines text ≡ [] →
      IsSealWith wall text (lines_text []
      ++ (line_of (header_words wall.version) ++ line_of (end_words 0))) 0
  header_seals text none = seals wall text [] none [] refl
      (line_of (header_words wall.version) ++ line_of (end_words 0)) [] refl empty_sound empty_read
      0 refl

  pub nothing_begins : StartsSoundly wall (lines_text [])
  nothing_begins = record {
    whole = line_of (header_words wall.version) ++ line_of (end_words 0);
    entries = [];
    read = empty_read;
    sound = empty_sound;
    prefix = (
      line_of (header_words wall.version) ++ line_of (end_words 0),
      ap (λ (t : List ℕ). t ++ (line_of (header_words wall.version) ++ line_of (end_words 0)))
          (text_is_finished [] tt),
    );
  }

  module _ (lines : List Word) (are : AreLines lines) (es : List Entry)
      (few : length es ≤ 2 ^ 62) where
    module _ (say : SayEntries wall lines es) (due : Option Entry)
        (behind : IsDueBehind wall es due)
        (spelled : AllByRecursion (IsSpelled wall) (option_to_list due)) where
      few_more : (d : Option Entry) → length es + length (option_to_list d) ≤ 18446744073709551615
      few_more None = omega (arith, few)
      few_more (Some e) = omega (arith, few)

      abbrev tail : List ℕ
      tail = entry_lines wall (option_to_list due)
          ++ line_of (end_words (length es + length (option_to_list due)))

      read : book_in wall (lines_text lines ++ tail) ≡ Ok (es ++ option_to_list due)
      read = entries_read wall lines are es policy say (option_to_list due) spelled
          (length es + length (option_to_list due)) refl (few_more due)

      -- of entries without their end
      pub entries_seal : (text : List ℕ) → finished_lines text ≡ lines →
          told_by wall lines ≡ es → (n : ℕ) → n ≡ length es + length (option_to_list due) →
          IsSealWith wall text (lines_text lines
          ++ (entry_lines wall (option_to_list due) ++ line_of (end_words n))) n
      entries_seal text is told n sum = subst (λ m. IsSealWith wall text (lines_text lines
          ++ (entry_lines wall (option_to_list due) ++ line_of (end_words m))) m) (sym sum)
          (seals wall text lines is es told tail (option_to_list due) behind.no_post behind.sound
          read (length es + length (option_to_list due)) refl)

      pub entries_begin : StartsSoundly wall (lines_text lines)
      entries_begin = record {
        whole = lines_text lines ++ tail;
        entries = es ++ option_to_list due;
        read = read;
        sound = behind.sound;
        prefix = (tail, ap (λ t. t ++ tail) (text_is_finished lines are));
      }

    -- of a whole book, of which these are the lines but the last
    pub book_seals : SayEntries wall lines es → IsSound wall es → (text : List ℕ) →
        finished_lines text ≡ lines ++ join_with_byte 32 (end_words (length es)) ∷ [] →
        told_by wall (lines ++ join_with_byte 32 (end_words (length es)) ∷ []) ≡ es → (n : ℕ) →
        n ≡ length es → IsSealWith wall text (lines_text lines
        ++ (entry_lines wall [] ++ line_of (end_words n))) n
    book_seals say sound text is told n sum = subst (λ m. IsSealWith wall text (lines_text lines
        ++ (entry_lines wall [] ++ line_of (end_words m))) m) (sym sum) (
          record {
            entries = es;
            read = entries_read wall lines are es policy say [] tt (length es) (omega arith)
                (omega (arith, few)) ∙ ap Ok (append-nil es);
            sound = sound;
            posts = ap posts_in (sym (entries_are wall text
                (lines ++ join_with_byte 32 (end_words (length es)) ∷ []) is ∙ told));
            prefix = (
              [],
              append-nil (finished text)
                  ∙ finished_text text (lines ++ join_with_byte 32 (end_words (length es)) ∷ []) is
                  ∙ texts_joined lines (join_with_byte 32 (end_words (length es)) ∷ [])
                  ∙ ap (λ t. lines_text lines ++ t) (append-nil (line_of (end_words (length es)))),
            );
          },
          refl,
        )

-- ---- a reader behind finished lines

-- the entries that the audit has gone through, which name what the policy has
pub record HasKnown (wall : ChineseWall) (audit : Audit) : Type 0 where
  pub entries : List Entry
  pub known : All (IsKnownEntry wall) entries
  pub seen : HasSeen wall audit entries

module _ (wall : ChineseWall) (policy : IsPolicy wall) (reading : Reading)
    (lines kept : List Word) (are : AreLines lines) (h : HasJudged wall reading lines kept) where
  ended_lines_are : (end : Word) → lines ≡ kept ++ end ∷ [] → AreLines kept
  ended_lines_are end is = front_lines kept (end ∷ []) (subst AreLines is are)

  known_unspoilt : (stage : Stage) → SayAt wall stage lines h.entries →
      IsUnspoilt wall stage reading.audit lines kept h.entries → HasKnown wall reading.audit
  known_unspoilt stages.Header say j = record {
    entries = h.entries;
    known = subst (All (IsKnownEntry wall)) (sym say.1) (All-nil (IsKnownEntry wall));
    seen = j.seen;
  }
  known_unspoilt stages.Entry say j = record {
    entries = h.entries;
    known = entries_known wall lines are h.entries policy say h.few;
    seen = j.seen;
  }
  known_unspoilt stages.Ended say j = record {
    entries = h.entries;
    known = entries_known wall kept (ended_lines_are _ j.all.2) h.entries policy j.all.0 h.few;
    seen = j.seen;
  }

  known_spoilt : (stage : Stage) (fault : BookFault) →
      IsSpoilt wall stage reading.audit fault lines kept h.entries → HasKnown wall reading.audit
  known_spoilt stage fault j = record {
    entries = j.front;
    known = entries_known wall kept (front_lines kept j.more (subst AreLines j.whole are)) j.front
        policy j.say j.few;
    seen = j.seen;
  }

  known_by : (fault : Option BookFault) →
      IsJudged wall reading.stage reading.audit fault lines kept h.entries →
      HasKnown wall reading.audit
  known_by None j = known_unspoilt reading.stage h.say j
  known_by (Some fault) j = known_spoilt reading.stage fault j

  pub known : HasKnown wall reading.audit
  known = known_by reading.fault h.judged

  -- ---- some sound book begins with the lines that are kept

  module _ (due : Option Entry)
      (behind : (es : List Entry) → HasSeen wall reading.audit es → IsDueBehind wall es due)
      (spelled : AllByRecursion (IsSpelled wall) (option_to_list due)) where
    begins_unspoilt : (stage : Stage) → SayAt wall stage lines h.entries →
        IsUnspoilt wall stage reading.audit lines kept h.entries →
        StartsSoundly wall (lines_text kept)
    begins_unspoilt stages.Header say j =
        subst (λ (ls : List Word). StartsSoundly wall (lines_text ls)) (sym (j.all ∙ say.0))
        (nothing_begins wall policy)
    begins_unspoilt stages.Entry say j =
        subst (λ (ls : List Word). StartsSoundly wall (lines_text ls)) (sym j.all)
        (entries_begin wall policy lines are h.entries h.few say due (behind h.entries j.seen)
        spelled)
    begins_unspoilt stages.Ended say j = entries_begin wall policy kept (ended_lines_are _ j.all.2)
        h.entries h.few j.all.0 due (behind h.entries j.seen) spelled

    begins_by : (fault : Option BookFault) →
        IsJudged wall reading.stage reading.audit fault lines kept h.entries →
        StartsSoundly wall (lines_text kept)
    begins_by None j = begins_unspoilt reading.stage h.say j
    begins_by (Some fault) j = entries_begin wall policy kept
        (front_lines kept j.more (subst AreLines j.whole are)) j.front j.few j.say due
        (behind j.front j.seen) spelled

    pub begins : StartsSoundly wall (lines_text kept)
    begins = begins_by reading.fault h.judged

  -- ---- they are no whole book

  cut_at : (front : List Entry) → AreLines kept → SayEntries wall kept front →
      book_in wall (lines_text kept) ≡ Err texts.Cut
  unfolding book_in entries_in
  cut_at front kept_are say = ap (lines_in wall) (text_is_cut kept kept_are) ∙ say.says [] []

  cut_none : kept ≡ [] → book_in wall (lines_text kept) ≡ Err texts.Cut
  unfolding book_in
  cut_none none = ap (λ (ls : List Word). lines_in wall (parts 10 (lines_text ls))) none

  cut_unspoilt : (stage : Stage) → SayAt wall stage lines h.entries →
      IsUnspoilt wall stage reading.audit lines kept h.entries →
      book_in wall (lines_text kept) ≡ Err texts.Cut
  cut_unspoilt stages.Header say j = cut_none (j.all ∙ say.0)
  cut_unspoilt stages.Entry say j = cut_at h.entries (subst AreLines (sym j.all) are)
      (subst (λ (ls : List Word). SayEntries wall ls h.entries) (sym j.all) say)
  cut_unspoilt stages.Ended say j = cut_at h.entries (ended_lines_are _ j.all.2) j.all.0

  cut_by : (fault : Option BookFault) →
      IsJudged wall reading.stage reading.audit fault lines kept h.entries →
      book_in wall (lines_text kept) ≡ Err texts.Cut
  cut_by None j = cut_unspoilt reading.stage h.say j
  cut_by (Some fault) j =
      cut_at j.front (front_lines kept j.more (subst AreLines j.whole are)) j.say

  pub kept_is_cut : book_in wall (lines_text kept) ≡ Err texts.Cut
  kept_is_cut = cut_by reading.fault h.judged

  -- ---- they are the first of the lines

  front_unspoilt : (stage : Stage) → SayAt wall stage lines h.entries →
      IsUnspoilt wall stage reading.audit lines kept h.entries →
      (more : List Word) × (lines ≡ kept ++ more)
  front_unspoilt stages.Header say j = ([], sym j.all ∙ sym (append-nil kept))
  front_unspoilt stages.Entry say j = ([], sym j.all ∙ sym (append-nil kept))
  front_unspoilt stages.Ended say j =
      (join_with_byte 32 (end_words (length h.entries)) ∷ [], j.all.2)

  front_by : (fault : Option BookFault) →
      IsJudged wall reading.stage reading.audit fault lines kept h.entries →
      (more : List Word) × (lines ≡ kept ++ more)
  front_by None j = front_unspoilt reading.stage h.say j
  front_by (Some fault) j = (j.more, j.whole)

  pub kept_first : (more : List Word) × (lines ≡ kept ++ more)
  kept_first = front_by reading.fault h.judged

  -- ---- what completes them

  module _ (none : reading.fault ≡ None) where
    unspoilt : (stage : Stage) → reading.stage ≡ stage →
        SayAt wall stage lines h.entries × IsUnspoilt wall stage reading.audit lines kept h.entries
    unspoilt stage is = (
      subst (λ s. SayAt wall s lines h.entries) is h.say,
      subst (λ s. IsUnspoilt wall s reading.audit lines kept h.entries) is
          (subst (λ f. IsJudged wall reading.stage reading.audit f lines kept h.entries) none
          h.judged),
    )

    pub completes_header : reading.stage ≡ stages.Header → (old new : List ℕ) →
        new ≡ (old ++ line_of (header_words wall.version)) ++ line_of (end_words 0) →
        Completes wall lines kept old new 0
    completes_header is old new put =
        let u = unspoilt stages.Header is in (
          line_of (header_words wall.version) ++ line_of (end_words 0),
          put ∙ append_assoc old (line_of (header_words wall.version)) (line_of (end_words 0)),
          λ text cut. subst (λ (ls : List Word). IsSealWith wall text (lines_text ls
              ++ (line_of (header_words wall.version) ++ line_of (end_words 0))) 0)
              (sym (u.1.all ∙ u.0.0)) (header_seals wall policy text (cut ∙ u.0.0)),
        )

    pub completes_entry : reading.stage ≡ stages.Entry → (due : Option Entry) →
        ((es : List Entry) → HasSeen wall reading.audit es → IsDueBehind wall es due) →
        AllByRecursion (IsSpelled wall) (option_to_list due) → (old new : List ℕ) (n : ℕ) →
        n ≡ reading.entries + length (option_to_list due) →
        new ≡ old ++ (entry_lines wall (option_to_list due) ++ line_of (end_words n)) →
        Completes wall lines kept old new n
    completes_entry is due behind spelled old new n sum put =
        let u = unspoilt stages.Entry is in (
          entry_lines wall (option_to_list due) ++ line_of (end_words n),
          put,
          λ text cut. subst (λ (ls : List Word). IsSealWith wall text (lines_text ls
              ++ (entry_lines wall (option_to_list due) ++ line_of (end_words n))) n) (sym u.1.all)
              (entries_seal wall policy lines are h.entries h.few u.0 due (behind h.entries u.1.seen)
              spelled text cut h.told n
              (sum ∙ ap (λ k. k + length (option_to_list due)) h.number)),
        )

    pub completes_ended : reading.stage ≡ stages.Ended → (old new : List ℕ) (n : ℕ) →
        n ≡ reading.entries + 0 →
        new ≡ old ++ (entry_lines wall [] ++ line_of (end_words n)) →
        Completes wall lines kept old new n
    completes_ended is old new n sum put =
        let u = unspoilt stages.Ended is in
        let all = u.1.all in
        let number = h.number in (
          entry_lines wall [] ++ line_of (end_words n),
          put,
          λ text cut. book_seals wall policy kept (ended_lines_are _ all.2) h.entries h.few all.0 all.1
              text (cut ∙ all.2)
              (ap (λ (ls : List Word). told_by wall ls) (sym all.2) ∙ h.told) n
              (omega (arith, sum, number)),
        )
