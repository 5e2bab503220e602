-- What is said of a text that came in pieces.
use Rattle.std.proofs.Common.{◌≡◌, ◌≢◌, ℕ, zero, suc, ◌+◌, ◌<◌, ◌≤◌, ◌==◌, true, false, cond, List, [], ◌∷◌, ◌++◌}
use Rattle.std.proofs.Common.{length, take, Option, Some, None, Result, Ok, Err, refl, sym, ap}
use Rattle.std.proofs.Common.{subst, ◌∙◌, append_assoc, arith, inl, inr}
use Rattle.std.proofs.lemmas.List.{append-nil, length-append}
use Rattle.wall_policy.specs.Policy.{ChineseWall}
use Rattle.run_model.specs.declared.entry.Entry.{Entry}
use Rattle.run_model.specs.Books.{IsSound}
use Rattle.coll_text.specs.Numbers.{Word}
use Rattle.coll_text.specs.Reading.{parts}
use Rattle.std.specs.Borrow.{Bor}
use Rattle.audit_book.specs.declared.audit.Audit.{Audit}
use Rattle.audit_book.specs.declared.fault.ReadFault.{ReadFault}
use Rattle.audit_book.specs.declared.fault.ReadFault.TheVariants as faults
use Rattle.audit_book.specs.Reading.{with_prefix, entries_in, lines_in, book_in}
use Rattle.book_stream.specs.declared.fault.AuditFault.{AuditFault}
use Rattle.book_stream.specs.declared.fault.AuditFault.TheVariants.{BadLine, LongLine, Cut}
use Rattle.book_stream.specs.declared.fault.AuditFault.TheVariants.{BadEntry, TooMany, Read}
use Rattle.book_stream.specs.declared.fault.AuditFault.TheVariants.{NoMemory}
use Rattle.book_stream.specs.declared.stream.Reader.{Reader}
use Rattle.book_stream.specs.Cuts.{behind}
use Rattle.book_stream.specs.declared.reading.Stage.{Stage}
use Rattle.book_stream.specs.declared.reading.Stage.TheVariants as stages
use Rattle.book_stream.specs.Readings.{SayEntries, SayBook, SayAt, IsBadBehind}
use Rattle.book_stream.specs.Audits.{IsFaultAmong, Says, StandsBehind, IsClear, IsVerdict}
use Rattle.book_stream.specs.Audits.{HasLongLine}
use Rattle.book_stream.specs.Audits.{EndsSo, HasMoreBehind, Gave, GaveAll, AuditsTo}
use Rattle.book_stream.proofs.CutLemmas.{parts_behind}
use Rattle.book_stream.proofs.StayLemmas.{bad_stays}
use Rattle.hall_script.specs.Devices.{Used, used}
use Rattle.std.specs.Io.KnownBytes.{Consumes, IsAtEnd, Keeps}
use Rattle.std.proofs.KnownBytes.{Consumes-nil, Consumes-trans, Consumes-kept}
use Rattle.wall_labels.specs.Known.{AreLeft}

-- ---- a fault of a finished line is one of the text

pub among : (wall : ChineseWall) (lines : List Word) (line next : Word) (more : List Word)
    (fault : AuditFault) → IsBadBehind wall lines line fault →
    IsFaultAmong wall (lines ++ line ∷ next ∷ more) fault
among wall lines line next more (BadLine n) h = h next more
among wall lines line next more (LongLine n) h = (lines, line, next, more, refl, h)
among wall lines line next more TooMany h = (lines, line, next ∷ more, refl, h)
among wall lines line next more Cut h = absurd h
among wall lines line next more (BadEntry n) h = absurd h
among wall lines line next more Read h = absurd h
among wall lines line next more NoMemory h = tt

-- ---- a text whose parts are these has the fault

pub said_by_parts : (wall : ChineseWall) (text : List ℕ) (words : List Word) (fault : AuditFault) →
    parts 10 text ≡ words → IsFaultAmong wall words fault → Says wall text (Err fault)
unfolding book_in
said_by_parts wall text words (BadLine n) cut h = ap (lines_in wall) cut ∙ h
said_by_parts wall text words (LongLine n) cut h =
    (h.0, h.1, h.2 ∷ h.3, cut ∙ h.4, h.5)
said_by_parts wall text words TooMany cut h = inl (h.0, h.1, h.2, cut ∙ h.3, h.4)
said_by_parts wall text words NoMemory cut h = tt
said_by_parts wall text words Cut cut h = absurd h
said_by_parts wall text words (BadEntry n) cut h = absurd h
said_by_parts wall text words Read cut h = absurd h

-- ---- the end of the text

module _ (wall : ChineseWall) (text : List ℕ) (lines : List Word) (line : Word)
    (cut : parts 10 text ≡ lines ++ line ∷ []) where
  pub no_header : lines ≡ [] → book_in wall text ≡ Err faults.Cut
  unfolding book_in
  no_header none = ap (lines_in wall) cut ∙ ap (λ l. lines_in wall (l ++ line ∷ [])) none

  pub no_end : (es : List Entry) → SayEntries wall lines es → book_in wall text ≡ Err faults.Cut
  unfolding book_in entries_in
  no_end es say = ap (lines_in wall) cut ∙ say.says line []

  pub has_more : (es : List Entry) → SayBook wall lines es → (length line == 0) ≡ false →
      book_in wall text ≡ Err (faults.BadLine (length es + 3))
  unfolding book_in
  has_more es say some = ap (lines_in wall) cut ∙ say line []
      ∙ ap (λ b. with_prefix es (cond b (Ok []) (Err (faults.BadLine (length es + 3))))) some

  pub has_ended : (es : List Entry) → SayBook wall lines es → (length line == 0) ≡ true →
      book_in wall text ≡ Ok es
  unfolding book_in
  has_ended es say none = ap (lines_in wall) cut ∙ say line []
      ∙ ap (λ b. with_prefix es (cond b (Ok []) (Err (faults.BadLine (length es + 3))))) none
      ∙ ap Ok (append-nil es)

cut_is_none : (n : ℕ) → (let said : Result (List Entry) ReadFault = Err faults.Cut in said)
    ≡ Err (faults.BadLine n) → ⊥
cut_is_none n h = cc

book_is_none : (es : List Entry) (n : ℕ) →
    (let said : Result (List Entry) ReadFault = Ok es in said) ≡ Err (faults.BadLine n) → ⊥
book_is_none es n h = cc

-- ---- a reader at the end of the text

module _ (wall : ChineseWall) (reader : Reader) (text : List ℕ) (lines : List Word) (line : Word)
    (s : StandsBehind wall reader lines line) (cut : parts 10 text ≡ lines ++ line ∷ []) where
  at_stage : (stage : Stage) → reader.reading.stage ≡ stage → SayAt wall stage lines s.read.entries
  at_stage stage is = subst (λ t. SayAt wall t lines s.read.entries) is s.read.say

  pub header_cut : reader.reading.stage ≡ stages.Header → book_in wall text ≡ Err faults.Cut
  header_cut is = no_header wall text lines line cut (at_stage stages.Header is).0

  pub entry_cut : reader.reading.stage ≡ stages.Entry → book_in wall text ≡ Err faults.Cut
  entry_cut is = no_end wall text lines line cut s.read.entries (at_stage stages.Entry is)

  pub ended_more : reader.reading.stage ≡ stages.Ended → (length line == 0) ≡ false →
      book_in wall text ≡ Err (faults.BadLine (reader.reading.entries + 3))
  ended_more is some =
      has_more wall text lines line cut s.read.entries (at_stage stages.Ended is) some
      ∙ ap (λ k. Err (faults.BadLine (k + 3))) (sym s.read.number)

  pub long_at_header : reader.reading.stage ≡ stages.Header → reader.line.is_long ≡ true →
      HasLongLine wall text 1
  long_at_header is long =
      let none = (at_stage stages.Header is).0 in (
        lines,
        line,
        [],
        cut,
        record {
          before = inl none;
          long = s.holds.long long;
          place = sym (ap (λ (l : List Word). length l + 1) none);
        },
      )

  pub long_at_entry : reader.reading.stage ≡ stages.Entry → reader.line.is_long ≡ true →
      HasLongLine wall text (reader.reading.entries + 2)
  long_at_entry is long =
      let say = at_stage stages.Entry is in (
        lines,
        line,
        [],
        cut,
        record {
          before = inr (s.read.entries, say);
          long = s.holds.long long;
          place = let n = say.number in let m = s.read.number in omega (arith, n, m);
        },
      )

  ended_book : reader.reading.stage ≡ stages.Ended → IsClear reader line →
      book_in wall text ≡ Ok s.read.entries
  ended_book is clear =
      has_ended wall text lines line cut s.read.entries (at_stage stages.Ended is) (clear is)

  no_bad_at : (stage : Stage) → reader.reading.stage ≡ stage → IsClear reader line → (n : ℕ) →
      book_in wall text ≢ Err (faults.BadLine n)
  no_bad_at stages.Header is clear n h = cut_is_none n (sym (header_cut is) ∙ h)
  no_bad_at stages.Entry is clear n h = cut_is_none n (sym (entry_cut is) ∙ h)
  no_bad_at stages.Ended is clear n h =
      book_is_none s.read.entries n (sym (ended_book is clear) ∙ h)

  pub not_bad : IsClear reader line → (n : ℕ) → book_in wall text ≢ Err (faults.BadLine n)
  not_bad clear n = no_bad_at reader.reading.stage refl clear n

  pub ended_says : reader.reading.stage ≡ stages.Ended → IsClear reader line →
      (said : Result (Bor Audit) AuditFault) → IsVerdict wall s.read.entries said →
      EndsSo wall text said
  ended_says is clear (Ok audit) v = (s.read.entries, ended_book is clear, v)
  ended_says is clear (Err (BadEntry n)) v = (s.read.entries, ended_book is clear, v)
  ended_says is clear (Err NoMemory) v = (s.read.entries, ended_book is clear, v)
  ended_says is clear (Err (BadLine n)) v = absurd v
  ended_says is clear (Err (LongLine n)) v = absurd v
  ended_says is clear (Err Cut) v = absurd v
  ended_says is clear (Err TooMany) v = absurd v
  ended_says is clear (Err Read) v = absurd v

-- ---- what is said of the source

module _ {D : Type 0} (wall : ChineseWall) (d : Used D) (text : List ℕ) where
  pub ends_sound : GaveAll d text → (es : List Entry) → book_in wall text ≡ Ok es →
      IsSound wall es → (n : ℕ) → n ≡ length es → AuditsTo wall d (Ok n)
  ends_sound gave es says sound n number = (text, gave, (es, says, sound, number))

  pub ends_badly : GaveAll d text → (fault : AuditFault) → EndsSo wall text (Err fault) →
      AuditsTo wall d (Err fault)
  ends_badly gave Cut h = (text, gave, h)
  ends_badly gave (BadEntry n) h = (text, gave, (h.0, h.1, h.2))
  ends_badly gave NoMemory h = gave.0
  ends_badly gave (BadLine n) h = absurd h.2
  ends_badly gave (LongLine n) h = absurd h.2
  ends_badly gave TooMany h = absurd h.2
  ends_badly gave Read h = absurd h.2

  pub breaks : Gave d text → (words : List Word) → parts 10 text ≡ words → (fault : AuditFault) →
      IsFaultAmong wall words fault → AuditsTo wall d (Err fault)
  breaks gave words cut (BadLine n) h = (
    text,
    gave,
    λ rest. bad_stays wall text rest n (said_by_parts wall text words (BadLine n) cut h),
  )
  breaks gave words cut (LongLine n) h =
      (text, gave, said_by_parts wall text words (LongLine n) cut h)
  breaks gave words cut TooMany h = (text, gave, said_by_parts wall text words TooMany cut h)
  breaks gave words cut NoMemory h = gave.0
  breaks gave words cut Cut h = absurd h
  breaks gave words cut (BadEntry n) h = absurd h
  breaks gave words cut Read h = absurd h

  pub more_stops : Gave d text → (fault : AuditFault) → HasMoreBehind wall text fault →
      AuditsTo wall d (Err fault)
  more_stops gave (BadLine n) h = (text, gave, λ rest. bad_stays wall text rest n h)
  more_stops gave (LongLine n) h = (text, gave, h)
  more_stops gave TooMany h = absurd h
  more_stops gave NoMemory h = absurd h
  more_stops gave Cut h = absurd h
  more_stops gave (BadEntry n) h = absurd h
  more_stops gave Read h = absurd h

all_left : (first last : Option (List ℕ)) (text : List ℕ) → Consumes first last text →
    IsAtEnd last → AreLeft first text
all_left None last text h end = tt
all_left (Some xs) None text h end = absurd h
all_left (Some xs) (Some ys) text h end = h ∙ ap (λ l. text ++ l) end ∙ append-nil text

module _ {S : Type 0} (fails : S → ℕ) (left : S → Option (List ℕ)) (wall : ChineseWall) where
  -- the source gave a text in so many reads, which was taken along, and the reader stands in it
  pub record Going (first last : S) (reader : Reader) (takes : List ℕ → Type 0) (reads : ℕ)
      : Type 0 where
    pub text : List ℕ
    pub lines : List Word
    pub line : Word
    pub cut : parts 10 text ≡ lines ++ line ∷ []
    pub stands : StandsBehind wall reader lines line
    pub clear : IsClear reader line
    pub gave : Consumes (left first) (left last) text
    pub went : fails last ≡ fails first
    pub few : reads ≤ length text
    pub taken : takes text

  pub going_none : (source : S) (reader : Reader) (takes : List ℕ → Type 0) → takes [] →
      StandsBehind wall reader [] [] → Going source source reader takes 0
  going_none source reader takes taken stands = record {
    text = [];
    lines = [];
    line = [];
    cut = refl;
    stands = stands;
    clear = λ _. refl;
    gave = Consumes-nil (left source);
    went = refl;
    few = omega arith;
    taken = taken;
  }

  module _ (first mid last : S) (old : Reader) (takes : List ℕ → Type 0) (reads : ℕ)
      (g : Going first mid old takes reads) where
    -- it came to its end
    pub given_all : (chunk : List ℕ) → chunk ≡ [] → fails last ≡ fails mid →
        Consumes (left mid) (left last) chunk → IsAtEnd (left last) →
        GaveAll (used fails left first last) g.text
    given_all chunk none went read end = (
      went ∙ g.went,
      all_left (left first) (left last) g.text
          (subst (λ l. Consumes (left first) (left last) l)
          (ap (λ l. g.text ++ l) none ∙ append-nil g.text)
          (Consumes-trans (left first) (left mid) (left last) g.text chunk g.gave read)) end,
    )

    pub failed : fails last ≡ fails mid + 1 → Keeps (left mid) (left last) →
        AuditsTo wall (used fails left first last) (Err Read)
    failed once kept = (
      g.text,
      (
        once ∙ ap (λ n. n + 1) g.went,
        Consumes-kept (left first) (left mid) (left last) g.text g.gave kept,
        not_bad wall old g.text g.lines g.line g.stands g.cut g.clear,
      ),
    )

    module _ (chunk : List ℕ) (went : fails last ≡ fails mid)
        (read : Consumes (left mid) (left last) chunk) where
      pub gave_more : Gave (used fails left first last) (g.text ++ chunk)
      gave_more = (
        went ∙ g.went,
        Consumes-trans (left first) (left mid) (left last) g.text chunk g.gave read,
      )

      cut_more : parts 10 (g.text ++ chunk) ≡ g.lines ++ behind g.line (parts 10 chunk)
      cut_more = parts_behind g.text chunk g.lines g.line g.cut

      pub breaks_off : (fault : AuditFault) →
          IsFaultAmong wall (g.lines ++ behind g.line (parts 10 chunk)) fault →
          AuditsTo wall (used fails left first last) (Err fault)
      breaks_off fault h = breaks wall (used fails left first last) (g.text ++ chunk) gave_more
          (g.lines ++ behind g.line (parts 10 chunk)) cut_more fault h

      module _ (more : List Word) (line : Word)
          (split : behind g.line (parts 10 chunk) ≡ more ++ line ∷ []) where
        pub cut_on : parts 10 (g.text ++ chunk) ≡ (g.lines ++ more) ++ line ∷ []
        cut_on = cut_more ∙ ap (λ l. g.lines ++ l) split
            ∙ sym (append_assoc g.lines more (line ∷ []))

        pub going_on : (new : Reader) → StandsBehind wall new (g.lines ++ more) line →
            IsClear new line → 0 < length chunk → (now : List ℕ → Type 0) → now (g.text ++ chunk) →
            Going first last new now (reads + 1)
        going_on new stands clear some now taken = record {
          text = g.text ++ chunk;
          lines = g.lines ++ more;
          line = line;
          cut = cut_on;
          stands = stands;
          clear = clear;
          gave = gave_more.1;
          went = gave_more.0;
          few =
              let long = length-append g.text chunk in
              let was = g.few in
              omega (arith, long, was, some);
          taken = taken;
        }

    -- it did not come to its end in so many reads
    pub goes_on_still : 18446744073709551615 ≤ reads →
        AuditsTo wall (used fails left first mid) (Err TooMany)
    goes_on_still many = (
      g.text,
      (g.went, g.gave),
      inr (let few = g.few in omega (arith, few, many)),
    )

pub took_none : (n : ℕ) (buffer : List ℕ) → n ≡ 0 → take n buffer ≡ []
took_none n [] none = ap (λ k. take k []) none
took_none n (x ∷ buffer) none = ap (λ k. take k (x ∷ buffer)) none

pub took_some : (n : ℕ) (buffer : List ℕ) → n ≤ length buffer → (n ≡ 0 → ⊥) →
    0 < length (take n buffer)
took_some zero buffer within some = absurd (some refl)
took_some (suc n) [] within some = absurd (omega (arith, within))
took_some (suc n) (x ∷ buffer) within some = omega arith
