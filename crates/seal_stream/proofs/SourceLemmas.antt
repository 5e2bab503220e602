-- What is said of a source that is read in pieces, and of the seal that is written of it.
use Rattle.std.proofs.Common.{◌≡◌, ℕ, zero, suc, ◌+◌, ◌<◌, ◌≤◌, List, [], ◌∷◌, ◌++◌, length, take}
use Rattle.std.proofs.Common.{Option, Some, None, refl, sym, ap, subst, ◌∙◌}
use Rattle.std.proofs.Common.{append_assoc, append-nil, arith, inl, inr}
use Rattle.std.proofs.lemmas.List.{length-append}
use Rattle.std.specs.Io.KnownBytes.{Consumes, IsAtEnd, Keeps}
use Rattle.std.proofs.KnownBytes.{Consumes-nil, Consumes-trans, Consumes-kept}
use Rattle.wall_labels.specs.Known.{AppendsPrefix, AreLeft}
use Rattle.wall_policy.specs.Policy.{ChineseWall}
use Rattle.coll_text.specs.Numbers.{Word}
use Rattle.coll_text.specs.Reading.{parts}
use Rattle.hall_script.specs.Devices.{Used, used}
use Rattle.book_seal.specs.Seals.{all_but_last, finished_lines}
use Rattle.book_stream.specs.Audits.{Gave}
use Rattle.book_stream.specs.Cuts.{behind}
use Rattle.book_stream.proofs.CutLemmas.{parts_behind}
use Rattle.seal_stream.specs.declared.stop.SealStop.{SealStop}
use Rattle.seal_stream.specs.declared.stop.SealStop.TheVariants.{BadLine, LongLine, BadEntry}
use Rattle.seal_stream.specs.declared.stop.SealStop.TheVariants.{TooMany, Read, Write, NoMemory}
use Rattle.seal_stream.specs.declared.writer.Writer.{Writer}
use Rattle.seal_stream.specs.Seals.{lines_text, IsReasonIn}
use Rattle.seal_stream.specs.Steps.{StandsBehind, IsStopAmong, Stops, HasReadAll, HasStopped}
use Rattle.seal_stream.proofs.FaultLemmas.{bad_line, long_line, no_bad_line}
use Rattle.seal_stream.proofs.TextLemmas.{lines_cut, lines_before}
use Rattle.coll_text.proofs.CollTextLemmas.{moves_stop}

-- ---- why a seal stops in a text

reason_in : {D : Type 0} (wall : ChineseWall) (text : List ℕ) (d : Used D) (words : List Word)
    (stop : SealStop) → Gave d text → parts 10 text ≡ words → IsStopAmong wall words stop →
    IsReasonIn wall text d stop
reason_in wall text d words (BadLine n) gave cut h =
    (gave, bad_line wall text h.0 h.1 h.2 h.3 n (cut ∙ h.4) h.5)
reason_in wall text d words (LongLine n) gave cut h =
    (gave, long_line wall text h.0 h.1 h.2 n (cut ∙ h.3) h.4)
reason_in wall text d words TooMany gave cut h =
    (gave, inl (h.0, h.1, h.2 ∷ h.3, cut ∙ h.4, h.5))
reason_in wall text d words (BadEntry n) gave cut h = absurd h.5
reason_in wall text d words Read gave cut h = absurd h.5
reason_in wall text d words Write gave cut h = gave
reason_in wall text d words NoMemory gave cut h = gave

pub stopped_in : {D : Type 0} (wall : ChineseWall) (text : List ℕ) (d : Used D) (words : List Word)
    (writer : Writer) (before now : Option (List ℕ)) (stop : SealStop) → Gave d text →
    parts 10 text ≡ words → Stops wall writer before now words stop →
    HasStopped wall d writer before now stop
stopped_in wall text d words writer before now stop gave cut s = record {
  text = text;
  lines = s.lines;
  kept = s.kept;
  more = all_but_last (s.next ∷ s.more);
  front = sym (lines_before text s.lines s.next s.more (cut ∙ s.front));
  judged = s.judged;
  written = s.written;
  reason = reason_in wall text d words stop gave cut s.why;
}

-- ---- a source that is read

all_left : (first last : Option (List ℕ)) (text : List ℕ) → Consumes first last text →
    IsAtEnd last → AreLeft first text
all_left None last text h end = tt
all_left (Some xs) None text h end = absurd h
all_left (Some xs) (Some ys) text h end = h ∙ ap (λ l. text ++ l) end ∙ append-nil text

module _ {S : Type 0} (fails : S → ℕ) (left : S → Option (List ℕ)) (wall : ChineseWall) where
  -- the source gave a text in so many reads, and the writer stands in it
  pub record Going (first last : S) (writer : Writer) (before now : Option (List ℕ)) (reads : ℕ)
      : Type 0 where
    pub text : List ℕ
    pub lines : List Word
    pub kept : List Word
    pub line : Word
    pub cut : parts 10 text ≡ lines ++ line ∷ []
    pub stands : StandsBehind wall writer before now lines kept line
    pub gave : Consumes (left first) (left last) text
    pub went : fails last ≡ fails first
    pub few : reads ≤ length text

  pub going_none : (source : S) (writer : Writer) (before : Option (List ℕ)) →
      StandsBehind wall writer before before [] [] [] → Going source source writer before before 0
  going_none source writer before stands = record {
    text = [];
    lines = [];
    kept = [];
    line = [];
    cut = refl;
    stands = stands;
    gave = Consumes-nil (left source);
    went = refl;
    few = omega arith;
  }

  module _ (first mid last : S) (old : Writer) (before was now : Option (List ℕ)) (reads : ℕ)
      (g : Going first mid old before was reads) where
    -- it came to its end
    pub given_all : (chunk : List ℕ) → chunk ≡ [] → fails last ≡ fails mid →
        Consumes (left mid) (left last) chunk → IsAtEnd (left last) →
        HasReadAll wall (used fails left first last) old before was
    given_all chunk none went read end = record {
      text = g.text;
      lines = g.lines;
      kept = g.kept;
      line = g.line;
      gave = (
        went ∙ g.went,
        all_left (left first) (left last) g.text
            (subst (λ l. Consumes (left first) (left last) l)
            (ap (λ l. g.text ++ l) none ∙ append-nil g.text)
            (Consumes-trans (left first) (left mid) (left last) g.text chunk g.gave read)) end,
      );
      so_far = (
        went ∙ g.went,
        subst (λ l. Consumes (left first) (left last) l)
            (ap (λ l. g.text ++ l) none ∙ append-nil g.text)
            (Consumes-trans (left first) (left mid) (left last) g.text chunk g.gave read),
      );
      cut = g.cut;
      stands = g.stands;
    }

    written : AppendsPrefix before was (lines_text g.kept)
    written = moves_stop before was (lines_text g.kept) old.pending.items [] (lines_text g.kept)
        g.stands.moved (append-nil (lines_text g.kept))

    is_cut : finished_lines g.text ≡ g.lines
    is_cut = lines_cut g.text g.lines g.line g.cut

    pub failed : fails last ≡ fails mid + 1 → Keeps (left mid) (left last) →
        HasStopped wall (used fails left first last) old before was Read
    failed once kept = record {
      text = g.text;
      lines = g.lines;
      kept = g.kept;
      more = [];
      front = append-nil g.lines ∙ sym is_cut;
      judged = g.stands.judged;
      written = written;
      reason = (
        once ∙ ap (λ n. n + 1) g.went,
        Consumes-kept (left first) (left mid) (left last) g.text g.gave kept,
        no_bad_line wall old.reading g.lines g.kept g.stands.judged g.text is_cut,
      );
    }

    module _ (chunk : List ℕ) (went : fails last ≡ fails mid)
        (read : Consumes (left mid) (left last) chunk) where
      gave_more : Gave (used fails left first last) (g.text ++ chunk)
      gave_more = (
        went ∙ g.went,
        Consumes-trans (left first) (left mid) (left last) g.text chunk g.gave read,
      )

      cut_more : parts 10 (g.text ++ chunk) ≡ g.lines ++ behind g.line (parts 10 chunk)
      cut_more = parts_behind g.text chunk g.lines g.line g.cut

      pub breaks_off : (new : Writer) (stop : SealStop) →
          Stops wall new before now (g.lines ++ behind g.line (parts 10 chunk)) stop →
          HasStopped wall (used fails left first last) new before now stop
      breaks_off new stop s = stopped_in wall (g.text ++ chunk) (used fails left first last)
          (g.lines ++ behind g.line (parts 10 chunk)) new before now stop gave_more cut_more s

      pub going_on : (done kept : List Word) (line : Word) →
          behind g.line (parts 10 chunk) ≡ done ++ line ∷ [] → (new : Writer) →
          StandsBehind wall new before now (g.lines ++ done) kept line → 0 < length chunk →
          Going first last new before now (reads + 1)
      going_on done kept line split new stands some = record {
        text = g.text ++ chunk;
        lines = g.lines ++ done;
        kept = kept;
        line = line;
        cut = cut_more ∙ ap (λ (l : List Word). g.lines ++ l) split
            ∙ sym (append_assoc g.lines done (line ∷ []));
        stands = stands;
        gave = gave_more.1;
        went = gave_more.0;
        few =
            let long = length-append g.text chunk in
            let was = g.few in
            omega (arith, long, was, some);
      }

    -- it goes no further in what it gave
    pub stops_still : (stop : SealStop) →
        Stops wall old before was (g.lines ++ g.line ∷ []) stop →
        HasStopped wall (used fails left first mid) old before was stop
    stops_still stop s = stopped_in wall g.text (used fails left first mid)
        (g.lines ++ g.line ∷ []) old before was stop (g.went, g.gave) g.cut s

    -- it did not come to its end in so many reads
    pub goes_on_still : 18446744073709551615 ≤ reads →
        HasStopped wall (used fails left first mid) old before was TooMany
    goes_on_still many = record {
      text = g.text;
      lines = g.lines;
      kept = g.kept;
      more = [];
      front = append-nil g.lines ∙ sym is_cut;
      judged = g.stands.judged;
      written = written;
      reason = ((g.went, g.gave), inr (let few = g.few in omega (arith, few, many)));
    }

pub took_none : (n : ℕ) (buffer : List ℕ) → n ≡ 0 → take n buffer ≡ []
took_none n [] none = ap (λ k. take k []) none
took_none n (x ∷ buffer) none = ap (λ k. take k (x ∷ buffer)) none

pub took_some : (n : ℕ) (buffer : List ℕ) → n ≤ length buffer → (n ≡ 0 → ⊥) →
    0 < length (take n buffer)
took_some zero buffer within some = absurd (some refl)
took_some (suc n) [] within some = absurd (omega (arith, within))
took_some (suc n) (x ∷ buffer) within some = omega arith
