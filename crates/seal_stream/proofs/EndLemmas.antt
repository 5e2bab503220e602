-- What is said where a seal was made, and where it was not.
use Rattle.std.proofs.Common.{◌≡◌, inl, inr, ℕ, List, [], ◌++◌, Option, Result, Ok, Err}
use Rattle.std.proofs.Common.{refl, sym, ap, subst, ◌∙◌, append_assoc, append-nil}
use Rattle.std.specs.Prelude.{OnOk, IfOk, IfErr}
use Rattle.std.proofs.KnownBytes.{Consumes-nil}
use Rattle.wall_policy.specs.Policy.{ChineseWall, IsPolicy}
use Rattle.coll_text.specs.Numbers.{Word}
use Rattle.coll_text.proofs.CollTextLemmas.{Appends-none}
use Rattle.hall_script.specs.Devices.{Used, used, IsBegun, BrokeOff}
use Rattle.audit_book.specs.declared.fault.ReadFault.TheVariants as texts
use Rattle.audit_book.specs.Reading.{book_in}
use Rattle.book_seal.specs.Seals.{finished_lines, IsSealOf}
use Rattle.book_seal.specs.CutBooks.{CutBooksHaveTheirSeal, KeepsEachRun, KeepsTheRun}
use Rattle.book_seal.specs.Refusals.{StartsSoundly}
use Rattle.seal_stream.specs.declared.reading.Reading.{Reading}
use Rattle.seal_stream.specs.declared.stop.SealStop.{SealStop}
use Rattle.seal_stream.specs.declared.stop.SealStop.TheVariants.{BadLine, LongLine, BadEntry}
use Rattle.seal_stream.specs.declared.stop.SealStop.TheVariants.{TooMany, Read, Write, NoMemory}
use Rattle.seal_stream.specs.declared.writer.Writer.{Writer}
use Rattle.seal_stream.specs.Seals.{lines_text, IsSealedTo, HasKept, IsKept, IsStopped}
use Rattle.seal_stream.specs.Steps.{AreLines, HasJudged, IsFailing}
use Rattle.seal_stream.specs.Steps.{HasReadAll, HasStopped, EndsAs}
use Rattle.seal_stream.proofs.FaultLemmas.{bad_entry_stays}
use Rattle.seal_stream.proofs.SealLemmas.{kept_first, kept_is_cut, nothing_begins}
use Rattle.seal_stream.proofs.TextLemmas.{are_lines, front_lines, lines_cut}

-- ---- a seal keeps each run

abbrev OneSeal : Type 0
OneSeal = (wall : ChineseWall) (text one other : List ℕ) → IsSealOf wall text one →
    IsSealOf wall text other → one ≡ other

keeps_runs : (wall : ChineseWall) → IsPolicy wall → OneSeal → CutBooksHaveTheirSeal →
    (text whole : List ℕ) → IsSealOf wall text whole → KeepsEachRun wall text whole
keeps_runs wall policy same have text whole seal later run legal has cut =
    let one = have wall later run text policy legal has cut in
    subst (KeepsTheRun wall later run text) (same wall text one.0 whole one.1.seal seal) one.1

-- ---- what was written of lines

module _ (wall : ChineseWall) (policy : IsPolicy wall) (reading : Reading) (text : List ℕ)
    (lines kept more : List Word) (front : lines ++ more ≡ finished_lines text)
    (h : HasJudged wall reading lines kept) where
  pub lines_are : AreLines lines
  lines_are = front_lines lines more (subst AreLines (sym front) (are_lines text))

  pub has_kept : StartsSoundly wall (lines_text kept) → (wrote : List ℕ → Type 0) →
      wrote (lines_text kept) → HasKept wall text wrote
  has_kept begins wrote w =
      let f = kept_first wall policy reading lines kept lines_are h in record {
        lines = kept;
        more = f.0 ++ more;
        front = sym (append_assoc kept f.0 more)
            ∙ ap (λ (ls : List Word). ls ++ more) (sym f.1) ∙ front;
        begins = begins;
        cut = kept_is_cut wall policy reading lines kept lines_are h;
        kept = w;
      }

nothing_is_cut : (wall : ChineseWall) → book_in wall (lines_text []) ≡ Err texts.Cut
unfolding book_in
nothing_is_cut wall = refl

module _ {B W : Type 0} (wall : ChineseWall) (policy : IsPolicy wall) (book : Used B)
    (fails : W → ℕ) (contents : W → Option (List ℕ)) (old new : W) where
  abbrev sealed : Used W
  sealed = used fails contents old new

  pub nothing_stopped : IsStopped wall (used book.failures book.bytes book.old book.old)
      (used fails contents old old) NoMemory
  nothing_stopped = record {
    text = [];
    reason = (refl, Consumes-nil (book.bytes book.old));
    written = record {
      lines = [];
      more = [];
      front = sym (lines_cut [] [] [] refl);
      begins = nothing_begins wall policy;
      cut = nothing_is_cut wall;
      kept = (refl, ([], [], refl, Appends-none (contents old)));
    };
  }

  module _ (writer : Writer) (stop : SealStop)
      (s : HasStopped wall book writer (contents old) (contents new) stop)
      (begins : StartsSoundly wall (lines_text s.kept)) where
    kept_so : (wrote : List ℕ → Type 0) → wrote (lines_text s.kept) → HasKept wall s.text wrote
    kept_so wrote w = has_kept wall policy writer.reading s.text s.lines s.kept s.more s.front
        s.judged begins wrote w

  is_kept : (writer : Writer) (stop : SealStop)
      (s : HasStopped wall book writer (contents old) (contents new) stop) →
      StartsSoundly wall (lines_text s.kept) → IsFailing stop (fails old) (fails new) →
      IsKept wall s.text book sealed stop
  is_kept writer Write s begins f =
      inl (kept_so writer Write s begins (BrokeOff sealed) (f, s.written))
  is_kept writer (BadLine n) s begins f =
      kept_so writer (BadLine n) s begins (IsBegun sealed) (f, s.written)
  is_kept writer (LongLine n) s begins f =
      kept_so writer (LongLine n) s begins (IsBegun sealed) (f, s.written)
  is_kept writer (BadEntry n) s begins f =
      kept_so writer (BadEntry n) s begins (IsBegun sealed) (f, s.written)
  is_kept writer TooMany s begins f = kept_so writer TooMany s begins (IsBegun sealed) (f, s.written)
  is_kept writer Read s begins f = kept_so writer Read s begins (IsBegun sealed) (f, s.written)
  is_kept writer NoMemory s begins f =
      kept_so writer NoMemory s begins (IsBegun sealed) (f, s.written)

  pub is_stopped : (writer : Writer) (stop : SealStop)
      (s : HasStopped wall book writer (contents old) (contents new) stop) →
      StartsSoundly wall (lines_text s.kept) → IsFailing stop (fails old) (fails new) →
      IsStopped wall book sealed stop
  is_stopped writer stop s begins f = record {
    text = s.text;
    reason = s.reason;
    written = is_kept writer stop s begins f;
  }

  pub whole_are : (writer : Writer) (mid : W) →
      (r : HasReadAll wall book writer (contents old) (contents mid)) → AreLines r.lines
  whole_are writer mid r = subst AreLines (lines_cut r.text r.lines r.line r.cut) (are_lines r.text)

  -- ---- at the end of the text

  module _ (same : OneSeal) (have : CutBooksHaveTheirSeal) (writer : Writer) (mid : W)
      (r : HasReadAll wall book writer (contents old) (contents mid))
      (begins : StartsSoundly wall (lines_text r.kept)) where
    is_cut : finished_lines r.text ≡ r.lines
    is_cut = lines_cut r.text r.lines r.line r.cut

    front : r.lines ++ [] ≡ finished_lines r.text
    front = append-nil r.lines ∙ sym is_cut

    end_kept : (wrote : List ℕ → Type 0) → wrote (lines_text r.kept) → HasKept wall r.text wrote
    end_kept wrote w = has_kept wall policy writer.reading r.text r.lines r.kept [] front
        r.stands.judged begins wrote w

    pub sealed_to : (n : ℕ) → EndsAs wall r.lines r.kept (contents old) (contents new) (Ok n) →
        fails new ≡ fails old → IsSealedTo wall book sealed n
    sealed_to n e went =
        let s = e.2 r.text is_cut in record {
          text = r.text;
          gave = r.gave;
          whole = e.0;
          seal = s.0;
          keeps = keeps_runs wall policy same have r.text e.0 s.0;
          number_is = s.1;
          written = (went, e.1);
        }

    pub ends_stopped : (stop : SealStop) →
        EndsAs wall r.lines r.kept (contents old) (contents new) (Err stop) →
        IsFailing stop (fails old) (fails new) → IsStopped wall book sealed stop
    ends_stopped (BadEntry n) e f =
        let bad = e.1 r.text is_cut in record {
          text = r.text;
          reason = (r.gave, bad, bad_entry_stays wall r.text n bad);
          written = end_kept (IsBegun sealed) (f, e.0);
        }
    ends_stopped Write e f =
        let s = e.2 r.text is_cut in record {
          text = r.text;
          reason = r.so_far;
          written = inr (record {
            gave = r.gave;
            whole = e.0;
            seal = s;
            keeps = keeps_runs wall policy same have r.text e.0 s;
            kept = (f, e.1);
          });
        }
    ends_stopped NoMemory e f = record {
      text = r.text;
      reason = r.so_far;
      written = end_kept (IsBegun sealed) (f, e);
    }
    ends_stopped (BadLine n) e f = absurd e
    ends_stopped (LongLine n) e f = absurd e
    ends_stopped TooMany e f = absurd e
    ends_stopped Read e f = absurd e

    pub sealed_by : fails mid ≡ fails old → (said : Result ℕ SealStop) →
        EndsAs wall r.lines r.kept (contents old) (contents new) said →
        OnOk said (fails new ≡ fails mid) → IfOk said (IsSealedTo wall book sealed)
    sealed_by went (Ok n) e on = sealed_to n e (on ∙ went)
    sealed_by went (Err stop) e on = tt

    pub stopped_by : fails mid ≡ fails old → (said : Result ℕ SealStop) →
        EndsAs wall r.lines r.kept (contents old) (contents new) said →
        IfErr said (λ stop. IsFailing stop (fails mid) (fails new)) →
        IfErr said (IsStopped wall book sealed)
    stopped_by went (Ok n) e on = tt
    stopped_by went (Err stop) e on =
        ends_stopped stop e (subst (λ m. IsFailing stop m (fails new)) went on)
