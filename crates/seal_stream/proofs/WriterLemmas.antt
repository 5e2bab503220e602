-- How a writer goes on by one finished line.
use Rattle.std.proofs.Common.{◌≡◌, ℕ, Bool, true, false, List, [], ◌∷◌, ◌++◌, Option, refl}
use Rattle.std.proofs.Common.{sym, ap, subst, ◌∙◌, append_assoc, append-nil}
use Rattle.wall_labels.specs.Known.{AppendsPrefix}
use Rattle.wall_policy.specs.Policy.{ChineseWall}
use Rattle.coll_text.specs.Numbers.{Word}
use Rattle.coll_text.specs.Writing.{Moves}
use Rattle.coll_text.proofs.CollTextLemmas.{Appends-none, moves_break, moves_more, moves_stop}
use Rattle.coll_text.proofs.CollTextLemmas.{moves_then}
use Rattle.book_stream.specs.Cuts.{behind}
use Rattle.seal_stream.specs.declared.reading.Reading.{Reading}
use Rattle.seal_stream.specs.declared.stop.SealStop.{SealStop}
use Rattle.seal_stream.specs.declared.stop.SealStop.TheVariants.{BadLine, LongLine, BadEntry}
use Rattle.seal_stream.specs.declared.stop.SealStop.TheVariants.{TooMany, Read, Write, NoMemory}
use Rattle.seal_stream.specs.declared.writer.Writer.{Writer}
use Rattle.seal_stream.specs.Seals.{lines_text}
use Rattle.seal_stream.specs.Steps.{Holds, HasJudged, IsBadBehind, IsStopAmong, IsUnwritten}
use Rattle.seal_stream.specs.Steps.{IsFailing, IsTooLong, StandsBehind, Stops, kept_if, line_if}
use Rattle.seal_stream.proofs.TextLemmas.{texts_joined}

pub stands_none : (wall : ChineseWall) (writer : Writer) → HasJudged wall writer.reading [] [] →
    Holds writer.line [] → writer.pending.items ≡ [] → (before : Option (List ℕ)) →
    StandsBehind wall writer before before [] [] []
stands_none wall writer judged holds none before = record {
  judged = judged;
  holds = holds;
  moved = ([], Appends-none before, none);
}

-- ---- why it goes no further

pub among : (wall : ChineseWall) (lines : List Word) (line next : Word) (more : List Word)
    (stop : SealStop) → IsBadBehind wall lines line stop →
    IsStopAmong wall (lines ++ line ∷ next ∷ more) stop
among wall lines line next more (BadLine n) h = (lines, line, next, more, refl, h)
among wall lines line next more (LongLine n) h = (lines, line, next ∷ more, refl, h)
among wall lines line next more TooMany h = (lines, line, next, more, refl, h)
among wall lines line next more (BadEntry n) h = absurd h
among wall lines line next more Read h = absurd h
among wall lines line next more Write h = absurd h
among wall lines line next more NoMemory h = absurd h

-- a line is long, finished or not
pub long_among : (wall : ChineseWall) (reading : Reading) (lines kept : List Word) (line : Word)
    (more : List Word) (stop : SealStop) → IsTooLong wall reading line stop →
    HasJudged wall reading lines kept → IsStopAmong wall (lines ++ line ∷ more) stop
long_among wall reading lines kept line more (LongLine n) h judged =
    (lines, line, more, refl, h lines kept judged)
long_among wall reading lines kept line more (BadLine n) h judged = absurd h
long_among wall reading lines kept line more (BadEntry n) h judged = absurd h
long_among wall reading lines kept line more TooMany h judged = absurd h
long_among wall reading lines kept line more Read h judged = absurd h
long_among wall reading lines kept line more Write h judged = absurd h
long_among wall reading lines kept line more NoMemory h judged = absurd h

pub long_fails : (wall : ChineseWall) (reading : Reading) (line : Word) (stop : SealStop) (m n : ℕ) →
    IsTooLong wall reading line stop → n ≡ m → IsFailing stop m n
long_fails wall reading line (LongLine k) m n h same = same
long_fails wall reading line (BadLine k) m n h same = same
long_fails wall reading line (BadEntry k) m n h same = absurd h
long_fails wall reading line TooMany m n h same = same
long_fails wall reading line Read m n h same = absurd h
long_fails wall reading line Write m n h same = absurd h
long_fails wall reading line NoMemory m n h same = absurd h

unwritten_among : (wall : ChineseWall) (words : List Word) (stop : SealStop) (m n : ℕ) →
    IsUnwritten stop m n → IsStopAmong wall words stop
unwritten_among wall words Write m n h = tt
unwritten_among wall words NoMemory m n h = tt
unwritten_among wall words (BadLine k) m n h = absurd h
unwritten_among wall words (LongLine k) m n h = absurd h
unwritten_among wall words (BadEntry k) m n h = absurd h
unwritten_among wall words TooMany m n h = absurd h
unwritten_among wall words Read m n h = absurd h

pub unwritten_fails : (stop : SealStop) (m n : ℕ) → IsUnwritten stop m n → IsFailing stop m n
unwritten_fails Write m n h = h
unwritten_fails NoMemory m n h = h
unwritten_fails (BadLine k) m n h = absurd h
unwritten_fails (LongLine k) m n h = absurd h
unwritten_fails (BadEntry k) m n h = absurd h
unwritten_fails TooMany m n h = absurd h
unwritten_fails Read m n h = absurd h

-- a line that was not taken wrote nothing
pub bad_fails : (wall : ChineseWall) (lines : List Word) (line : Word) (stop : SealStop) (m n : ℕ) →
    IsBadBehind wall lines line stop → n ≡ m → IsFailing stop m n
bad_fails wall lines line (BadLine k) m n h same = same
bad_fails wall lines line (LongLine k) m n h same = same
bad_fails wall lines line TooMany m n h same = same
bad_fails wall lines line (BadEntry k) m n h same = absurd h
bad_fails wall lines line Read m n h same = absurd h
bad_fails wall lines line Write m n h same = absurd h
bad_fails wall lines line NoMemory m n h same = absurd h

-- ---- what is kept

kept_text : (is_kept : Bool) (kept : List Word) (line : Word) →
    lines_text kept ++ line_if is_kept line ≡ lines_text (kept_if is_kept kept line)
kept_text true kept line = ap (λ (t : List ℕ). lines_text kept ++ t)
    (sym (append-nil (line ++ 10 ∷ []))) ∙ sym (texts_joined kept (line ∷ []))
kept_text false kept line = append-nil (lines_text kept)

module _ (wall : ChineseWall) (old : Writer) (before was now : Option (List ℕ))
    (lines kept : List Word) (line : Word)
    (s : StandsBehind wall old before was lines kept line) where
  written : AppendsPrefix before was (lines_text kept)
  written = moves_stop before was (lines_text kept) old.pending.items [] (lines_text kept) s.moved
      (append-nil (lines_text kept))

  pub stops_here : (reading : Reading) (new : Writer) → new.reading ≡ reading →
      reading ≡ old.reading → (words : List Word) (next : Word) (more : List Word) →
      words ≡ lines ++ next ∷ more → (stop : SealStop) → IsStopAmong wall words stop →
      Stops wall new before was words stop
  stops_here reading new now same words next more front stop why = record {
    lines = lines;
    kept = kept;
    next = next;
    more = more;
    front = front;
    judged = subst (λ r. HasJudged wall r lines kept) (sym (now ∙ same)) s.judged;
    written = written;
    why = why;
  }

  -- these bytes are the line
  module _ (is_kept : Bool) (new : Writer) (bytes : Word) (same : bytes ≡ line)
      (took : HasJudged wall new.reading (lines ++ bytes ∷ []) (kept_if is_kept kept bytes)) where
    judged : HasJudged wall new.reading (lines ++ line ∷ []) (kept_if is_kept kept line)
    judged = subst (λ (l : Word). HasJudged wall new.reading (lines ++ l ∷ [])
        (kept_if is_kept kept l)) same took

    abbrev put_of : Word → List ℕ
    put_of l = old.pending.items ++ line_if is_kept l

    abbrev put : List ℕ
    put = put_of line

    moved : Moves before was (lines_text (kept_if is_kept kept line)) put
    moved = subst (λ (t : List ℕ). Moves before was t put) (kept_text is_kept kept line)
        (moves_more before was (lines_text kept) old.pending.items put (line_if is_kept line) s.moved
        refl)

    stopped : AppendsPrefix before now (lines_text (kept_if is_kept kept line)) → (next : Word)
        (more : List Word) (stop : SealStop) →
        IsStopAmong wall (lines ++ line ∷ next ∷ more) stop →
        Stops wall new before now (lines ++ line ∷ next ∷ more) stop
    stopped prefix next more stop why = record {
      lines = lines ++ line ∷ [];
      kept = kept_if is_kept kept line;
      next = next;
      more = more;
      front = sym (append_assoc lines (line ∷ []) (next ∷ more));
      judged = judged;
      written = prefix;
      why = why;
    }

    -- a prefix of the line was written
    pub stops_behind : (next : Word) (more : List Word) (stop : SealStop) (m n : ℕ) →
        IsUnwritten stop m n → AppendsPrefix was now (put_of bytes) →
        Stops wall new before now (lines ++ line ∷ next ∷ more) stop
    stops_behind next more stop m n why prefix = stopped
        (moves_break before was now (lines_text (kept_if is_kept kept line)) put []
        (lines_text (kept_if is_kept kept line)) moved
        (subst (λ (l : Word). AppendsPrefix was now (put_of l)) same prefix)
        (append-nil (lines_text (kept_if is_kept kept line)))) next more stop
        (unwritten_among wall (lines ++ line ∷ next ∷ more) stop m n why)

    -- it was put, and the next is not begun
    pub stops_full : (pending : List ℕ) → Moves was now (put_of bytes) pending → (next : Word)
        (more : List Word) → Stops wall new before now (lines ++ line ∷ next ∷ more) NoMemory
    stops_full pending m next more = stopped
        (moves_stop before now (lines_text (kept_if is_kept kept line)) pending []
        (lines_text (kept_if is_kept kept line))
        (moves_then before was now (lines_text (kept_if is_kept kept line)) put pending moved
        (subst (λ (l : Word). Moves was now (put_of l) pending) same m))
        (append-nil (lines_text (kept_if is_kept kept line)))) next more NoMemory tt

    pub stands_on : (next : Word) → Holds new.line next → Moves was now (put_of bytes) new.pending.items →
        StandsBehind wall new before now (lines ++ line ∷ []) (kept_if is_kept kept line) next
    stands_on next holds m = record {
      judged = judged;
      holds = holds;
      moved = moves_then before was now (lines_text (kept_if is_kept kept line)) put
          new.pending.items moved
          (subst (λ (l : Word). Moves was now (put_of l) new.pending.items) same m);
    }

-- a line goes on
pub stands_in : (wall : ChineseWall) (old new : Writer) (before now : Option (List ℕ))
    (lines kept : List Word) (line next : Word) → StandsBehind wall old before now lines kept line →
    new.reading ≡ old.reading → new.pending ≡ old.pending → Holds new.line next →
    StandsBehind wall new before now (lines ++ []) kept next
stands_in wall old new before now lines kept line next s reading pending holds = record {
  judged = subst (λ (ls : List Word). HasJudged wall new.reading ls kept) (sym (append-nil lines))
      (subst (λ r. HasJudged wall r lines kept) (sym reading) s.judged);
  holds = holds;
  moved = subst (λ p. Moves before now (lines_text kept) p) (ap (λ p. p.items) (sym pending)) s.moved;
}

-- the words behind a line are some
pub some_behind : (line : Word) (later : List Word) →
    (next : Word) × (more : List Word) × (behind line later ≡ next ∷ more)
some_behind line [] = (line, [], refl)
some_behind line (part ∷ later) = (line ++ part, later, refl)
