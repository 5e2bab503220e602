-- The finished lines of texts, also of those that go on.
use Rattle.std.proofs.Common.{◌≡◌, ℕ, List, [], ◌∷◌, ◌++◌, refl, sym, ap, ◌∙◌}
use Rattle.std.proofs.Common.{append_assoc, append-nil}
use Rattle.std.proofs.lemmas.Grind.{flat_map-append}
use Rattle.coll_text.specs.Numbers.{Word}
use Rattle.coll_text.specs.Reading.{parts}
use Rattle.audit_book.proofs.AuditBookLemmas.{parts_more, some_parts}
use Rattle.book_seal.specs.Seals.{all_but_last, finished_lines, finished}
use Rattle.book_seal.proofs.FinishedLemmas.{but_last, finished_is, finished_are_lines}
use Rattle.book_stream.specs.Cuts.{behind}
use Rattle.book_stream.proofs.CutLemmas.{parts_behind}
use Rattle.seal_stream.specs.Seals.{lines_text}
use Rattle.seal_stream.specs.Steps.{AreLines}

pub lines_cut : (text : List ℕ) (lines : List Word) (line : Word) →
    parts 10 text ≡ lines ++ line ∷ [] → finished_lines text ≡ lines
unfolding finished_lines
lines_cut text lines line cut = ap all_but_last cut ∙ but_last lines line

pub lines_before : (text : List ℕ) (lines : List Word) (next : Word) (more : List Word) →
    parts 10 text ≡ lines ++ next ∷ more → finished_lines text ≡ lines ++ all_but_last (next ∷ more)
unfolding finished_lines
lines_before text lines next more cut = ap all_but_last cut ∙ but_more lines next more
  where
    but_more : (ls : List Word) (l : Word) (ms : List Word) →
        all_but_last (ls ++ l ∷ ms) ≡ ls ++ all_but_last (l ∷ ms)
    but_more [] l ms = refl
    but_more (k ∷ []) l ms = refl
    but_more (k ∷ j ∷ ls) l ms = ap (λ (t : List Word). k ∷ t) (but_more (j ∷ ls) l ms)

-- some words end with one
pub record Ends (words : List Word) : Type 0 where
  pub front : List Word
  pub last : Word
  pub whole : words ≡ front ++ last ∷ []

pub ends : (word : Word) (words : List Word) → Ends (word ∷ words)
ends word [] = record { front = []; last = word; whole = refl }
ends word (next ∷ words) =
    let e = ends next words in record {
      front = word ∷ e.front;
      last = e.last;
      whole = ap (λ (t : List Word). word ∷ t) e.whole;
    }

behind_ends : (line : Word) (later : List Word) → Ends (behind line later)
behind_ends line [] = ends line []
behind_ends line (part ∷ later) = ends (line ++ part) later

pub text_ends : (text : List ℕ) → Ends (parts 10 text)
text_ends text =
    let some = some_parts text in
    let e = ends some.0 some.1 in record {
      front = e.front;
      last = e.last;
      whole = some.2 ∙ e.whole;
    }

-- ---- a text that goes on

-- its finished lines go on
pub record GoesOn (text rest : List ℕ) (lines : List Word) : Type 0 where
  pub more : List Word
  pub whole : finished_lines (text ++ rest) ≡ lines ++ more

pub goes_on : (text rest : List ℕ) (lines : List Word) (line : Word) →
    parts 10 text ≡ lines ++ line ∷ [] → GoesOn text rest lines
goes_on text rest lines line cut =
    let b = behind_ends line (parts 10 rest) in record {
      more = b.front;
      whole = lines_cut (text ++ rest) (lines ++ b.front) b.last
          (parts_behind text rest lines line cut ∙ ap (λ (t : List Word). lines ++ t) b.whole
          ∙ sym (append_assoc lines b.front (b.last ∷ [])));
    }

pub finished_goes_on : (text rest : List ℕ) → GoesOn text rest (finished_lines text)
finished_goes_on text rest =
    let e = text_ends text in
    let g = goes_on text rest e.front e.last e.whole in record {
      more = g.more;
      whole = g.whole ∙ ap (λ (t : List Word). t ++ g.more) (sym (lines_cut text e.front e.last e.whole));
    }

-- a finished line stays so
pub line_stays : (text rest : List ℕ) (lines : List Word) (line next : Word) (more : List Word) →
    parts 10 text ≡ lines ++ line ∷ next ∷ more → GoesOn text rest (lines ++ line ∷ [])
line_stays text rest lines line next more cut =
    let e = ends next more in
    let front : List Word = lines ++ line ∷ e.front in
    let g = goes_on text rest front e.last
    (cut ∙ ap (λ (t : List Word). lines ++ line ∷ t) e.whole
    ∙ sym (append_assoc lines (line ∷ e.front) (e.last ∷ []))) in record {
      more = e.front ++ g.more;
      whole = g.whole ∙ append_assoc lines (line ∷ e.front) g.more
          ∙ sym (append_assoc lines (line ∷ []) (e.front ++ g.more));
    }

pub texts_joined : (xs ys : List Word) → lines_text (xs ++ ys) ≡ lines_text xs ++ lines_text ys
texts_joined xs ys = flat_map-append (λ (l : Word). l ++ (10 ∷ [])) xs ys

pub finished_text : (text : List ℕ) (lines : List Word) → finished_lines text ≡ lines →
    finished text ≡ lines_text lines
finished_text text lines is = finished_is text ∙ ap lines_text is

-- ---- the text of lines

pub are_lines : (text : List ℕ) → AreLines (finished_lines text)
are_lines text = finished_are_lines text

pub front_lines : (xs ys : List Word) → AreLines (xs ++ ys) → AreLines xs
front_lines [] ys all = tt
front_lines (x ∷ xs) ys all = (all.0, front_lines xs ys all.1)

pub text_parts : (lines : List Word) → AreLines lines → (rest : List ℕ) →
    parts 10 (lines_text lines ++ rest) ≡ lines ++ parts 10 rest
text_parts lines are rest = parts_more lines are rest

pub text_is_cut : (lines : List Word) → AreLines lines →
    parts 10 (lines_text lines) ≡ lines ++ [] ∷ []
text_is_cut lines are =
    ap (parts 10) (sym (append-nil (lines_text lines))) ∙ parts_more lines are []

pub text_is_finished : (lines : List Word) → AreLines lines →
    finished (lines_text lines) ≡ lines_text lines
text_is_finished lines are = finished_text (lines_text lines) lines
    (lines_cut (lines_text lines) lines [] (text_is_cut lines are))
