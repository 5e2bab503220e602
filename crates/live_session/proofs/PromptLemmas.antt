-- No read comes between a line and its answer.
use Rattle.std.proofs.Common.{◌≡◌, ◌∙◌, ℕ, ◌+◌, List, [], ◌∷◌, ◌++◌, length, length-append}
use Rattle.std.proofs.Common.{reverse, Option, Some, None, refl, sym, ap, subst, append_assoc}
use Rattle.std.proofs.Common.{arith}
use Rattle.std.proofs.lemmas.List.{length-map, length-reverse}
use Rattle.wall_policy.specs.Policy.{ChineseWall}
use Rattle.run_model.specs.Runs.{Entry}
use Rattle.coll_text.specs.Numbers.{Word}
use Rattle.coll_text.specs.Reading.{parts}
use Rattle.hall_script.specs.Devices.{used}
use Rattle.hall_turn.specs.Receipts.{Covered}
use Rattle.hall_turn.specs.Known.{Known}
use Rattle.live_session.specs.Lines.{said}
use Rattle.live_session.specs.Hearing.{DeskLog, Heard, Tells, text_of}
use Rattle.live_session.specs.Sessions.{Told, said_by, Acted, HadAnswered, IsPrompt}
use Rattle.live_session.specs.Steps.{Counting, Showing, SoFar}

-- ---- what is known

pub tells_none : {X : Type 0} (known : Option (List X)) → Tells known known []
tells_none None = tt
tells_none (Some past) = refl

pub tells_then : {X : Type 0} (a b c : Option (List X)) (past more : List X) → Tells a b past →
    Tells b c more → Tells a c (more ++ past)
tells_then None b c past more p q = tt
tells_then (Some x) None c past more p q = absurd p
tells_then (Some x) (Some y) None past more p q = absurd q
tells_then (Some x) (Some y) (Some z) past more p q =
    q ∙ ap (λ l. more ++ l) p ∙ sym (append_assoc more past x)

-- ---- answers by then

-- lines that were answered since change nothing
later_lines : (wall : ChineseWall) (before now : Option (List ℕ)) (text : List ℕ)
    (told more : List Told) → HadAnswered wall before now text told →
    HadAnswered wall before now text (more ++ told)
later_lines wall before now text told more h = record {
  since = more ++ h.since;
  past = h.past;
  told_is = ap (λ l. more ++ l) h.told_is ∙ sym (append_assoc more h.since h.past);
  finished = h.finished;
  written = h.written;
}

-- as many lines were told as are finished
finished_told : (wall : ChineseWall) (before now : Known) (text lines : List Word) (line : Word)
    (told : List Told) → Acted wall before text lines (line ∷ []) told now →
    length text ≡ length told + 1
finished_told wall before now text lines line told s =
    let cut = ap length s.cut in
    let both = length-append (reverse lines) (line ∷ []) in
    let turned = length-reverse lines in
    let says = sym (length-map lines (said wall.dataset_names)) ∙ ap length s.says
    ∙ length-map told said_by in
    omega arith

none_read : (later : List Heard) (read : Heard) (past : List Heard) → [] ≡ later ++ read ∷ past → ⊥
none_read [] read past e = absurd cc
none_read (x ∷ later) read past e = absurd cc

-- one read more, by which all lines were answered
answered_more : (wall : ChineseWall) (before : Option (List ℕ)) (read : Heard) (reads : List Heard)
    (told more : List Told) → HadAnswered wall before read.written (text_of reads) told →
    ((later : List Heard) (this : Heard) (past : List Heard) → reads ≡ later ++ this ∷ past →
    HadAnswered wall before this.written (text_of past) told) →
    (later : List Heard) (this : Heard) (past : List Heard) → read ∷ reads ≡ later ++ this ∷ past →
    HadAnswered wall before this.written (text_of past) (more ++ told)
answered_more wall before read reads told more now earlier [] this past e =
    let same : read ≡ this = cc in
    let rest : reads ≡ past = cc in
    later_lines wall before this.written (text_of past) told more
    (subst (λ (h : Heard). HadAnswered wall before h.written (text_of past) told) same
    (subst (λ (l : List Heard). HadAnswered wall before read.written (text_of l) told) rest now))
answered_more wall before read reads told more now earlier (x ∷ later) this past e =
    let rest : reads ≡ later ++ this ∷ past = cc in
    later_lines wall before this.written (text_of past) told more (earlier later this past rest)

module _ {S O : Type 0} (fails : S → ℕ) (left : S → Option (List ℕ))
    (heard : S → DeskLog) (failures : O → ℕ) (contents : O → Option (List ℕ)) where
  abbrev Prompt : ChineseWall → (first last : S) → (old new : O) → List ℕ → List Told → Type 0
  Prompt wall first last old new bytes told =
      IsPrompt heard wall (used fails left first last) (used failures contents old new) bytes told

  pub prompt_none : (wall : ChineseWall) (source : S) (sink : O) →
      Prompt wall source source sink sink [] []
  prompt_none wall source sink = record {
    reads = [];
    tells = tells_none (heard source).reads;
    gave = refl;
    answered = λ later read past e. absurd (none_read later read past e);
  }

  -- a read that failed is not told
  pub prompt_still : (wall : ChineseWall) (first mid last : S) (old new : O) (bytes : List ℕ)
      (told : List Told) → Prompt wall first mid old new bytes told →
      Tells (heard mid).reads (heard last).reads [] → Prompt wall first last old new bytes told
  prompt_still wall first mid last old new bytes told p tells = record {
    reads = p.reads;
    tells = tells_then (heard first).reads (heard mid).reads (heard last).reads p.reads [] p.tells
        tells;
    gave = p.gave;
    answered = p.answered;
  }

  -- nothing was read since
  pub prompt_unread : (wall : ChineseWall) (first last far : S) (old new : O) (bytes : List ℕ)
      (told : List Told) → (heard far).reads ≡ (heard last).reads →
      Prompt wall first last old new bytes told → Prompt wall first far old new bytes told
  prompt_unread wall first last far old new bytes told same p = record {
    reads = p.reads;
    tells = subst (λ (k : Option (List Heard)). Tells (heard first).reads k p.reads) (sym same)
        p.tells;
    gave = p.gave;
    answered = p.answered;
  }

module _ (stood : ChineseWall → List Entry → Option Covered → Type 0) (most : Option ℕ)
    {S O : Type 0} (fails : S → ℕ) (left : S → Option (List ℕ))
    (heard : S → DeskLog) (failures : O → ℕ) (contents : O → Option (List ℕ)) where
  -- all finished lines were answered, and then came a read
  pub prompt_more : (wall : ChineseWall) (a b : Known) (first mid last : S) (old out new : O)
      (bytes more : List ℕ) (line : Word)
      (desk : Showing) (count : Counting)
      (s : SoFar stood most wall a (parts 10 bytes) (line ∷ []) desk
      (used failures contents old out) count b) →
      IsPrompt heard wall (used fails left first mid) (used failures contents old out) bytes
      s.told →
      Tells (heard mid).reads (heard last).reads
      (record { bytes = more; written = contents out } ∷ []) →
      (told : List Told) → IsPrompt heard wall (used fails left first last)
      (used failures contents old new) (bytes ++ more) (told ++ s.told)
  prompt_more wall a b first mid last old out new bytes more line desk count s p tells told =
      let read : Heard = record { bytes = more; written = contents out } in
      let now : HadAnswered wall (contents old) (contents out) (text_of p.reads) s.told = record {
        since = [];
        past = s.told;
        told_is = refl;
        finished = ap (λ l. length (parts 10 l)) p.gave
            ∙ finished_told wall a b (parts 10 bytes) s.lines line s.told s.acted;
        written = s.written.1;
      } in
      record {
        reads = read ∷ p.reads;
        tells = tells_then (heard first).reads (heard mid).reads (heard last).reads p.reads
            (read ∷ []) p.tells tells;
        gave = ap (λ l. l ++ more) p.gave;
        answered =
            answered_more wall (contents old) read p.reads s.told told now p.answered;
      }
