-- What sessions come to, line by line.
use Rattle.std.proofs.Common.{◌≡◌, ◌⊎◌, inl, inr, ℕ, zero, suc, ◌+◌, List, [], ◌∷◌, ◌++◌, map}
use Rattle.std.proofs.Common.{reverse, Option, Some, None, Result, Ok, Err, refl, sym, ap, subst}
use Rattle.std.proofs.Common.{◌≢◌, Bool}
use Rattle.std.specs.Prelude.{is_some, option_map, ◌==◌, ◌≤◌, length, not}
use Rattle.std.proofs.Common.{◌∙◌, length-append, append_assoc, append-nil, IfOk, replicate, take, arith}
use Rattle.wall_labels.specs.declared.no_memory.NoMemory.{NoMemory as OutOfMemory}
use Rattle.wall_labels.specs.Known.{AppendsPrefix}
use Rattle.std.specs.Io.KnownBytes.{Appends, Consumes, IsAtEnd, Keeps}
use Rattle.std.proofs.lemmas.List.{reverse-append, length-map}
use Rattle.std.proofs.lemmas.List.Elements.{filter_map-append}
use Rattle.std.proofs.lemmas.List.Filters.{length-filter_both}
use Rattle.std.specs.List.{cons_option, filter}
use Rattle.wall_policy.specs.Policy.{ChineseWall}
use Rattle.std.proofs.KnownBytes.{Appends-nil, Appends-trans, Consumes-nil, Consumes-trans}
use Rattle.std.proofs.KnownBytes.{Consumes-kept}
use Rattle.coll_text.specs.Numbers.{Word}
use Rattle.coll_text.specs.Reading.{parts}
use Rattle.run_model.specs.declared.call.Act.{Act}
use Rattle.run_model.specs.declared.call.Act.TheVariants.{Take}
use Rattle.run_model.specs.declared.reply.Reply.{Reply}
use Rattle.run_model.specs.declared.reply.Reply.TheVariants.{Pending}
use Rattle.mpi_elems.specs.Contents.{Contents}
use Rattle.run_model.specs.Contributions.{Contribution, posts_of}
use Rattle.run_model.specs.Runs.{Entry, contributions, contribution_in, posts}
use Rattle.run_model.specs.Replies.{Legal}
use Rattle.hall_script.specs.declared.ask.Ask.{Ask}
use Rattle.hall_script.specs.declared.ask.Ask.TheVariants.{Act as ToAct, Wait}
use Rattle.hall_script.specs.declared.ask.Ask.TheVariants.{Leave}
use Rattle.hall_script.specs.Devices.{Used, used, bytes_before, bytes_after, NeverFailed}
use Rattle.hall_script.specs.Devices.{IsWritten, BrokeOff}
use Rattle.hall_script.specs.Replies.{reply_line}
use Rattle.hall_turn.specs.declared.answer.Answer.{Answer}
use Rattle.hall_turn.specs.declared.answer.Answer.TheVariants.{Reply as Replied, Exhausted as Late}
use Rattle.hall_turn.specs.Runs.{Continues, calls_of}
use Rattle.hall_turn.specs.Receipts.{Covered}
use Rattle.hall_turn.specs.Known.{Known, Doorway}
use Rattle.hall_turn.specs.Answers.{IsSamePass, Answered, Gives, GivesAt}
use Rattle.hall_turn.specs.Answers.{NamesKnown}
use Rattle.hall_turn.proofs.HallTurnLemmas.{continues_self, continues_more, continues_trans}
use Rattle.live_session.specs.declared.line.BadLine.{BadLine}
use Rattle.live_session.specs.declared.acting.Came.{Came}
use Rattle.live_session.specs.declared.acting.Came.TheVariants as cames
use Rattle.live_session.specs.declared.answer.Next.{Next}
use Rattle.live_session.specs.declared.answer.Next.TheVariants as nexts
use Rattle.live_session.specs.Lines.{said}
use Rattle.live_session.specs.Sessions.{Uncalled, its_head, its_number, its_open, its_next, its_fault}
use Rattle.live_session.specs.Sessions.{asked_by, IsSo, TellsWhatIs, calls_by}
use Rattle.live_session.specs.Sessions.{Told, done, waited, uncalled, said_by}
use Rattle.live_session.specs.Sessions.{called, AsksForCall, shown_last}
use Rattle.live_session.specs.Sessions.{calls_for, made, answer, answers, SeesMore, Acted, EndsAt}
use Rattle.live_session.specs.Sessions.{SaysLast, IsCutIn, BreaksOff, EndsSo, and_untold, Stood}
use Rattle.live_session.specs.Sessions.{last_call, StoodBehind, StoodFor, AreBooked, EndsUnbooked}
use Rattle.live_session.specs.Sessions.{Serves, IsPrompt, IsShown, counts_as, calls_in}
use Rattle.live_session.specs.Sessions.{IsWithin, IsSpent}
use Rattle.live_session.specs.Hearing.{DeskLog, Shown, Tells}
use Rattle.live_session.specs.Steps.{ComesTo, MayHaveCome, reply_to}
use Rattle.live_session.specs.Steps.{CameTo, ComesUncalled, Waited}
use Rattle.live_session.specs.Steps.{came_of, line_to, next_after, AnswersSo, WritesAnswer}
use Rattle.live_session.specs.Steps.{PutsAnswer, AnswersLine, SoFar, Stops, StopsSo, Holds}
use Rattle.live_session.specs.Steps.{behind, IsUnread, Receipts, Showing, Shows, receipts, showing}
use Rattle.live_session.specs.Steps.{shown_next}
use Rattle.live_session.specs.Steps.{AnswersBehind, CameNamesKnown, Counting, counting, Counted}
use Rattle.live_session.specs.Steps.{IsUncounted, calls_after, Counts, IsOver}
use Rattle.live_session.specs.declared.line.Unfinished.{Unfinished}
use Rattle.live_session.proofs.CutLemmas.{parts_behind}
use Rattle.live_session.proofs.PromptLemmas.{prompt_none, prompt_more, prompt_still, prompt_unread}
use Rattle.live_session.proofs.PromptLemmas.{tells_none, tells_then}
use Rattle.live_session.specs.declared.ending.SessionEnd.{SessionEnd}
use Rattle.live_session.specs.declared.ending.SessionEnd.TheVariants.{EndOfStream, Left}
use Rattle.live_session.specs.declared.ending.SessionEnd.TheVariants.{ReadFailed, WriteFailed}
use Rattle.live_session.specs.declared.ending.SessionEnd.TheVariants.{Exhausted, Unbooked}
use Rattle.live_session.specs.declared.ending.SessionEnd.TheVariants.{NoMemory}

-- ---- the pass

pub sees_none : (before : Known) → Legal before.door.policy before.seen → SeesMore before [] before
sees_none before legal = record {
  same = (refl, refl);
  begins = continues_self before.seen;
  legal = legal;
  own = refl;
}

pub sees_then : (a b c : Known) (first later : List Entry) → SeesMore a first b →
    SeesMore b later c → SeesMore a (later ++ first) c
sees_then a b c first later s t = record {
  same = (t.same.0 ∙ s.same.0, t.same.1 ∙ s.same.1);
  begins = continues_trans c.seen b.seen a.seen t.begins s.begins;
  legal = subst (λ (d : Doorway). Legal d.policy c.seen) s.same.0 t.legal;
  own = ap (λ (p : ℕ). calls_of p c.seen) (sym s.same.1) ∙ t.own
      ∙ ap (λ (p : ℕ). later ++ calls_of p b.seen) s.same.1 ∙ ap (λ l. later ++ l) s.own
      ∙ sym (append_assoc later first (calls_of a.process a.seen));
}

pub sees_call : (before after : Known) (act : Act) (reply : Reply) → IsSamePass before after →
    Legal before.door.policy after.seen → Answered before act (Replied reply) after →
    SeesMore before (called before.process act reply ∷ []) after
sees_call before after act reply same legal a = record {
  same = same;
  begins = subst (λ (run : List Entry). Continues run before.seen) (sym a.ends)
      (continues_more a.front before.seen (called before.process act reply) a.begins);
  legal = legal;
  own = a.own;
}

pub sees_late : (before after : Known) (act : Act) → IsSamePass before after →
    Legal before.door.policy after.seen → Answered before act Late after →
    SeesMore before [] after
sees_late before after act same legal a =
    record { same = same; begins = a.0.begins; legal = legal; own = a.0.own }

-- ---- what came of lines

pub made-append : (p : ℕ) (later first : List Told) →
    made p (later ++ first) ≡ made p later ++ made p first
made-append p [] first = refl
made-append p (told ∷ later) first = ap (λ l. calls_for p told ++ l) (made-append p later first)
    ∙ sym (append_assoc (calls_for p told) (made p later) (made p first))

pub answers-append : (wall : ChineseWall) (later first : List Told) →
    answers wall (later ++ first) ≡ answers wall first ++ answers wall later
answers-append wall [] first = sym (append-nil (answers wall first))
answers-append wall (told ∷ later) first =
    ap (λ l. l ++ answer wall told) (answers-append wall later first)
    ∙ append_assoc (answers wall first) (answers wall later) (answer wall told)

pub untold-append : (untold : Option Told) (later first : List Told) →
    and_untold untold later ++ first ≡ and_untold untold (later ++ first)
untold-append None later first = refl
untold-append (Some newest) later first = refl

map-append : {A B : Type 0} (f : A → B) (xs ys : List A) → map f (xs ++ ys) ≡ map f xs ++ map f ys
map-append f [] ys = refl
map-append f (x ∷ xs) ys = ap (λ l. f x ∷ l) (map-append f xs ys)

both : {A : Type 0} (a b c d : List A) → a ≡ b → c ≡ d → a ++ c ≡ b ++ d
both a b c d e f = cc

-- no line was acted on yet
pub acted_none : (wall : ChineseWall) (before : Known) (rest : List Word) →
    Legal before.door.policy before.seen → Acted wall before rest [] rest [] before
acted_none wall before rest legal =
    record { cut = refl; says = refl; sees = sees_none before legal }

-- lines that were acted on, and then others
pub acted_then : (wall : ChineseWall) (a b c : Known)
    (whole text first later mid rest : List Word) (past told : List Told) →
    Acted wall a text first mid past b → Acted wall b whole later rest told c →
    (all : List Word) → all ≡ reverse first ++ whole →
    Acted wall a all (later ++ first) rest (told ++ past) c
acted_then wall a b c whole text first later mid rest past told s t all is = record {
  cut = is ∙ ap (λ l. reverse first ++ l) t.cut
      ∙ sym (append_assoc (reverse first) (reverse later) rest)
      ∙ ap (λ l. l ++ rest) (sym (reverse-append later first));
  says = map-append (said wall.dataset_names) later first
      ∙ both _ _ _ _ t.says s.says ∙ sym (map-append said_by told past);
  sees = subst (λ l. SeesMore a l c) (sym (made-append a.process told past))
      (sees_then a b c (made a.process past) (made a.process told) s.sees
      (subst (λ (p : ℕ). SeesMore b (made p told) c) s.sees.same.1 t.sees));
}

-- one line more
pub acted_more : (wall : ChineseWall) (a b c : Known) (text lines later : List Word) (line : Word)
    (past : List Told) (told : Told) → Acted wall a text lines (line ∷ later) past b →
    said wall.dataset_names line ≡ said_by told → SeesMore b (calls_for b.process told) c →
    Acted wall a text (line ∷ lines) later (told ∷ past) c
acted_more wall a b c text lines later line past told s says sees =
    acted_then wall a b c (line ∷ later) text lines (line ∷ []) (line ∷ later) later past
    (told ∷ []) s
    (record {
      cut = refl;
      says = ap (λ l. l ∷ []) says;
      sees = subst (λ l. SeesMore b l c) (sym (append-nil (calls_for b.process told))) sees;
    }) text s.cut

-- ---- counts

calls_in-append : (later first : List Told) →
    calls_in (later ++ first) ≡ calls_in later + calls_in first
calls_in-append [] first = omega arith
calls_in-append (told ∷ later) first = let e = calls_in-append later first in omega arith

-- no call is within any bound
pub within_none : (most : Option ℕ) → IsWithin most 0
within_none None = tt
within_none (Some most) = omega arith

pub none_counted : (k : ℕ) → Counted [] (counting k k)
none_counted k = omega arith

pub counted_then : (later first : List Told) (k l m : ℕ) → Counted first (counting k l) →
    Counted later (counting l m) → Counted (later ++ first) (counting k m)
counted_then later first k l m s t = let e = calls_in-append later first in omega arith

-- one line more
counted_more : (told : Told) (first : List Told) (k l m : ℕ) → Counted first (counting k l) →
    Counted (told ∷ []) (counting l m) → Counted (told ∷ first) (counting k m)
counted_more told first k l m s t = omega arith

-- a line that makes no call
counted_still : (told : List Told) (k l m : ℕ) → Counted told (counting k l) →
    IsUncounted (counting l m) → Counted told (counting k m)
counted_still told k l m s t = omega arith

counted_uncalled : (it : Uncalled) (k l : ℕ) → IsUncounted (counting k l) →
    Counted (uncalled it ∷ []) (counting k l)
counted_uncalled it k l t = omega arith

pub counted_untold : (untold : Option Told) (later first : List Told) (k l m : ℕ) →
    Counted first (counting k l) → Counted (and_untold untold later) (counting l m) →
    Counted (and_untold untold (later ++ first)) (counting k m)
counted_untold untold later first k l m s t =
    subst (λ (all : List Told). Counted all (counting k m)) (untold-append untold later first)
    (counted_then (and_untold untold later) first k l m s t)

counted_call : (act : Act) (reply : Reply) (k : ℕ) →
    Counted (done act reply ∷ []) (counting k (suc k))
counted_call act reply k = omega arith

counted_wait : (request again : ℕ) (reply : Reply) (k : ℕ) →
    Counted (waited request again reply ∷ []) (counting k (suc k))
counted_wait request again reply k = omega arith

-- from the first line on
pub counted_all : (told : List Told) (base calls : ℕ) → Counted told (counting base calls) →
    calls ≡ calls_in told + base
counted_all told base calls s = omega arith

-- of the calls for these lines no more are posts that count than the lines are
one_if_any : (g : Option (Contribution Contents)) → length (posts_of (cons_option g [])) ≤ 1
one_if_any None = omega arith
one_if_any (Some g) = omega arith

call_posts : (p : ℕ) (act : Act) (reply : Reply) →
    length (posts (called p act reply ∷ [])) ≤ 1
call_posts p act reply = one_if_any (contribution_in (called p act reply))

no_posts : (p request again : ℕ) →
    length (posts (replicate again (called p (Take request) Pending))) ≡ 0
no_posts p request zero = refl
no_posts p request (suc again) = no_posts p request again

pub posts-append : (later first : List Entry) →
    length (posts (later ++ first)) ≡ length (posts later) + length (posts first)
posts-append later first =
    let all = length-map (contributions (later ++ first)) (λ (g : Contribution Contents). g.post) in
    let one = length-map (contributions later) (λ (g : Contribution Contents). g.post) in
    let two = length-map (contributions first) (λ (g : Contribution Contents). g.post) in
    let both = ap length (filter_map-append contribution_in later first) in
    let sum = length-append (contributions later) (contributions first) in
    omega arith

line_posts : (p : ℕ) (told : Told) → length (posts (calls_for p told)) ≤ counts_as told
line_posts p (done act reply) = call_posts p act reply
line_posts p (waited request again reply) = let none = no_posts p request again in omega arith
line_posts p (uncalled it) = omega arith

pub made_posts : (p : ℕ) (told : List Told) → length (posts (made p told)) ≤ calls_in told
made_posts p [] = omega arith
made_posts p (told ∷ past) =
    let one = line_posts p told in
    let rest = made_posts p past in
    let both = posts-append (calls_for p told) (made p past) in
    omega arith

pub within_fewer : (most : Option ℕ) (fewer calls : ℕ) → fewer ≤ calls → IsWithin most calls →
    IsWithin most fewer
within_fewer None fewer calls le within = tt
within_fewer (Some most) fewer calls le within = omega arith

pub none_counts : (most : Option ℕ) (calls : ℕ) (pass : Known) → calls ≡ 0 →
    Counts most calls pass
none_counts most calls pass none = record {
  within = subst (IsWithin most) (sym none) (within_none most);
  seen = omega arith;
}

-- more calls were made
counts_more : (most : Option ℕ) (k m : ℕ) (before after : Known) (calls : List Entry) →
    IsWithin most m → m ≤ length calls + k → Counts most k before → SeesMore before calls after →
    Counts most m after
counts_more most k m before after calls within fits c sees =
    let own = ap length sees.own in
    let both = length-append calls (calls_of before.process before.seen) in
    let seen = c.seen in
    let low : m ≤ length (calls_of before.process after.seen) = omega arith in
    record {
      within = within;
      seen = subst (λ (p : ℕ). m ≤ length (calls_of p after.seen)) (sym sees.same.1) low;
    }

-- ---- the receipt shown last

last_then : (last : Option Covered) (later first : List Shown) →
    shown_last last (later ++ first) ≡ shown_last (shown_last last first) later
last_then last [] first = refl
last_then last (show ∷ later) first = refl

-- a line that makes a call is told nothing else
told_else : (last : Option Covered) (p : ℕ) (calls : List Entry) (told : Told) →
    last_call p told ≢ None → TellsWhatIs last p calls told
told_else last p calls (done act reply) called = tt
told_else last p calls (waited request again reply) called = tt
told_else last p calls (uncalled it) called = absurd (called refl)

-- what is so of one receipt and these calls is so of the same
still_so : (last next : Option Covered) (p q : ℕ) (first later : List Entry) (told : Told) →
    last ≡ next → p ≡ q → first ≡ later → TellsWhatIs last p first told →
    TellsWhatIs next q later told
still_so last next p q first later told same number calls h =
    subst (λ (c : Option Covered). TellsWhatIs c q later told) same
    (subst (λ (r : ℕ). TellsWhatIs last r later told) number
    (subst (λ (l : List Entry). TellsWhatIs last p l told) calls h))

-- the calls by some lines, behind those of others
calls_then : (a b : Known) (first later : List Told) → SeesMore a (made a.process first) b →
    calls_by b later ≡ calls_by a (later ++ first)
calls_then a b first later s =
    ap (λ (p : ℕ). made p later ++ calls_of p b.seen) s.same.1
    ∙ ap (λ (l : List Entry). made a.process later ++ l) s.own
    ∙ sym (append_assoc (made a.process later) (made a.process first) (calls_of a.process a.seen))
    ∙ ap (λ (l : List Entry). l ++ calls_of a.process a.seen)
    (sym (made-append a.process later first))

-- ---- the machine

module _ (stood : ChineseWall → List Entry → Option Covered → Type 0) where
  -- more was seen since
  behind_on : (a b d : Known) (calls : List Entry) (call : Entry) (booked : Option Covered) →
      Continues d.seen b.seen → StoodBehind stood a calls call booked b →
      StoodBehind stood a calls call booked d
  behind_on a b d calls call booked more s = record {
    front = s.front;
    begins = continues_trans d.seen b.seen (call ∷ s.front) more s.begins;
    own = s.own;
    so = s.so;
  }

  -- other calls were made before
  behind_then : (a b d : Known) (past calls : List Entry) (call : Entry) (booked : Option Covered) →
      SeesMore a past b → StoodBehind stood b calls call booked d →
      StoodBehind stood a (calls ++ past) call booked d
  behind_then a b d past calls call booked s t = record {
    front = t.front;
    begins = t.begins;
    own = ap (λ (p : ℕ). calls_of p (call ∷ t.front)) (sym s.same.1) ∙ t.own
        ∙ ap (λ (p : ℕ). calls ++ calls_of p b.seen) s.same.1 ∙ ap (λ l. calls ++ l) s.own
        ∙ sym (append_assoc calls past (calls_of a.process a.seen));
    so = subst (λ (w : Doorway). stood w.policy (call ∷ t.front) booked) s.same.0 t.so;
  }

  for_on : (a b d : Known) (told : Told) (calls : List Entry) (booked : Option Covered) →
      Continues d.seen b.seen → StoodFor stood a told calls booked b →
      StoodFor stood a told calls booked d
  for_on a b d told calls booked more s =
      λ call is. behind_on a b d calls call booked more (s call is)

  for_then : (a b d : Known) (past calls : List Entry) (told : Told) (booked : Option Covered) →
      SeesMore a past b → StoodFor stood b told calls booked d →
      StoodFor stood a told (calls ++ past) booked d
  for_then a b d past calls told booked s t = λ call is.
      behind_then a b d past calls call booked s
      (t call (ap (λ (p : ℕ). last_call p told) s.same.1 ∙ is))

  -- the calls of some lines were made after those of others
  for_lines : (a b d : Known) (first later : List Told) (told : Told) (booked : Option Covered) →
      SeesMore a (made a.process first) b →
      StoodFor stood b told (made b.process later) booked d →
      StoodFor stood a told (made a.process (later ++ first)) booked d
  for_lines a b d first later told booked s t =
      subst (λ l. StoodFor stood a told l booked d)
      (ap (λ (p : ℕ). made p later ++ made a.process first) s.same.1
      ∙ sym (made-append a.process later first))
      (for_then a b d (made a.process first) (made b.process later) told booked s t)

  -- the calls of one line were made after those of others
  for_line : (a b d : Known) (first : List Told) (told : Told) (booked : Option Covered) →
      SeesMore a (made a.process first) b →
      StoodFor stood b told (calls_for b.process told) booked d →
      StoodFor stood a told (made a.process (told ∷ first)) booked d
  for_line a b d first told booked s t = for_lines a b d first (told ∷ []) told booked s
      (subst (λ l. StoodFor stood b told l booked d)
      (sym (append-nil (calls_for b.process told))) t)

  shown_on : (wall : ChineseWall) (written : Option (List ℕ)) (a b d : Known)
      (call : Option Entry) (calls : List Entry) (past : List Told) (shows : List Shown) →
      Continues d.seen b.seen → IsShown stood wall written a call calls past shows b →
      IsShown stood wall written a call calls past shows d
  shown_on wall written a b d None calls past shows more h = h
  shown_on wall written a b d (Some call) calls past shows more (show, is, behind, first) =
      (show, is, behind_on a b d calls call (Some show.covers) more behind, first)

  -- lines were told before
  shown_behind : (wall : ChineseWall) (old mid : Option (List ℕ)) (a b d : Known)
      (before calls : List Entry) (first later : List Told) (call : Option Entry)
      (shows : List Shown) → SeesMore a before b → Appends old mid (answers wall first) →
      IsShown stood wall mid b call calls later shows d →
      IsShown stood wall old a call (calls ++ before) (later ++ first) shows d
  shown_behind wall old mid a b d before calls first later None shows s w h = h
  shown_behind wall old mid a b d before calls first later (Some call) shows s w
      (show, is, behind, next) = (
        show,
        is,
        behind_then a b d before calls call (Some show.covers) s behind,
        subst (Appends old show.written) (sym (answers-append wall later first))
            (Appends-trans old mid show.written (answers wall first) (answers wall later) w next),
      )

  shown_then : (wall : ChineseWall) (old mid : Option (List ℕ)) (a b d : Known)
      (first later : List Told) (told : Told) (shows : List Shown) →
      SeesMore a (made a.process first) b → Appends old mid (answers wall first) →
      IsShown stood wall mid b (last_call b.process told) (made b.process (told ∷ later)) later
      shows d →
      IsShown stood wall old a (last_call a.process told) (made a.process (told ∷ later ++ first))
      (later ++ first) shows d
  shown_then wall old mid a b d first later told shows s w h =
      let calls : made b.process (told ∷ later) ++ made a.process first
      ≡ made a.process (told ∷ later ++ first) =
      ap (λ (p : ℕ). made p (told ∷ later) ++ made a.process first) s.same.1
      ∙ sym (made-append a.process (told ∷ later) first) in
      subst (λ (c : Option Entry). IsShown stood wall old a c
      (made a.process (told ∷ later ++ first)) (later ++ first) shows d)
      (ap (λ (p : ℕ). last_call p told) s.same.1)
      (subst (λ (l : List Entry). IsShown stood wall old a (last_call b.process told) l
      (later ++ first) shows d) calls
      (shown_behind wall old mid a b d (made a.process first) (made b.process (told ∷ later)) first
      later (last_call b.process told) shows s w h))

  booked_on : (wall : ChineseWall) (written : Option (List ℕ)) (a b d : Known)
      (last : Option Covered) (told : List Told) (shows : List Shown) → Continues d.seen b.seen →
      AreBooked stood wall written a last told shows b →
      AreBooked stood wall written a last told shows d
  booked_on wall written a b d last [] shows more h = h
  booked_on wall written a b d last (told ∷ past) shows more (newest, earlier, is, h, now, so) = (
    newest,
    earlier,
    is,
    booked_on wall written a b d last past earlier more h,
    shown_on wall written a b d (last_call a.process told) (made a.process (told ∷ past)) past
        newest more now,
    so,
  )

  pub booked_then : (wall : ChineseWall) (old mid : Option (List ℕ)) (a b d : Known)
      (last since : Option Covered) (first later : List Told) (shows more : List Shown) →
      SeesMore a (made a.process first) b → Appends old mid (answers wall first) →
      since ≡ shown_last last shows → AreBooked stood wall old a last first shows b →
      AreBooked stood wall mid b since later more d → Continues d.seen b.seen →
      AreBooked stood wall old a last (later ++ first) (more ++ shows) d
  booked_then wall old mid a b d last since first [] shows more s w k h none on =
      subst (λ (l : List Shown). AreBooked stood wall old a last first l d)
      (ap (λ (l : List Shown). l ++ shows) (sym none))
      (booked_on wall old a b d last first shows on h)
  booked_then wall old mid a b d last since first (told ∷ later) shows more s w k h
      (newest, earlier, is, t, now, so) on = (
        newest,
        earlier ++ shows,
        ap (λ (l : List Shown). l ++ shows) is ∙ append_assoc newest earlier shows,
        booked_then wall old mid a b d last since first later shows earlier s w k h t on,
        shown_then wall old mid a b d first later told newest s w now,
        still_so (shown_last since earlier) (shown_last last (earlier ++ shows)) b.process a.process
            (calls_by b later) (calls_by a (later ++ first)) told
            (ap (λ (c : Option Covered). shown_last c earlier) k ∙ sym (last_then last earlier shows))
            s.same.1 (calls_then a b first later s) so,
      )

  -- the receipt of a line's last call was shown before its answer
  is_shown : (wall : ChineseWall) (written : Option (List ℕ)) (b d : Known) (told : Told)
      (covers : Covered) → (last_call b.process told ≢ None) →
      StoodFor stood b told (calls_for b.process told) (Some covers) d →
      IsShown stood wall written b (last_call b.process told) (made b.process (told ∷ [])) []
      (record { covers = covers; written = written } ∷ []) d
  is_shown wall written b d (done act reply) covers calls so = (
    record { covers = covers; written = written },
    refl,
    so (called b.process act reply) refl,
    Appends-nil written,
  )
  is_shown wall written b d (waited request again reply) covers calls so = (
    record { covers = covers; written = written },
    refl,
    subst (λ (l : List Entry). StoodBehind stood b l (called b.process (Take request) reply)
        (Some covers) d) (sym (append-nil (calls_for b.process (waited request again reply))))
        (so (called b.process (Take request) reply) refl),
    Appends-nil written,
  )
  is_shown wall written b d (uncalled it) covers calls so = absurd (calls refl)

  -- the newest line of later ones
  unbooked_then : (a b d : Known) (rest : List Word) (first later : List Told) (newest : Told) →
      SeesMore a (made a.process first) b → EndsUnbooked stood b rest later newest d →
      EndsUnbooked stood a rest (later ++ first) newest d
  unbooked_then a b d rest first later newest s t = record {
    next = t.next;
    later = t.later;
    finished = t.finished;
    calls = λ none. t.calls (ap (λ (p : ℕ). last_call p newest) s.same.1 ∙ none);
    unbooked = for_lines a b d first (newest ∷ later) newest None s t.unbooked;
  }

-- ---- one line

-- the policy of a door is that of its passes
pub at_door : (door : Doorway) (pass : Known) (run : List Entry) → pass.door ≡ door →
    Legal door.policy run → Legal pass.door.policy run
at_door door pass run is legal =
    subst (λ (d : Doorway). Legal d.policy run) (sym is) legal

-- there is a receipt that covers something, exactly if there is one
pub still_some : {A B : Type 0} (covers : A → B) (receipt : Option A) (b : Bool) →
    b ≡ is_some receipt → b ≡ is_some (option_map covers receipt)
still_some covers None b is = is
still_some covers (Some receipt) b is = is

-- what came of a call names what its answer names
pub came_known : (wall : ChineseWall) (answer : Answer) (receipt : Option Covered) →
    NamesKnown wall answer → CameNamesKnown wall (came_of answer receipt)
came_known wall (Replied reply) (Some covers) named = named
came_known wall (Replied reply) None named = tt
came_known wall Late receipt named = tt

-- what came of a call is told where the machine was booked
told_or_not : (stood : ChineseWall → List Entry → Option Covered → Type 0) (most : Option ℕ)
    (before after : Known) (ask : Ask) (told : Told) (reply : Reply)
    (last receipt : Option Covered) (count : Counting) → last_call before.process told ≢ None →
    reply_to told ≡ Some reply → Counted (told ∷ []) count →
    ComesTo stood before (Ok ask) told receipt after →
    CameTo stood most before ask (came_of (Replied reply) receipt) last receipt count after
told_or_not stood most before after ask told reply last (Some covers) count calls is counted comes =
    (told, (covers, comes, refl, calls, counted), is)
told_or_not stood most before after ask told reply last None count calls is counted comes =
    (told, comes, calls, counted)

fewer_left : {X : Type 0} (p : X → Bool) (xs : List X) → length (filter p xs) ≤ length xs
fewer_left p xs = let e = length-filter_both p (λ x. not (p x)) (λ x. refl) xs in omega arith

-- as many calls as can be counted are more than the door has turns
over_of : (most : Option ℕ) (k : ℕ) (before : Known) →
    IsSpent most k ⊎ (18446744073709551615 ≤ k) →
    k ≤ length (calls_of before.process before.seen) → IsOver most k before.seen
over_of most k before (inl spent) seen = inl spent
over_of most k before (inr many) seen =
    let fewer = fewer_left (λ (e : Entry). e.call.process == before.process) before.seen in
    inr (omega arith)

-- what a line is told for which no call is made
pub comes_uncalled : (before : Known) (ask : Ask) (it : Uncalled) (last : Option Covered) (k : ℕ) →
    Legal before.door.policy before.seen → Ok ask ≡ asked_by it →
    IsSo last before.process (calls_of before.process before.seen) it →
    ComesUncalled before (Ok ask) it last last (counting k k) before
comes_uncalled before ask it last k legal says so = record {
  says = says;
  so = so;
  sees = sees_none before legal;
  uncounted = refl;
  kept = refl;
}

-- the session may make no call more
pub spent_came : (stood : ChineseWall → List Entry → Option Covered → Type 0) (most : Option ℕ)
    (k : ℕ) (before : Known) (ask : Ask) (last receipt : Option Covered) → AsksForCall ask →
    Legal before.door.policy before.seen → IsSpent most k ⊎ (18446744073709551615 ≤ k) →
    Counts most k before →
    CameTo stood most before ask cames.Exhausted last receipt (counting k k) before
spent_came stood most k before ask last receipt calls legal spent c = record {
  ask = ask;
  says = refl;
  calls = calls;
  sees = sees_none before legal;
  uncounted = refl;
  over = over_of most k before spent c.seen;
}

module _ {M : Type 0} (stands : ChineseWall → M → List Entry → Type 0)
    (booked : M → Option Covered) where
  -- the call was made, and its pass says of the machine what it was at the end of its turn
  behind_call : (before after : Known) (act : Act) (reply : Reply) (receipt : Option Covered) →
      IsSamePass before after → Answered before act (Replied reply) after →
      Gives stands booked after receipt → (call : Entry) →
      Some (called before.process act reply) ≡ Some call →
      StoodBehind (Stood stands booked) before (called before.process act reply ∷ []) call receipt
      after
  behind_call before after act reply receipt same a says call is =
      let this : called before.process act reply ≡ call = cc in
      subst (λ (e : Entry). StoodBehind (Stood stands booked) before
      (called before.process act reply ∷ []) e receipt after) this
      (record {
        front = a.front;
        begins = subst (λ (run : List Entry). Continues after.seen run) a.ends
            (continues_self after.seen);
        own = ap (λ (run : List Entry). calls_of before.process run) (sym a.ends) ∙ a.own;
        so = (
          says.0,
          subst (λ (run : List Entry). stands before.door.policy says.0 run) a.ends
              (subst (λ (w : Doorway). stands w.policy says.0 after.seen) same.0 says.1),
          says.3,
        );
      })

  -- a wait of one take
  pub waited_once : (before after : Known) (request : ℕ) (a : Answer) (old new : Option Covered) →
      IsSamePass before after → Legal before.door.policy after.seen →
      Answered before (Take request) a after → GivesAt stands booked before a after old new →
      Waited (Stood stands booked) before request a new after
  waited_once before after request (Replied reply) old new same legal a says = (
    0,
    record {
      says = refl;
      sees = sees_call before after (Take request) reply same legal a;
      so = λ call is. behind_call before after (Take request) reply new same a says call is;
    },
  )
  waited_once before after request Late old new same legal a says =
      (sees_late before after (Take request) same legal a, a.1)

  -- a wait of one take more
  pub waited_more : (before mid after : Known) (request : ℕ) (reply : Reply)
      (old new : Option Covered) →
      Waited (Stood stands booked) before request (Replied Pending) old mid →
      IsSamePass mid after → Legal mid.door.policy after.seen →
      Answered mid (Take request) (Replied reply) after → Gives stands booked after new →
      Waited (Stood stands booked) before request (Replied reply) new after
  waited_more before mid after request reply old new (again, w) same legal a says =
      let first = calls_for before.process (waited request again Pending) in
      let number : mid.process ≡ before.process = w.sees.same.1 in (
        suc again,
        record {
          says = refl;
          sees = subst (λ (p : ℕ). SeesMore before (called p (Take request) reply ∷ first) after)
              number (sees_then before mid after first
              (called mid.process (Take request) reply ∷ []) w.sees
              (sees_call mid after (Take request) reply same legal a));
          so = λ call is.
              subst (λ (p : ℕ). StoodBehind (Stood stands booked) before
              (called p (Take request) reply ∷ first) call new after) number
              (behind_then (Stood stands booked) before mid after first
              (called mid.process (Take request) reply ∷ []) call new w.sees
              (behind_call mid after (Take request) reply new same a says call
              (ap (λ (p : ℕ). Some (called p (Take request) reply)) number ∙ is)));
        },
      )

  -- a wait whose next take came too late
  pub waited_still : (before mid after : Known) (request : ℕ) (old new : Option Covered) →
      Waited (Stood stands booked) before request (Replied Pending) old mid →
      IsSamePass mid after → Legal mid.door.policy after.seen →
      Answered mid (Take request) Late after → (after.booked ≡ mid.booked) × (new ≡ old) →
      Waited (Stood stands booked) before request (Replied Pending) new after
  waited_still before mid after request old new (again, w) same legal a keeps =
      let first = calls_for before.process (waited request again Pending) in (
        again,
        record {
          says = refl;
          sees = sees_then before mid after first [] w.sees
              (sees_late mid after (Take request) same legal a);
          so = subst (λ (b : Option Covered). StoodFor (Stood stands booked) before
              (waited request again Pending) first b after) (sym keeps.1)
              (for_on (Stood stands booked) before mid after (waited request again Pending) first
              old a.0.begins w.so);
        },
      )

  pub act_came : (most : Option ℕ) (k : ℕ) (before after : Known) (act : Act) (a : Answer)
      (old new : Option Covered) →
      IsSamePass before after → Legal before.door.policy after.seen →
      Answered before act a after → GivesAt stands booked before a after old new →
      CameTo (Stood stands booked) most before (ToAct act) (came_of a new) old new
      (counting k (calls_after a k)) after
  act_came most k before after act (Replied reply) old new same legal a says =
      told_or_not (Stood stands booked) most before after (ToAct act) (done act reply) reply
      old new (counting k (suc k)) (λ e. absurd cc) refl (counted_call act reply k)
      (record {
        says = refl;
        sees = sees_call before after act reply same legal a;
        so = λ call is. behind_call before after act reply new same a says call is;
      })
  act_came most k before after act Late old new same legal a says = record {
    ask = ToAct act;
    says = refl;
    calls = tt;
    sees = sees_late before after act same legal a;
    uncounted = refl;
    over = inr a.1;
  }

pub wait_came : (stood : ChineseWall → List Entry → Option Covered → Type 0) (most : Option ℕ)
    (k : ℕ) (before after : Known) (request : ℕ) (a : Answer) (last receipt : Option Covered) →
    Waited stood before request a receipt after →
    CameTo stood most before (Wait request) (came_of a receipt) last receipt
    (counting k (calls_after a k)) after
wait_came stood most k before after request (Replied reply) last receipt (again, comes) =
    told_or_not stood most before after (Wait request) (waited request again reply) reply last
    receipt (counting k (suc k)) (λ e. absurd cc) refl (counted_wait request again reply k) comes
wait_came stood most k before after request Late last receipt (sees, late) = record {
  ask = Wait request;
  says = refl;
  calls = tt;
  sees = sees;
  uncounted = refl;
  over = inr late;
}

-- the count behind a call
pub act_counts : (most : Option ℕ) (k : ℕ) (before after : Known) (act : Act) (a : Answer) →
    IsSamePass before after → Legal before.door.policy after.seen → Answered before act a after →
    Counts most k before → IsWithin most (k + 1) → Counts most (calls_after a k) after
act_counts most k before after act (Replied reply) same legal a c within =
    let next : k + 1 ≡ suc k = omega arith in
    counts_more most k (suc k) before after (called before.process act reply ∷ [])
    (subst (IsWithin most) next within) (omega arith) c
    (sees_call before after act reply same legal a)
act_counts most k before after act Late same legal a c within =
    counts_more most k k before after [] c.within (omega arith) c
    (sees_late before after act same legal a)

pub wait_counts : (stood : ChineseWall → List Entry → Option Covered → Type 0) (most : Option ℕ)
    (k : ℕ) (before after : Known) (request : ℕ) (a : Answer) (receipt : Option Covered) →
    Waited stood before request a receipt after → Counts most k before →
    IsWithin most (k + 1) → Counts most (calls_after a k) after
wait_counts stood most k before after request (Replied reply) receipt (again, comes) c within =
    let next : k + 1 ≡ suc k = omega arith in
    counts_more most k (suc k) before after
    (calls_for before.process (waited request again reply))
    (subst (IsWithin most) next within) (omega arith) c comes.sees
wait_counts stood most k before after request Late receipt (sees, late) c within =
    counts_more most k k before after [] c.within (omega arith) c sees

-- the answer is all of the text
pub put_alone : (old new more : List ℕ) → new ≡ old ++ more → old ≡ [] → (text : List ℕ) →
    more ≡ text → new ≡ text
put_alone old new more put none text is = put ∙ ap (λ l. l ++ more) none ∙ is

replied : (wall : ChineseWall) (told : Told) (reply : Reply) → reply_to told ≡ Some reply →
    reply_line wall reply ≡ answer wall told
replied wall (done act r) reply e = let k : r ≡ reply = cc in ap (reply_line wall) (sym k)
replied wall (waited request again r) reply e =
    let k : r ≡ reply = cc in ap (reply_line wall) (sym k)
replied wall (uncalled it) reply e = absurd cc

module _ (stood : ChineseWall → List Entry → Option Covered → Type 0) (most : Option ℕ) where
  -- a line that asks for nothing: nothing was made
  pub comes_bad : (wall : ChineseWall) (before : Known) (line : Result Ask BadLine)
      (bad : BadLine) (last : Option Covered) (k : ℕ) → wall ≡ before.door.policy →
      Legal wall before.seen → line ≡ Err bad →
      ComesUncalled before line (its_fault bad) last last (counting k k) before
  comes_bad wall before line bad last k is legal says = record {
    says = says;
    so = tt;
    sees = sees_none before (subst (λ (w : ChineseWall). Legal w before.seen) is legal);
    uncounted = refl;
    kept = refl;
  }

  came_answers : (wall : ChineseWall) (before after : Known) (ask : Ask) (it : Came)
      (last receipt : Option Covered) (count : Counting) →
      CameTo stood most before ask it last receipt count after →
      AnswersSo stood most wall before (Ok ask) (line_to wall it) last receipt count after
      (next_after it)
  came_answers wall before after ask (cames.Reply reply) last receipt count (told, comes, is) =
      (told, comes, replied wall told reply is)
  came_answers wall before after ask (cames.Head head) last receipt count comes =
      (its_head head, comes, refl)
  came_answers wall before after ask (cames.Pong number) last receipt count comes =
      (its_number number, comes, refl)
  came_answers wall before after ask (cames.Open requests) last receipt count comes =
      (its_open requests.items, comes, refl)
  came_answers wall before after ask (cames.Next request) last receipt count comes =
      (its_next request, comes, refl)
  came_answers wall before after ask cames.Left last receipt count (is, sees, none) =
      (ap Ok is, sees, none, refl)
  came_answers wall before after ask cames.Exhausted last receipt count late = (late, refl)
  came_answers wall before after ask cames.Unbooked last receipt count comes = (comes, refl)

  may_have : (before after : Known) (ask : Ask) (it : Came) (last receipt : Option Covered)
      (count : Counting) → CameTo stood most before ask it last receipt count after →
      MayHaveCome stood before (Ok ask) count after
  may_have before after ask (cames.Reply reply) last receipt count
      (told, (covers, comes, at, calls, counted), is) = inr (told, Some covers, comes, counted)
  may_have before after ask (cames.Head head) last receipt count comes =
      inl (comes.sees, comes.uncounted)
  may_have before after ask (cames.Pong number) last receipt count comes =
      inl (comes.sees, comes.uncounted)
  may_have before after ask (cames.Open requests) last receipt count comes =
      inl (comes.sees, comes.uncounted)
  may_have before after ask (cames.Next request) last receipt count comes =
      inl (comes.sees, comes.uncounted)
  may_have before after ask cames.Left last receipt count (is, sees, none) = inl (sees, none)
  may_have before after ask cames.Exhausted last receipt count late =
      inl (late.sees, late.uncounted)
  may_have before after ask cames.Unbooked last receipt count (told, comes, calls, counted) =
      inr (told, None, comes, counted)

  -- what came of a line was put, or memory ran out
  pub puts_came : (wall : ChineseWall) (before after : Known) (line : Result Ask BadLine)
      (ask : Ask) (it : Came) (text : List ℕ) (last receipt : Option Covered) (count : Counting)
      (r : Result Next OutOfMemory) → line ≡ Ok ask →
      CameTo stood most before ask it last receipt count after →
      IfOk r (λ next. text ≡ line_to wall it) → IfOk r (λ next. next ≡ next_after it) →
      PutsAnswer stood most wall before line text last receipt count after r
  puts_came wall before after line ask it text last receipt count (Ok nx) is came put goes =
      subst (λ (l : Result Ask BadLine). AnswersSo stood most wall before l text last receipt count
      after nx)
      (sym is)
      (subst (AnswersSo stood most wall before (Ok ask) text last receipt count after) (sym goes)
      (subst
      (λ (t : List ℕ). AnswersSo stood most wall before (Ok ask) t last receipt count after
      (next_after it))
      (sym put) (came_answers wall before after ask it last receipt count came)))
  puts_came wall before after line ask it text last receipt count (Err e) is came put goes =
      subst (λ (l : Result Ask BadLine). MayHaveCome stood before l count after) (sym is)
      (may_have before after ask it last receipt count came)

-- ---- the desk

-- nothing was read, and then nothing
pub unread_then : {S : Type 0} (fails : S → ℕ) (left : S → Option (List ℕ)) (heard : S → DeskLog)
    (a b d : S) → IsUnread fails left heard a b → IsUnread fails left heard b d →
    IsUnread fails left heard a d
unread_then fails left heard a b d p q = record {
  fails_same = q.fails_same ∙ p.fails_same;
  left_same = q.left_same ∙ p.left_same;
  reads_same = q.reads_same ∙ p.reads_same;
}

-- ---- lines so far

module _ (stood : ChineseWall → List Entry → Option Covered → Type 0) (most : Option ℕ)
    {O : Type 0} (failures : O → ℕ) (contents : O → Option (List ℕ)) where
  abbrev Between : O → O → Used O
  Between old new = used failures contents old new

  pub written_then : (a b c : O) (xs ys : List ℕ) → IsWritten (Between a b) xs →
      IsWritten (Between b c) ys → IsWritten (Between a c) (xs ++ ys)
  written_then a b c xs ys p q =
      (q.0 ∙ p.0, Appends-trans (contents a) (contents b) (contents c) xs ys p.1 q.1)

  abbrev Since : (before since : Receipts) → Showing
  Since before since = record { before = before; since = since }

  pub shows_then : (p q r : Receipts) (first later : List Shown) → Shows (Since p q) first →
      Shows (Since q r) later → Shows (Since p r) (later ++ first)
  shows_then p q r first later s t = record {
    tells = tells_then p.shown q.shown r.shown first later s.tells t.tells;
    last = t.last ∙ ap (λ (c : Option Covered). shown_last c later) s.last
        ∙ sym (last_then p.last later first);
  }

  unfoldable pub so_far_none : (wall : ChineseWall) (before : Known) (text : List Word)
      (known : Receipts) (sink : O) (k : ℕ) → wall ≡ before.door.policy →
      Legal wall before.seen →
      SoFar stood most wall before text text (Since known known) (Between sink sink)
      (counting k k) before
  so_far_none wall before text known sink k is legal = record {
    lines = [];
    told = [];
    acted = acted_none wall before text
        (subst (λ (w : ChineseWall). Legal w before.seen) is legal);
    shows = [];
    shown = record { tells = tells_none known.shown; last = refl };
    booked = refl;
    counted = none_counted k;
    written = (refl, Appends-nil (contents sink));
  }

  -- a line's answer is this text, and it is told as the session goes on
  record Telling (wall : ChineseWall) (written : Option (List ℕ)) (before : Known)
      (line : Result Ask BadLine) (text : List ℕ) (last receipt : Option Covered)
      (count : Counting) (after : Known) (next : Next) : Type 0 where
    told : Told
    says : line ≡ said_by told
    sees : SeesMore before (calls_for before.process told) after
    booked : AreBooked stood wall written before last (told ∷ [])
        (shown_next next receipt written) after
    shown : receipt ≡ shown_last last (shown_next next receipt written)
    counted : Counted (told ∷ []) count
    is : text ≡ answer wall told

  telling : (wall : ChineseWall) (written : Option (List ℕ)) (b d : Known)
      (line : Result Ask BadLine) (text : List ℕ) (last receipt : Option Covered)
      (count : Counting) →
      AnswersSo stood most wall b line text last receipt count d nexts.Replied →
      Telling wall written b line text last receipt count d nexts.Replied
  telling wall written b d line text last receipt count
      (told, (covers, comes, at, calls, counted), is) =
      let show : Shown = record { covers = covers; written = written } in record {
        told = told;
        says = comes.says;
        sees = comes.sees;
        booked = subst (λ (k : Option Covered). AreBooked stood wall written b last (told ∷ [])
            (shown_next nexts.Replied k written) d) (sym at) (
              show ∷ [],
              [],
              refl,
              refl,
              is_shown stood wall written b d told covers calls comes.so,
              told_else last b.process (calls_by b []) told calls,
            );
        shown = at ∙ sym (ap (λ (k : Option Covered). shown_last last
            (shown_next nexts.Replied k written)) at);
        counted = counted;
        is = is;
      }

  telling_uncalled : (wall : ChineseWall) (written : Option (List ℕ)) (b d : Known)
      (line : Result Ask BadLine) (text : List ℕ) (last receipt : Option Covered) (k l : ℕ) →
      AnswersSo stood most wall b line text last receipt (counting k l) d nexts.GoesOn →
      Telling wall written b line text last receipt (counting k l) d nexts.GoesOn
  telling_uncalled wall written b d line text last receipt k l (it, comes, is) = record {
    told = uncalled it;
    says = comes.says;
    sees = comes.sees;
    booked = ([], [], refl, refl, refl, comes.so);
    shown = comes.kept;
    counted = counted_uncalled it k l comes.uncounted;
    is = is;
  }

  -- one line more was told
  told_more : (wall : ChineseWall) (a b d : Known) (text later : List Word) (line : Word)
      (p q r : Receipts) (old mid : O) (k l m : ℕ) (words : List ℕ) (nx : Next) →
      (s : SoFar stood most wall a text (line ∷ later) (Since p q) (Between old mid)
      (counting k l) b) →
      (t : Telling wall (contents mid) b (said wall.dataset_names line) words q.last r.last
      (counting l m) d nx) →
      AreBooked stood wall (contents old) a p.last (t.told ∷ s.told)
      (shown_next nx r.last (contents mid) ++ s.shows) d
  told_more wall a b d text later line p q r old mid k l m words nx s t =
      booked_then stood wall (contents old) (contents mid) a b d p.last q.last s.told (t.told ∷ [])
      s.shows (shown_next nx r.last (contents mid)) s.acted.sees s.written.1 s.shown.last s.booked
      t.booked t.sees.begins

  -- and what was shown with it
  shown_more : (wall : ChineseWall) (b d : Known) (line : Result Ask BadLine) (p q r : Receipts)
      (mid : O) (l m : ℕ) (words : List ℕ) (nx : Next) (shows : List Shown) →
      Shows (Since p q) shows →
      Telling wall (contents mid) b line words q.last r.last (counting l m) d nx →
      Tells q.shown r.shown (shown_next nx r.last (contents mid)) →
      Shows (Since p r) (shown_next nx r.last (contents mid) ++ shows)
  shown_more wall b d line p q r mid l m words nx shows s t tells =
      shows_then p q r shows (shown_next nx r.last (contents mid)) s
      (record { tells = tells; last = t.shown })

  goes_told : (wall : ChineseWall) (a b d : Known) (text later : List Word) (line : Word)
      (p q r : Receipts) (old mid new : O) (k l m : ℕ) (words : List ℕ) (nx : Next) →
      SoFar stood most wall a text (line ∷ later) (Since p q) (Between old mid) (counting k l) b →
      Telling wall (contents mid) b (said wall.dataset_names line) words q.last r.last
      (counting l m) d nx → Tells q.shown r.shown (shown_next nx r.last (contents mid)) →
      IsWritten (Between mid new) words →
      SoFar stood most wall a text later (Since p r) (Between old new) (counting k m) d
  goes_told wall a b d text later line p q r old mid new k l m words nx s t shows w = record {
    lines = line ∷ s.lines;
    told = t.told ∷ s.told;
    acted = acted_more wall a b d text s.lines later line s.told t.told s.acted t.says t.sees;
    shows = shown_next nx r.last (contents mid) ++ s.shows;
    shown = shown_more wall b d (said wall.dataset_names line) p q r mid l m words nx s.shows
        s.shown t shows;
    booked = told_more wall a b d text later line p q r old mid k l m words nx s t;
    counted = counted_more t.told s.told k l m s.counted t.counted;
    written = written_then old mid new (answers wall s.told) (answer wall t.told) s.written
        (subst (IsWritten (Between mid new)) t.is w);
  }

  -- one line more was answered
  pub goes_on : (wall : ChineseWall) (a b d : Known) (text later : List Word) (line : Word)
      (p q r : Receipts) (old mid new : O) (k l m : ℕ) →
      SoFar stood most wall a text (line ∷ later) (Since p q) (Between old mid) (counting k l) b →
      WritesAnswer stood most wall b (said wall.dataset_names line) (Since q r) (Between mid new)
      (counting l m) d nexts.Replied
      ⊎ WritesAnswer stood most wall b (said wall.dataset_names line) (Since q r)
      (Between mid new) (counting l m) d nexts.GoesOn →
      SoFar stood most wall a text later (Since p r) (Between old new) (counting k m) d
  goes_on wall a b d text later line p q r old mid new k l m s (inl (words, (so, shows), w)) =
      goes_told wall a b d text later line p q r old mid new k l m words nexts.Replied s
      (telling wall (contents mid) b d (said wall.dataset_names line) words q.last r.last
      (counting l m) so) shows w
  goes_on wall a b d text later line p q r old mid new k l m s (inr (words, (so, shows), w)) =
      goes_told wall a b d text later line p q r old mid new k l m words nexts.GoesOn s
      (telling_uncalled wall (contents mid) b d (said wall.dataset_names line) words q.last r.last
      l m so) shows w

  -- memory ran out before the next line
  pub stops_here : (wall : ChineseWall) (a b : Known) (text rest : List Word) (desk : Showing)
      (sink : Used O) (count : Counting) → SoFar stood most wall a text rest desk sink count b →
      Stops stood most wall a text desk sink count b NoMemory
  stops_here wall a b text rest desk sink count s = record {
    lines = s.lines;
    rest = rest;
    told = s.told;
    untold = None;
    acted = s.acted;
    shows = s.shows;
    shown = s.shown.tells;
    booked = s.booked;
    counted = s.counted;
    stops = s.written;
  }

  -- nothing was made of the line at hand
  acted_still : (wall : ChineseWall) (a b d : Known) (text lines rest : List Word)
      (told : List Told) → Acted wall a text lines rest told b → SeesMore b [] d →
      Acted wall a text lines rest told d
  acted_still wall a b d text lines rest told s t = record {
    cut = s.cut;
    says = s.says;
    sees = sees_then a b d (made a.process told) [] s.sees t;
  }

  -- the line at hand ends the session
  left_at : (wall : ChineseWall) (a before after : Known) (line next : Word) (later : List Word)
      (told : List Told) (text : List ℕ) (last receipt : Option Covered) (count : Counting) →
      AnswersSo stood most wall before (said wall.dataset_names line) text last receipt count after
      nexts.Left →
      EndsAt stood (IsSpent most count.now) wall a (line ∷ next ∷ later) told None after Left text
  left_at wall a before after line next later told text last receipt count (says, sees, none, is) =
      ((line, next, later, Leave, refl, says, refl), is)

  late_at : (wall : ChineseWall) (a before after : Known) (line next : Word) (later : List Word)
      (told : List Told) (text : List ℕ) (last receipt : Option Covered) (count : Counting) →
      AnswersSo stood most wall before (said wall.dataset_names line) text last receipt count after
      nexts.Exhausted →
      EndsAt stood (IsSpent most count.now) wall a (line ∷ next ∷ later) told None after Exhausted
      text
  late_at wall a before after line next later told text last receipt count (late, is) =
      ((line, next, later, late.ask, refl, late.says, late.calls), late.over, is)

  -- what the line at hand came to is not told
  unbooked_at : (a b d : Known) (line : Result Ask BadLine) (next : Word) (later : List Word)
      (past : List Told) (told : Told) → SeesMore a (made a.process past) b →
      ComesTo stood b line told None d → last_call b.process told ≢ None →
      EndsUnbooked stood a (next ∷ later) past told d
  unbooked_at a b d line next later past told s comes calls = record {
    next = next;
    later = later;
    finished = refl;
    calls = λ none. calls (ap (λ (p : ℕ). last_call p told) s.same.1 ∙ none);
    unbooked = for_line stood a b d past told None s comes.so;
  }

  -- all answers were written, and a prefix of the next
  cut_more : (old mid new : O) (whole text newest : List ℕ) → IsWritten (Between old mid) whole →
      AppendsPrefix (contents mid) (contents new) text → text ≡ newest →
      IsCutIn (Between old new) whole newest
  cut_more old mid new whole text newest w f is = (
    f.0,
    f.1,
    f.2 ∙ is,
    Appends-trans (contents old) (contents mid) (contents new) whole f.0 w.1 f.3,
  )

  -- the answer to a line that is told was not written to its end
  breaks_told : (wall : ChineseWall) (a b d : Known) (text later : List Word) (line after : Word)
      (p q r : Receipts) (old mid new : O) (k l m : ℕ)
      (nx : Next) (words : List ℕ) →
      SoFar stood most wall a text (line ∷ after ∷ later) (Since p q) (Between old mid)
      (counting k l) b →
      Telling wall (contents mid) b (said wall.dataset_names line) words q.last r.last
      (counting l m) d nx → Tells q.shown r.shown (shown_next nx r.last (contents mid)) →
      BrokeOff (Between mid new) words →
      Stops stood most wall a text (Since p r) (Between old new) (counting k m) d WriteFailed
  breaks_told wall a b d text later line after p q r old mid new k l m nx words s t shows
      f = record {
        lines = line ∷ s.lines;
        rest = after ∷ later;
        told = t.told ∷ s.told;
        untold = None;
        acted = acted_more wall a b d text s.lines (after ∷ later) line s.told t.told s.acted t.says
            t.sees;
        shows = shown_next nx r.last (contents mid) ++ s.shows;
        shown = tells_then p.shown q.shown r.shown s.shows (shown_next nx r.last (contents mid))
            s.shown.tells shows;
        booked = told_more wall a b d text (after ∷ later) line p q r old mid k l m words nx s
            t;
        counted = counted_more t.told s.told k l m s.counted t.counted;
        stops = (
          f.0 ∙ ap (λ (n : ℕ). n + 1) s.written.0,
          inl (
            t.told,
            s.told,
            refl,
            refl,
            cut_more old mid new (answers wall s.told) words (answer wall t.told) s.written f.1 t.is,
          ),
        );
      }

  -- the answer to the line at hand was not written to its end
  breaks_in : (wall : ChineseWall) (a b d : Known) (text later : List Word) (line after : Word)
      (p q r : Receipts) (old mid new : O) (k l m : ℕ) (nx : Next)
      (words : List ℕ) →
      SoFar stood most wall a text (line ∷ after ∷ later) (Since p q) (Between old mid)
      (counting k l) b →
      AnswersBehind stood most wall b (said wall.dataset_names line) words (Since q r)
      (Between mid new) (counting l m) d nx → BrokeOff (Between mid new) words →
      Stops stood most wall a text (Since p r) (Between old new) (counting k m) d WriteFailed
  breaks_in wall a b d text later line after p q r old mid new k l m nexts.Replied words s
      (so, shows) f =
      breaks_told wall a b d text later line after p q r old mid new k l m nexts.Replied
      words s
      (telling wall (contents mid) b d (said wall.dataset_names line) words q.last r.last
      (counting l m) so) shows f
  breaks_in wall a b d text later line after p q r old mid new k l m nexts.GoesOn words s
      (so, shows) f =
      breaks_told wall a b d text later line after p q r old mid new k l m nexts.GoesOn
      words s
      (telling_uncalled wall (contents mid) b d (said wall.dataset_names line) words q.last r.last
      l m so)
      shows f
  breaks_in wall a b d text later line after p q r old mid new k l m nexts.Left words s
      (so, shows) f = record {
        lines = s.lines;
        rest = line ∷ after ∷ later;
        told = s.told;
        untold = None;
        acted = acted_still wall a b d text s.lines (line ∷ after ∷ later) s.told s.acted so.1;
        shows = s.shows;
        shown = tells_then p.shown q.shown r.shown s.shows [] s.shown.tells shows;
        booked = booked_on stood wall (contents old) a b d p.last s.told s.shows so.1.begins s.booked;
        counted = counted_still s.told k l m s.counted so.2;
        stops = (
          f.0 ∙ ap (λ (n : ℕ). n + 1) s.written.0,
          inr (
            Left,
            words,
            left_at wall a b d line after later s.told words q.last r.last (counting l m) so,
            cut_more old mid new (answers wall s.told) words words s.written f.1 refl,
          ),
        );
      }
  breaks_in wall a b d text later line after p q r old mid new k l m nexts.Exhausted words s
      (so, shows) f = record {
        lines = s.lines;
        rest = line ∷ after ∷ later;
        told = s.told;
        untold = None;
        acted = acted_still wall a b d text s.lines (line ∷ after ∷ later) s.told s.acted so.0.sees;
        shows = s.shows;
        shown = tells_then p.shown q.shown r.shown s.shows [] s.shown.tells shows;
        booked = booked_on stood wall (contents old) a b d p.last s.told s.shows so.0.sees.begins s.booked;
        counted = counted_still s.told k l m s.counted so.0.uncounted;
        stops = (
          f.0 ∙ ap (λ (n : ℕ). n + 1) s.written.0,
          inr (
            Exhausted,
            words,
            late_at wall a b d line after later s.told words q.last r.last (counting l m) so,
            cut_more old mid new (answers wall s.told) words words s.written f.1 refl,
          ),
        );
      }
  breaks_in wall a b d text later line after p q r old mid new k l m nexts.Unbooked words s
      (((told, comes, calls, counted), is), shows) f = record {
        lines = line ∷ s.lines;
        rest = after ∷ later;
        told = s.told;
        untold = Some told;
        acted = acted_more wall a b d text s.lines (after ∷ later) line s.told told s.acted
            comes.says comes.sees;
        shows = s.shows;
        shown = tells_then p.shown q.shown r.shown s.shows [] s.shown.tells shows;
        booked = booked_on stood wall (contents old) a b d p.last s.told s.shows comes.sees.begins s.booked;
        counted = counted_more told s.told k l m s.counted counted;
        stops = (
          f.0 ∙ ap (λ (n : ℕ). n + 1) s.written.0,
          inr (
            Unbooked,
            words,
            (
              unbooked_at a b d (said wall.dataset_names line) after later s.told told s.acted.sees
                  comes calls,
              is,
            ),
            cut_more old mid new (answers wall s.told) words words s.written f.1 refl,
          ),
        );
      }

  -- the session ends at the line at hand
  pub breaks_off : (wall : ChineseWall) (a b d : Known) (text later : List Word) (line after : Word)
      (p q r : Receipts) (old mid new : O) (k l m : ℕ) (end : SessionEnd) →
      SoFar stood most wall a text (line ∷ after ∷ later) (Since p q) (Between old mid)
      (counting k l) b →
      AnswersLine stood most {X = Unit {0}} wall b (said wall.dataset_names line) (Since q r)
      (Between mid new) (counting l m) d (Err end) →
      Stops stood most wall a text (Since p r) (Between old new) (counting k m) d end
  breaks_off wall a b d text later line after p q r old mid new k l m WriteFailed s
      (nx, words, so, f) =
      breaks_in wall a b d text later line after p q r old mid new k l m nx words s so f
  breaks_off wall a b d text later line after p q r old mid new k l m Left s
      (words, (so, shows), w) = record {
        lines = s.lines;
        rest = line ∷ after ∷ later;
        told = s.told;
        untold = None;
        acted = acted_still wall a b d text s.lines (line ∷ after ∷ later) s.told s.acted so.1;
        shows = s.shows;
        shown = tells_then p.shown q.shown r.shown s.shows [] s.shown.tells shows;
        booked = booked_on stood wall (contents old) a b d p.last s.told s.shows so.1.begins s.booked;
        counted = counted_still s.told k l m s.counted so.2;
        stops = (
          words,
          left_at wall a b d line after later s.told words q.last r.last (counting l m) so,
          written_then old mid new (answers wall s.told) words s.written w,
        );
      }
  breaks_off wall a b d text later line after p q r old mid new k l m Exhausted s
      (words, (so, shows), w) = record {
        lines = s.lines;
        rest = line ∷ after ∷ later;
        told = s.told;
        untold = None;
        acted = acted_still wall a b d text s.lines (line ∷ after ∷ later) s.told s.acted so.0.sees;
        shows = s.shows;
        shown = tells_then p.shown q.shown r.shown s.shows [] s.shown.tells shows;
        booked = booked_on stood wall (contents old) a b d p.last s.told s.shows so.0.sees.begins s.booked;
        counted = counted_still s.told k l m s.counted so.0.uncounted;
        stops = (
          words,
          late_at wall a b d line after later s.told words q.last r.last (counting l m) so,
          written_then old mid new (answers wall s.told) words s.written w,
        );
      }
  breaks_off wall a b d text later line after p q r old mid new k l m Unbooked s
      (words, (((told, comes, calls, counted), is), shows), w) = record {
        lines = line ∷ s.lines;
        rest = after ∷ later;
        told = s.told;
        untold = Some told;
        acted = acted_more wall a b d text s.lines (after ∷ later) line s.told told s.acted
            comes.says comes.sees;
        shows = s.shows;
        shown = tells_then p.shown q.shown r.shown s.shows [] s.shown.tells shows;
        booked = booked_on stood wall (contents old) a b d p.last s.told s.shows comes.sees.begins s.booked;
        counted = counted_more told s.told k l m s.counted counted;
        stops = (
          words,
          (
            unbooked_at a b d (said wall.dataset_names line) after later s.told told s.acted.sees
                comes calls,
            is,
          ),
          written_then old mid new (answers wall s.told) words s.written w,
        );
      }
  breaks_off wall a b d text later line after p q r old mid new k l m NoMemory s
      (same, none, inl (sees, none_made)) = record {
        lines = s.lines;
        rest = line ∷ after ∷ later;
        told = s.told;
        untold = None;
        acted = acted_still wall a b d text s.lines (line ∷ after ∷ later) s.told s.acted sees;
        shows = s.shows;
        shown = subst (λ (k : Option (List Shown)). Tells p.shown k s.shows) (sym none)
            s.shown.tells;
        booked = booked_on stood wall (contents old) a b d p.last s.told s.shows sees.begins s.booked;
        counted = counted_still s.told k l m s.counted none_made;
        stops = subst (λ (o : O). IsWritten (Between old o) (answers wall s.told)) (sym same) s.written;
      }
  breaks_off wall a b d text later line after p q r old mid new k l m NoMemory s
      (same, none, inr (told, booked, comes, counted)) = record {
        lines = line ∷ s.lines;
        rest = after ∷ later;
        told = s.told;
        untold = Some told;
        acted = acted_more wall a b d text s.lines (after ∷ later) line s.told told s.acted
            comes.says comes.sees;
        shows = s.shows;
        shown = subst (λ (k : Option (List Shown)). Tells p.shown k s.shows) (sym none)
            s.shown.tells;
        booked = booked_on stood wall (contents old) a b d p.last s.told s.shows comes.sees.begins s.booked;
        counted = counted_more told s.told k l m s.counted counted;
        stops = subst (λ (o : O). IsWritten (Between old o) (answers wall s.told)) (sym same)
            s.written;
      }
  breaks_off wall a b d text later line after p q r old mid new k l m ReadFailed s h = absurd h
  breaks_off wall a b d text later line after p q r old mid new k l m EndOfStream s h = absurd h

  -- ---- text by text

  -- a text was acted on, and then what it goes on with
  unfoldable pub so_far_then : (wall : ChineseWall) (a b d : Known) (bytes more : List ℕ)
      (line : Word) (rest : List Word) (p q r : Receipts) (old mid new : O)
      (k l m : ℕ) →
      SoFar stood most wall a (parts 10 bytes) (line ∷ []) (Since p q) (Between old mid)
      (counting k l) b →
      SoFar stood most wall b (behind line (parts 10 more)) rest (Since q r) (Between mid new)
      (counting l m) d →
      SoFar stood most wall a (parts 10 (bytes ++ more)) rest (Since p r) (Between old new)
      (counting k m) d
  so_far_then wall a b d bytes more line rest p q r old mid new k l m s t = record {
    lines = t.lines ++ s.lines;
    told = t.told ++ s.told;
    acted = acted_then wall a b d (behind line (parts 10 more)) (parts 10 bytes) s.lines t.lines
        (line ∷ []) rest s.told t.told s.acted t.acted (parts 10 (bytes ++ more))
        (parts_behind bytes more (reverse s.lines) line s.acted.cut);
    shows = t.shows ++ s.shows;
    shown = shows_then p q r s.shows t.shows s.shown t.shown;
    booked = booked_then stood wall (contents old) (contents mid) a b d p.last q.last s.told t.told
        s.shows t.shows s.acted.sees s.written.1 s.shown.last s.booked t.booked t.acted.sees.begins;
    counted = counted_then t.told s.told k l m s.counted t.counted;
    written = subst (IsWritten (Between old new)) (sym (answers-append wall t.told s.told))
        (written_then old mid new (answers wall s.told) (answers wall t.told) s.written t.written);
  }

  answers_then : (wall : ChineseWall) (old mid new : O) (past told : List Told) →
      IsWritten (Between old mid) (answers wall past) →
      IsWritten (Between mid new) (answers wall told) →
      IsWritten (Between old new) (answers wall (told ++ past))
  answers_then wall old mid new past told w v =
      subst (IsWritten (Between old new)) (sym (answers-append wall told past))
      (written_then old mid new (answers wall past) (answers wall told) w v)

  -- behind the answers so far, others and this text
  behind_answers : (wall : ChineseWall) (past told : List Told) (text : List ℕ) →
      answers wall past ++ (answers wall told ++ text) ≡ answers wall (told ++ past) ++ text
  behind_answers wall past told text =
      sym (append_assoc (answers wall past) (answers wall told) text)
      ∙ ap (λ l. l ++ text) (sym (answers-append wall told past))

  -- lines were told before
  ends_at_then : (spent : Type 0) (wall : ChineseWall) (a b d : Known) (rest : List Word) (past told : List Told)
      (untold : Option Told) (end : SessionEnd) (text : List ℕ) →
      SeesMore a (made a.process past) b →
      EndsAt stood spent wall b rest told untold d end text →
      EndsAt stood spent wall a rest (told ++ past) untold d end text
  ends_at_then spent wall a b d rest past told None Left text s at = at
  ends_at_then spent wall a b d rest past told None Exhausted text s at = at
  ends_at_then spent wall a b d rest past told None EndOfStream text s at = absurd at
  ends_at_then spent wall a b d rest past told None ReadFailed text s at = absurd at
  ends_at_then spent wall a b d rest past told None WriteFailed text s at = absurd at
  ends_at_then spent wall a b d rest past told None Unbooked text s at = absurd at
  ends_at_then spent wall a b d rest past told None NoMemory text s at = absurd at
  ends_at_then spent wall a b d rest past told (Some newest) Unbooked text s at =
      (unbooked_then stood a b d rest past told newest s at.0, at.1)
  ends_at_then spent wall a b d rest past told (Some newest) Left text s at = absurd at
  ends_at_then spent wall a b d rest past told (Some newest) Exhausted text s at = absurd at
  ends_at_then spent wall a b d rest past told (Some newest) EndOfStream text s at = absurd at
  ends_at_then spent wall a b d rest past told (Some newest) ReadFailed text s at = absurd at
  ends_at_then spent wall a b d rest past told (Some newest) WriteFailed text s at = absurd at
  ends_at_then spent wall a b d rest past told (Some newest) NoMemory text s at = absurd at

  says_last_then : (spent : Type 0) (wall : ChineseWall) (a b d : Known) (old mid new : O) (rest : List Word)
      (past told : List Told) (untold : Option Told) (end : SessionEnd) →
      SeesMore a (made a.process past) b → IsWritten (Between old mid) (answers wall past) →
      SaysLast stood spent wall (Between mid new) b rest told untold d end →
      SaysLast stood spent wall (Between old new) a rest (told ++ past) untold d end
  says_last_then spent wall a b d old mid new rest past told untold end s w (text, at, v) = (
    text,
    ends_at_then spent wall a b d rest past told untold end text s at,
    subst (IsWritten (Between old new)) (behind_answers wall past told text)
        (written_then old mid new (answers wall past) (answers wall told ++ text) w v),
  )

  cut_then : (wall : ChineseWall) (old mid new : O) (past told : List Told) (newest : List ℕ) →
      IsWritten (Between old mid) (answers wall past) →
      IsCutIn (Between mid new) (answers wall told) newest →
      IsCutIn (Between old new) (answers wall (told ++ past)) newest
  cut_then wall old mid new past told newest w (front, back, is, m) = (
    front,
    back,
    is,
    subst (Appends (contents old) (contents new)) (behind_answers wall past told front)
        (Appends-trans (contents old) (contents mid) (contents new) (answers wall past)
        (answers wall told ++ front) w.1 m),
  )

  breaks_off_then : (spent : Type 0) (wall : ChineseWall) (a b d : Known) (old mid new : O) (rest : List Word)
      (past told : List Told) (untold : Option Told) → SeesMore a (made a.process past) b →
      IsWritten (Between old mid) (answers wall past) →
      BreaksOff stood spent wall (Between mid new) b rest told untold d →
      BreaksOff stood spent wall (Between old new) a rest (told ++ past) untold d
  breaks_off_then spent wall a b d old mid new rest past told untold s w
      (inl (newest, before, is, none, cut)) = inl (
        newest,
        before ++ past,
        ap (λ l. l ++ past) is,
        none,
        cut_then wall old mid new past before (answer wall newest) w cut,
      )
  breaks_off_then spent wall a b d old mid new rest past told untold s w (inr (end, text, at, cut)) =
      inr (
        end,
        text,
        ends_at_then spent wall a b d rest past told untold end text s at,
        cut_then wall old mid new past told text w cut,
      )

  pub stops_so_then : (spent : Type 0) (wall : ChineseWall) (a b d : Known) (old mid new : O) (rest : List Word)
      (past told : List Told) (untold : Option Told) (end : SessionEnd) →
      SeesMore a (made a.process past) b → IsWritten (Between old mid) (answers wall past) →
      StopsSo stood spent wall (Between mid new) b rest told untold d end →
      StopsSo stood spent wall (Between old new) a rest (told ++ past) untold d end
  stops_so_then spent wall a b d old mid new rest past told untold WriteFailed s w (once, k) = (
    once ∙ ap (λ (n : ℕ). n + 1) w.0,
    breaks_off_then spent wall a b d old mid new rest past told untold s w k,
  )
  stops_so_then spent wall a b d old mid new rest past told untold Left s w l =
      says_last_then spent wall a b d old mid new rest past told untold Left s w l
  stops_so_then spent wall a b d old mid new rest past told untold Exhausted s w l =
      says_last_then spent wall a b d old mid new rest past told untold Exhausted s w l
  stops_so_then spent wall a b d old mid new rest past told untold Unbooked s w l =
      says_last_then spent wall a b d old mid new rest past told untold Unbooked s w l
  stops_so_then spent wall a b d old mid new rest past told untold NoMemory s w v =
      answers_then wall old mid new past told w v
  stops_so_then spent wall a b d old mid new rest past told untold ReadFailed s w h = absurd h
  stops_so_then spent wall a b d old mid new rest past told untold EndOfStream s w h = absurd h

  -- the text that it goes on with was not acted on to its end
  unfoldable pub stops_then : (wall : ChineseWall) (a b d : Known) (bytes more : List ℕ)
      (line : Word) (p q r : Receipts) (old mid new : O) (k l m : ℕ)
      (end : SessionEnd) →
      SoFar stood most wall a (parts 10 bytes) (line ∷ []) (Since p q) (Between old mid)
      (counting k l) b →
      Stops stood most wall b (behind line (parts 10 more)) (Since q r) (Between mid new)
      (counting l m) d end →
      Stops stood most wall a (parts 10 (bytes ++ more)) (Since p r) (Between old new)
      (counting k m) d end
  stops_then wall a b d bytes more line p q r old mid new k l m end s t = record {
    lines = t.lines ++ s.lines;
    rest = t.rest;
    told = t.told ++ s.told;
    untold = t.untold;
    acted = subst (λ (l : List Told). Acted wall a (parts 10 (bytes ++ more)) (t.lines ++ s.lines)
        t.rest l d) (untold-append t.untold t.told s.told)
        (acted_then wall a b d (behind line (parts 10 more)) (parts 10 bytes) s.lines t.lines
        (line ∷ []) t.rest s.told (and_untold t.untold t.told) s.acted t.acted
        (parts 10 (bytes ++ more)) (parts_behind bytes more (reverse s.lines) line s.acted.cut));
    shows = t.shows ++ s.shows;
    shown = tells_then p.shown q.shown r.shown s.shows t.shows s.shown.tells t.shown;
    booked = booked_then stood wall (contents old) (contents mid) a b d p.last q.last s.told t.told
        s.shows t.shows s.acted.sees s.written.1 s.shown.last s.booked t.booked t.acted.sees.begins;
    counted = counted_untold t.untold t.told s.told k l m s.counted t.counted;
    stops = stops_so_then (IsSpent most m) wall a b d old mid new t.rest s.told t.told t.untold end s.acted.sees
        s.written t.stops;
  }

-- ---- the whole session

-- a read of no bytes
pub took_none : (n : ℕ) (buffer : List ℕ) → n ≡ 0 → take n buffer ≡ []
took_none zero [] e = refl
took_none zero (x ∷ buffer) e = refl
took_none (suc n) buffer e = absurd (omega arith)

module _ (stood : ChineseWall → List Entry → Option Covered → Type 0) (most : Option ℕ)
    (base : ℕ) where
  -- the session goes on: all finished lines of what was read were answered
  pub record Going {S O : Type 0} (heard : S → DeskLog) (wall : ChineseWall)
      (source : Used S) (sink : Used O) (before : Known) (kept : Unfinished)
      (last : Option Covered) (calls : ℕ) (now : Known) : Type 0 where
    pub bytes : List ℕ
    pub read : Consumes (bytes_before source) (bytes_after source) bytes
    pub went : NeverFailed source
    pub line : Word
    pub holds : Holds kept line
    pub so_far : SoFar stood most wall before (parts 10 bytes) (line ∷ [])
        (showing heard source.old source.new None last) sink (counting base calls) now
    pub prompt : IsPrompt heard wall source sink bytes so_far.told

module _ (stood : ChineseWall → List Entry → Option Covered → Type 0) (most : Option ℕ)
    (base : ℕ) {S O : Type 0} (fails : S → ℕ) (left : S → Option (List ℕ))
    (heard : S → DeskLog) (failures : O → ℕ) (contents : O → Option (List ℕ)) where
  abbrev Reading : S → S → Used S
  Reading old new = used fails left old new

  abbrev Writing : O → O → Used O
  Writing old new = used failures contents old new

  pub going_none : (wall : ChineseWall) (before : Known) (kept : Unfinished) (source : S)
      (sink : O) → wall ≡ before.door.policy → Legal wall before.seen → Holds kept [] →
      Going stood most base heard wall (Reading source source) (Writing sink sink) before kept None
      base before
  unfolding so_far_none
  going_none wall before kept source sink is legal h = record {
    bytes = [];
    read = Consumes-nil (left source);
    went = refl;
    line = [];
    holds = h;
    so_far = so_far_none stood most failures contents wall before ([] ∷ [])
        (receipts heard source None) sink base is legal;
    prompt = prompt_none fails left heard failures contents wall source sink;
  }

  -- what was shown, where more was read since and nothing shown
  unfoldable still_shown : (wall : ChineseWall) (a b : Known) (text rest : List Word) (first mid last : S)
      (c : Option Covered) (sink : Used O) (count : Counting) →
      (heard last).shows ≡ (heard mid).shows →
      SoFar stood most wall a text rest (showing heard first mid None c) sink count b →
      SoFar stood most wall a text rest (showing heard first last None c) sink count b
  still_shown wall a b text rest first mid last c sink count same s = record {
    lines = s.lines;
    told = s.told;
    acted = s.acted;
    shows = s.shows;
    shown = record {
      tells = subst (λ (k : Option (List Shown)). Tells (heard first).shows k s.shows) (sym same)
          s.shown.tells;
      last = s.shown.last;
    };
    booked = s.booked;
    counted = s.counted;
    written = s.written;
  }

  -- more was read and acted on
  pub going_on : (wall : ChineseWall) (a b d : Known) (kept now : Unfinished)
      (first mid last far : S) (old out new : O) (c e : Option Covered) (l m : ℕ)
      (more : List ℕ) →
      (g : Going stood most base heard wall (Reading first mid) (Writing old out) a kept c l b) →
      fails last ≡ fails mid → Consumes (left mid) (left last) more →
      Tells (heard mid).reads (heard last).reads
      (record { bytes = more; written = contents out } ∷ []) →
      (heard last).shows ≡ (heard mid).shows → IsUnread fails left heard last far →
      (line : Word) → Holds now line →
      SoFar stood most wall b (behind g.line (parts 10 more)) (line ∷ [])
      (showing heard last far c e) (Writing out new) (counting l m) d →
      Going stood most base heard wall (Reading first far) (Writing old new) a now e m d
  unfolding so_far_then still_shown
  going_on wall a b d kept now first mid last far old out new c e l m more g went read tells same
      unread line h s = record {
        bytes = g.bytes ++ more;
        read = subst (λ (k : Option (List ℕ)). Consumes (left first) k (g.bytes ++ more))
            (sym unread.left_same)
            (Consumes-trans (left first) (left mid) (left last) g.bytes more g.read read);
        went = unread.fails_same ∙ went ∙ g.went;
        line = line;
        holds = h;
        so_far = so_far_then stood most failures contents wall a b d g.bytes more g.line (line ∷ [])
            (receipts heard first None) (receipts heard last c) (receipts heard far e) old out new base
            l m (still_shown wall a b (parts 10 g.bytes) (g.line ∷ []) first mid last c
            (Writing old out) (counting base l) same g.so_far) s;
        prompt = prompt_unread fails left heard failures contents wall first last far old new
            (g.bytes ++ more) (s.told ++ g.so_far.told) unread.reads_same
            (prompt_more stood most fails left heard failures contents wall a b first mid last old out
            new g.bytes more g.line (showing heard first mid None c) (counting base l) g.so_far g.prompt
            tells s.told);
      }

  pub served_to_end : (wall : ChineseWall) (a b : Known) (kept : Unfinished) (first mid last : S)
      (old new : O) (c : Option Covered) (calls : ℕ) (more : List ℕ) → more ≡ [] →
      Going stood most base heard wall (Reading first mid) (Writing old new) a kept c calls b →
      IsWithin most calls →
      fails last ≡ fails mid → Consumes (left mid) (left last) more → IsAtEnd (left last) →
      Tells (heard mid).reads (heard last).reads
      (record { bytes = more; written = contents new } ∷ []) →
      (heard last).shows ≡ (heard mid).shows →
      Serves stood most base heard wall (Reading first last) (Writing old new) a b
      (record { end = EndOfStream; calls = calls })
  unfolding still_shown
  served_to_end wall a b kept first mid last old new c calls more none g within went read end tells
      same =
      let all = ap (λ l. g.bytes ++ l) none ∙ append-nil g.bytes in
      let s = still_shown wall a b (parts 10 g.bytes) (g.line ∷ []) first mid last c
      (Writing old new) (counting base calls) same g.so_far in record {
        bytes = g.bytes;
        read = subst (Consumes (left first) (left last)) all
            (Consumes-trans (left first) (left mid) (left last) g.bytes more g.read read);
        lines = g.so_far.lines;
        rest = g.line ∷ [];
        told = g.so_far.told;
        untold = None;
        acted = g.so_far.acted;
        shows = s.shows;
        shown = s.shown.tells;
        booked = s.booked;
        prompt = subst (λ (l : List ℕ). IsPrompt heard wall (Reading first last) (Writing old new) l
            g.so_far.told) all
            (prompt_more stood most fails left heard failures contents wall a b first mid last old new
            new g.bytes more g.line (showing heard first mid None c) (counting base calls) g.so_far
            g.prompt tells []);
        counted = counted_all g.so_far.told base calls g.so_far.counted;
        within = within;
        ends = (went ∙ g.went, end, refl, refl, g.so_far.written);
      }

  pub served_till_fault : (wall : ChineseWall) (a b : Known) (kept : Unfinished)
      (first mid last : S) (old new : O) (c : Option Covered) (calls : ℕ) →
      Going stood most base heard wall (Reading first mid) (Writing old new) a kept c calls b →
      IsWithin most calls →
      fails last ≡ fails mid + 1 → Keeps (left mid) (left last) →
      Tells (heard mid).reads (heard last).reads [] → (heard last).shows ≡ (heard mid).shows →
      Serves stood most base heard wall (Reading first last) (Writing old new) a b
      (record { end = ReadFailed; calls = calls })
  unfolding still_shown
  served_till_fault wall a b kept first mid last old new c calls g within once keeps tells same = record {
    bytes = g.bytes;
    read = Consumes-kept (left first) (left mid) (left last) g.bytes g.read keeps;
    lines = g.so_far.lines;
    rest = g.line ∷ [];
    told = g.so_far.told;
    untold = None;
    acted = g.so_far.acted;
    shows = g.so_far.shows;
    shown = (still_shown wall a b (parts 10 g.bytes) (g.line ∷ []) first mid last c
        (Writing old new) (counting base calls) same g.so_far).shown.tells;
    booked = g.so_far.booked;
    prompt = prompt_still fails left heard failures contents wall first mid last old new g.bytes
        g.so_far.told g.prompt tells;
    counted = counted_all g.so_far.told base calls g.so_far.counted;
    within = within;
    ends = (once ∙ ap (λ (n : ℕ). n + 1) g.went, refl, refl, g.so_far.written);
  }

  ends_so : (spent : Type 0) (wall : ChineseWall) (first last : S) (old new : O) (before : Known)
      (rest : List Word) (told : List Told) (untold : Option Told) (after : Known)
      (end : SessionEnd) → fails last ≡ fails first →
      StopsSo stood spent wall (Writing old new) before rest told untold after end →
      EndsSo stood spent wall (Reading first last) (Writing old new) before rest told untold after end
  ends_so spent wall first last old new before rest told untold after WriteFailed went (once, b) =
      (went, once, b)
  ends_so spent wall first last old new before rest told untold after Left went l = (went, l)
  ends_so spent wall first last old new before rest told untold after Exhausted went l = (went, l)
  ends_so spent wall first last old new before rest told untold after Unbooked went l = (went, l)
  ends_so spent wall first last old new before rest told untold after NoMemory went v = (went, v)
  ends_so spent wall first last old new before rest told untold after ReadFailed went h = absurd h
  ends_so spent wall first last old new before rest told untold after EndOfStream went h = absurd h

  pub served_till_stop : (wall : ChineseWall) (a b d : Known) (kept : Unfinished)
      (first mid last far : S) (old out new : O) (c e : Option Covered) (l m : ℕ)
      (more : List ℕ) (end : SessionEnd) →
      (g : Going stood most base heard wall (Reading first mid) (Writing old out) a kept c l b) →
      IsWithin most m →
      fails last ≡ fails mid → Consumes (left mid) (left last) more →
      Tells (heard mid).reads (heard last).reads
      (record { bytes = more; written = contents out } ∷ []) →
      (heard last).shows ≡ (heard mid).shows → IsUnread fails left heard last far →
      Stops stood most wall b (behind g.line (parts 10 more)) (showing heard last far c e)
      (Writing out new) (counting l m) d end →
      Serves stood most base heard wall (Reading first far) (Writing old new) a d
      (record { end = end; calls = m })
  unfolding stops_then still_shown
  served_till_stop wall a b d kept first mid last far old out new c e l m more end g within went
      read tells same unread stops =
      let s = stops_then stood most failures contents wall a b d g.bytes more g.line
      (receipts heard first None) (receipts heard last c) (receipts heard far e) old out new base l m
      end (still_shown wall a b (parts 10 g.bytes) (g.line ∷ []) first mid last c (Writing old out)
      (counting base l) same g.so_far) stops in record {
        bytes = g.bytes ++ more;
        read = subst (λ (k : Option (List ℕ)). Consumes (left first) k (g.bytes ++ more))
            (sym unread.left_same)
            (Consumes-trans (left first) (left mid) (left last) g.bytes more g.read read);
        lines = s.lines;
        rest = s.rest;
        told = s.told;
        untold = s.untold;
        acted = s.acted;
        shows = s.shows;
        shown = s.shown;
        booked = s.booked;
        prompt = prompt_unread fails left heard failures contents wall first last far old new
            (g.bytes ++ more) s.told unread.reads_same
            (prompt_more stood most fails left heard failures contents wall a b first mid last old
            out new g.bytes more g.line (showing heard first mid None c) (counting base l) g.so_far
            g.prompt tells stops.told);
        counted = counted_all (and_untold s.untold s.told) base m s.counted;
        within = within;
        ends = ends_so (IsSpent most m) wall first far old new a s.rest s.told s.untold d end
            (unread.fails_same ∙ went ∙ g.went) s.stops;
      }

  -- memory ran out before the first read
  pub served_nothing : (wall : ChineseWall) (before : Known) (source : S) (sink : O) →
      wall ≡ before.door.policy → Legal wall before.seen → IsWithin most base →
      Serves stood most base heard wall (Reading source source) (Writing sink sink) before before
      (record { end = NoMemory; calls = base })
  served_nothing wall before source sink is legal within = record {
    bytes = [];
    read = Consumes-nil (left source);
    lines = [];
    rest = [] ∷ [];
    told = [];
    untold = None;
    acted = acted_none wall before ([] ∷ [])
        (subst (λ (w : ChineseWall). Legal w before.seen) is legal);
    shows = [];
    shown = tells_none (heard source).shows;
    booked = refl;
    prompt = prompt_none fails left heard failures contents wall source sink;
    counted = omega arith;
    within = within;
    ends = (refl, (refl, Appends-nil (contents sink)));
  }
