-- How a session goes on line by line: words of private contracts.
use Rattle.std.specs.Prelude.{◌≡◌, ◌≢◌, ◌⊎◌, ℕ, ◌^◌, ◌<◌, ◌≤◌, true, false, List, [], ◌∷◌}
use Rattle.std.specs.Prelude.{◌++◌, ◌+◌, suc, length, Option, Some, None, Result, Ok, Err, IsOk}
use Rattle.run_model.specs.Runs.{Entry}
use Rattle.wall_labels.specs.declared.no_memory.NoMemory.{NoMemory as OutOfMemory}
use Rattle.wall_policy.specs.Policy.{ChineseWall}
use Rattle.coll_text.specs.Numbers.{Word}
use Rattle.run_model.specs.declared.reply.Reply.{Reply}
use Rattle.run_model.specs.Known.{IsKnownReply}
use Rattle.hall_script.specs.declared.ask.Ask.{Ask}
use Rattle.hall_script.specs.declared.ask.Ask.TheVariants.{Wait, Leave}
use Rattle.hall_script.specs.Devices.{Used, bytes_before, IsUntouched, FailedOnce, IsWritten}
use Rattle.hall_script.specs.Devices.{BrokeOff}
use Rattle.hall_script.specs.Replies.{reply_line}
use Rattle.hall_turn.specs.declared.answer.Answer.{Answer}
use Rattle.hall_turn.specs.declared.answer.Answer.TheVariants.{Reply as Replied, Exhausted as Late}
use Rattle.hall_turn.specs.Receipts.{Covered}
use Rattle.hall_turn.specs.Runs.{calls_of}
use Rattle.hall_turn.specs.Known.{Known}
use Rattle.live_session.specs.declared.line.BadLine.{BadLine}
use Rattle.live_session.specs.declared.line.Unfinished.{Unfinished}
use Rattle.live_session.specs.declared.ending.SessionEnd.{SessionEnd}
use Rattle.live_session.specs.declared.ending.SessionEnd.TheVariants.{EndOfStream, Left}
use Rattle.live_session.specs.declared.ending.SessionEnd.TheVariants.{ReadFailed, WriteFailed}
use Rattle.live_session.specs.declared.ending.SessionEnd.TheVariants.{Exhausted, Unbooked}
use Rattle.live_session.specs.declared.ending.SessionEnd.TheVariants.{NoMemory}
use Rattle.live_session.specs.declared.acting.Came.{Came}
use Rattle.live_session.specs.declared.acting.Came.TheVariants as cames
use Rattle.live_session.specs.declared.answer.Next.{Next}
use Rattle.live_session.specs.declared.answer.Next.TheVariants as nexts
use Rattle.live_session.specs.Lines.{line_limit, left_line, exhausted_line, unbooked_line}
use Rattle.live_session.specs.Sessions.{Uncalled, its_head, its_number, its_open, its_next, asked_by}
use Rattle.live_session.specs.Sessions.{uncalled_line, IsSo}
use Rattle.live_session.specs.Sessions.{Told, done, waited, uncalled, said_by}
use Rattle.live_session.specs.Sessions.{calls_for, AsksForCall, shown_last}
use Rattle.live_session.specs.Sessions.{answer, answers, SeesMore, Acted, and_untold, last_call}
use Rattle.live_session.specs.Hearing.{DeskLog, Shown, Tells}
use Rattle.live_session.specs.Sessions.{StoodFor, AreBooked, SaysLast, BreaksOff}
use Rattle.live_session.specs.Sessions.{calls_in, IsWithin, IsSpent}

-- ---- the line that is not finished

-- what is kept of the line so far: its bytes, or that they are above the limit
pub record Holds (kept : Unfinished) (line : List ℕ) : Type 0 where
  pub short : kept.is_long ≡ false → (kept.bytes.items ≡ line) × (length line ≤ line_limit)
  pub long : kept.is_long ≡ true → line_limit < length line

-- the parts of a text that goes on behind this line
abbrev pub behind : (line : Word) → List Word → List Word
behind line [] = line ∷ []
behind line (part ∷ later) = (line ++ part) ∷ later

-- what was read is what the line says; memory runs out only where it asks for something
abbrev pub Reads : Result Ask BadLine → Result (Result Ask BadLine) OutOfMemory → Type 0
Reads line (Ok read) = line ≡ read
Reads line (Err error) = IsOk line

-- ---- the desk

-- the receipts that a desk was shown, as far as it tells, and what the last one covers, if there was
-- one
pub record Receipts : Type 0 where
  pub shown : Option (List Shown)
  pub last : Option Covered

-- those before, and those by now
pub record Showing : Type 0 where
  pub before : Receipts
  pub since : Receipts

-- those of this desk
abbrev pub receipts : {S : Type 0} → (S → DeskLog) → S → (last : Option Covered) → Receipts
receipts heard desk last = record { shown = (heard desk).shows; last = last }

abbrev pub showing : {S : Type 0} → (S → DeskLog) → (old new : S) → (before now : Option Covered)
    → Showing
showing heard old new before now =
    record { before = receipts heard old before; since = receipts heard new now }

-- since then these were shown
pub record Shows (desk : Showing) (shows : List Shown) : Type 0 where
  pub tells : Tells desk.before.shown desk.since.shown shows
  pub last : desk.since.last ≡ shown_last desk.before.last shows

-- nothing was read
pub record IsUnread {S : Type 0} (fails : S → ℕ) (left : S → Option (List ℕ))
    (heard : S → DeskLog) (old new : S) : Type 0 where
  pub fails_same : fails new ≡ fails old
  pub left_same : left new ≡ left old
  pub reads_same : (heard new).reads ≡ (heard old).reads

-- what is shown before the session goes on so: the receipt of the call to which a reply comes next
abbrev pub shown_next : Next → (receipt : Option Covered) → (written : Option (List ℕ)) → List Shown
shown_next nexts.Replied (Some covers) written = record { covers = covers; written = written } ∷ []
shown_next nexts.Replied None written = []
shown_next nexts.GoesOn receipt written = []
shown_next nexts.Left receipt written = []
shown_next nexts.Exhausted receipt written = []
shown_next nexts.Unbooked receipt written = []

-- ---- the count

-- how many calls a session had made before, and how many by now
pub record Counting : Type 0 where
  pub before : ℕ
  pub now : ℕ

abbrev pub counting : (before now : ℕ) → Counting
counting before now = record { before = before; now = now }

-- the calls of these lines were counted
abbrev pub Counted : List Told → Counting → Type 0
Counted told count = count.now ≡ calls_in told + count.before

-- no call was
abbrev pub IsUncounted : Counting → Type 0
IsUncounted count = count.now ≡ count.before

-- the calls after one that was answered so
abbrev pub calls_after : Answer → ℕ → ℕ
calls_after (Replied reply) calls = suc calls
calls_after Late calls = calls

-- So many calls are no more than a session may make, and each of them is one of the process's in
-- what its pass has seen.
pub record Counts (most : Option ℕ) (calls : ℕ) (pass : Known) : Type 0 where
  pub within : IsWithin most calls
  pub seen : calls ≤ length (calls_of pass.process pass.seen)

-- no call is made any more: the session has made as many as it may, or the door is too late
abbrev pub IsOver : (most : Option ℕ) → (calls : ℕ) → (seen : List Entry) → Type 0
IsOver most calls seen = IsSpent most calls ⊎ (2 ^ 62 ≤ length seen)

-- ---- one line

-- the line asks for a call, which is not made
pub record ComesTooLate (most : Option ℕ) (before : Known) (line : Result Ask BadLine)
    (count : Counting) (after : Known) : Type 0 where
  pub ask : Ask
  pub says : line ≡ Ok ask
  pub calls : AsksForCall ask
  pub sees : SeesMore before [] after
  pub uncounted : IsUncounted count
  pub over : IsOver most count.now after.seen

-- the reply that the line got, if it asks for one
abbrev pub reply_to : Told → Option Reply
reply_to (done act reply) = Some reply
reply_to (waited request again reply) = Some reply
reply_to (uncalled it) = None

-- what a line came to whose last call was answered so, with the machine booked or not
abbrev pub came_of : Answer → (booked : Option Covered) → Came
came_of (Replied reply) (Some covers) = cames.Reply reply
came_of (Replied reply) None = cames.Unbooked
came_of Late booked = cames.Exhausted

abbrev pub CameNamesKnown : ChineseWall → Came → Type 0
CameNamesKnown wall (cames.Reply reply) = IsKnownReply wall reply
CameNamesKnown wall (cames.Head head) = Unit {0}
CameNamesKnown wall (cames.Pong number) = Unit {0}
CameNamesKnown wall (cames.Open requests) = Unit {0}
CameNamesKnown wall (cames.Next request) = Unit {0}
CameNamesKnown wall cames.Left = Unit {0}
CameNamesKnown wall cames.Exhausted = Unit {0}
CameNamesKnown wall cames.Unbooked = Unit {0}

-- the line that answers what came of it
abbrev pub line_to : ChineseWall → Came → List ℕ
line_to wall (cames.Reply reply) = reply_line wall reply
line_to wall (cames.Head head) = uncalled_line (its_head head)
line_to wall (cames.Pong number) = uncalled_line (its_number number)
line_to wall (cames.Open requests) = uncalled_line (its_open requests.items)
line_to wall (cames.Next request) = uncalled_line (its_next request)
line_to wall cames.Left = left_line
line_to wall cames.Exhausted = exhausted_line
line_to wall cames.Unbooked = unbooked_line

-- how the session goes on after that
abbrev pub next_after : Came → Next
next_after (cames.Reply reply) = nexts.Replied
next_after (cames.Head head) = nexts.GoesOn
next_after (cames.Pong number) = nexts.GoesOn
next_after (cames.Open requests) = nexts.GoesOn
next_after (cames.Next request) = nexts.GoesOn
next_after cames.Left = nexts.Left
next_after cames.Exhausted = nexts.Exhausted
next_after cames.Unbooked = nexts.Unbooked

module _ (stood : ChineseWall → List Entry → Option Covered → Type 0) where
  -- the line was acted on, and came to this, behind which the machine was booked or not
  pub record ComesTo (before : Known) (line : Result Ask BadLine) (told : Told)
      (booked : Option Covered) (after : Known) : Type 0 where
    pub says : line ≡ said_by told
    pub sees : SeesMore before (calls_for before.process told) after
    pub so : StoodFor stood before told (calls_for before.process told) booked after

  -- nothing was made of the line, or it came to something
  abbrev pub MayHaveCome : (before : Known) → Result Ask BadLine → Counting → (after : Known) →
      Type 0
  MayHaveCome before line count after = (SeesMore before [] after × IsUncounted count)
      ⊎ ((told : Told) × (booked : Option Covered) × ComesTo before line told booked after
      × Counted (told ∷ []) count)

  -- the line came to something that is not told
  abbrev pub ComesUnbooked : (before : Known) → Result Ask BadLine → Counting → (after : Known) →
      Type 0
  ComesUnbooked before line count after = (told : Told) × ComesTo before line told None after
      × (last_call before.process told ≢ None) × Counted (told ∷ []) count

  -- the line came to something that is told, with this receipt of its last call
  abbrev pub ComesBooked : (before : Known) → Result Ask BadLine → Told →
      (receipt : Option Covered) → Counting → (after : Known) → Type 0
  ComesBooked before line told receipt count after = (covers : Covered)
      × ComesTo before line told (Some covers) after × (receipt ≡ Some covers)
      × (last_call before.process told ≢ None) × Counted (told ∷ []) count

  -- the request was taken again and again, all takes but the last answered Pending, and this is the
  -- answer to the last, behind which the machine gave this receipt, if it was booked; the door was
  -- too late at the first take alone
  abbrev pub Waited : (before : Known) → (request : ℕ) → Answer → (receipt : Option Covered) →
      (after : Known) → Type 0
  Waited before request (Replied reply) receipt after = (again : ℕ)
      × ComesTo before (Ok (Wait request)) (waited request again reply) receipt after
  Waited before request Late receipt after = SeesMore before [] after × (2 ^ 62 ≤ length after.seen)

-- no call was made for the line, and this is told, which is so
pub record ComesUncalled (before : Known) (line : Result Ask BadLine) (it : Uncalled)
    (last receipt : Option Covered) (count : Counting) (after : Known) : Type 0 where
  pub says : line ≡ asked_by it
  pub so : IsSo last before.process (calls_of before.process before.seen) it
  pub sees : SeesMore before [] after
  pub uncounted : IsUncounted count
  pub kept : receipt ≡ last

module _ (stood : ChineseWall → List Entry → Option Covered → Type 0) (most : Option ℕ) where
  -- what a line came to that asks for something; `last` is what the last receipt covered before
  abbrev pub CameTo : (before : Known) → Ask → Came → (last receipt : Option Covered) →
      Counting → (after : Known) → Type 0
  CameTo before ask (cames.Reply reply) last receipt count after = (told : Told)
      × ComesBooked stood before (Ok ask) told receipt count after × (reply_to told ≡ Some reply)
  CameTo before ask (cames.Head head) last receipt count after =
      ComesUncalled before (Ok ask) (its_head head) last receipt count after
  CameTo before ask (cames.Pong number) last receipt count after =
      ComesUncalled before (Ok ask) (its_number number) last receipt count after
  CameTo before ask (cames.Open requests) last receipt count after =
      ComesUncalled before (Ok ask) (its_open requests.items) last receipt count after
  CameTo before ask (cames.Next request) last receipt count after =
      ComesUncalled before (Ok ask) (its_next request) last receipt count after
  CameTo before ask cames.Left last receipt count after =
      (ask ≡ Leave) × SeesMore before [] after × IsUncounted count
  CameTo before ask cames.Exhausted last receipt count after =
      ComesTooLate most before (Ok ask) count after
  CameTo before ask cames.Unbooked last receipt count after =
      ComesUnbooked stood before (Ok ask) count after

  -- the text answers the line, and the session goes on so
  abbrev pub AnswersSo : ChineseWall → (before : Known) → Result Ask BadLine → (text : List ℕ) →
      (last receipt : Option Covered) → Counting → (after : Known) → Next → Type 0
  AnswersSo wall before line text last receipt count after nexts.Replied = (told : Told)
      × ComesBooked stood before line told receipt count after × (text ≡ answer wall told)
  AnswersSo wall before line text last receipt count after nexts.GoesOn = (it : Uncalled)
      × ComesUncalled before line it last receipt count after × (text ≡ uncalled_line it)
  AnswersSo wall before line text last receipt count after nexts.Left =
      (line ≡ Ok Leave) × SeesMore before [] after × IsUncounted count × (text ≡ left_line)
  AnswersSo wall before line text last receipt count after nexts.Exhausted =
      ComesTooLate most before line count after × (text ≡ exhausted_line)
  AnswersSo wall before line text last receipt count after nexts.Unbooked =
      ComesUnbooked stood before line count after × (text ≡ unbooked_line)

  -- the line was acted on and its answer is the text; or memory ran out
  abbrev pub PutsAnswer : ChineseWall → (before : Known) → Result Ask BadLine → (text : List ℕ) →
      (last receipt : Option Covered) → Counting → (after : Known) → Result Next OutOfMemory →
      Type 0
  PutsAnswer wall before line text last receipt count after (Ok next) =
      AnswersSo wall before line text last receipt count after next
  PutsAnswer wall before line text last receipt count after (Err error) =
      MayHaveCome stood before line count after

  -- the text answers the line, and the desk was shown what is due before
  abbrev pub AnswersBehind : {O : Type 0} → ChineseWall → (before : Known) → Result Ask BadLine →
      (text : List ℕ) → (desk : Showing) → Used O → Counting → (after : Known) → Next → Type 0
  AnswersBehind wall before line text desk sink count after next =
      AnswersSo wall before line text desk.before.last desk.since.last count after next
      × Tells desk.before.shown desk.since.shown
      (shown_next next desk.since.last (bytes_before sink))

  -- the line's answer was written, after which the session goes on so
  abbrev pub WritesAnswer : {O : Type 0} → ChineseWall → (before : Known) → Result Ask BadLine →
      (desk : Showing) → Used O → Counting → (after : Known) → Next → Type 0
  WritesAnswer wall before line desk sink count after next = (text : List ℕ)
      × AnswersBehind wall before line text desk sink count after next × IsWritten sink text

  -- the line was acted on and its answer was written; or why the session ends
  abbrev pub AnswersLine : {X O : Type 0} → ChineseWall → (before : Known) →
      Result Ask BadLine → (desk : Showing) → Used O → Counting → (after : Known) →
      Result X SessionEnd → Type 0
  AnswersLine wall before line desk sink count after (Ok x) =
      WritesAnswer wall before line desk sink count after nexts.Replied
      ⊎ WritesAnswer wall before line desk sink count after nexts.GoesOn
  AnswersLine wall before line desk sink count after (Err Left) =
      WritesAnswer wall before line desk sink count after nexts.Left
  AnswersLine wall before line desk sink count after (Err Exhausted) =
      WritesAnswer wall before line desk sink count after nexts.Exhausted
  AnswersLine wall before line desk sink count after (Err Unbooked) =
      WritesAnswer wall before line desk sink count after nexts.Unbooked
  AnswersLine wall before line desk sink count after (Err WriteFailed) = (next : Next)
      × (text : List ℕ) × AnswersBehind wall before line text desk sink count after next
      × BrokeOff sink text
  AnswersLine wall before line desk sink count after (Err NoMemory) = IsUntouched sink
      × (desk.since.shown ≡ desk.before.shown) × MayHaveCome stood before line count after
  AnswersLine wall before line desk sink count after (Err ReadFailed) = ⊥
  AnswersLine wall before line desk sink count after (Err EndOfStream) = ⊥

  -- ---- lines so far

  -- the lines of the text so far were acted on, and all answers written
  pub record SoFar {O : Type 0} (wall : ChineseWall) (before : Known) (text rest : List Word)
      (desk : Showing) (sink : Used O) (count : Counting) (now : Known) : Type 0 where
    pub lines : List Word
    pub told : List Told
    pub acted : Acted wall before text lines rest told now
    pub shows : List Shown
    pub shown : Shows desk shows
    pub booked : AreBooked stood wall (bytes_before sink) before desk.before.last told shows now
    pub counted : Counted told count
    pub written : IsWritten sink (answers wall told)

-- why no further line is acted on
module _ (stood : ChineseWall → List Entry → Option Covered → Type 0) (spent : Type 0) where
  abbrev pub StopsSo : {O : Type 0} → ChineseWall → Used O → (before : Known) →
      (rest : List Word) → List Told → (untold : Option Told) → (after : Known) → SessionEnd →
      Type 0
  StopsSo wall sink before rest told untold after Left =
      SaysLast stood spent wall sink before rest told untold after Left
  StopsSo wall sink before rest told untold after Exhausted =
      SaysLast stood spent wall sink before rest told untold after Exhausted
  StopsSo wall sink before rest told untold after Unbooked =
      SaysLast stood spent wall sink before rest told untold after Unbooked
  StopsSo wall sink before rest told untold after WriteFailed =
      FailedOnce sink × BreaksOff stood spent wall sink before rest told untold after
  StopsSo wall sink before rest told untold after NoMemory = IsWritten sink (answers wall told)
  StopsSo wall sink before rest told untold after ReadFailed = ⊥
  StopsSo wall sink before rest told untold after EndOfStream = ⊥

module _ (stood : ChineseWall → List Entry → Option Covered → Type 0) (most : Option ℕ) where
  pub record Stops {O : Type 0} (wall : ChineseWall) (before : Known) (text : List Word)
      (desk : Showing) (sink : Used O) (count : Counting) (after : Known) (end : SessionEnd)
      : Type 0 where
    pub lines : List Word
    pub rest : List Word
    pub told : List Told
    pub untold : Option Told
    pub acted : Acted wall before text lines rest (and_untold untold told) after
    pub shows : List Shown
    pub shown : Tells desk.before.shown desk.since.shown shows
    pub booked : AreBooked stood wall (bytes_before sink) before desk.before.last told shows after
    pub counted : Counted (and_untold untold told) count
    pub stops : StopsSo stood (IsSpent most count.now) wall sink before rest told untold after end

  -- all finished lines of the text were acted on, and the rest is kept; or why not
  abbrev pub TakesIn : {X O : Type 0} → ChineseWall → (before : Known) → (text : List Word) →
      (kept : Unfinished) → (desk : Showing) → Used O → Counting → (after : Known) →
      Result X SessionEnd → Type 0
  TakesIn wall before text kept desk sink count after (Ok x) = (line : Word) × Holds kept line
      × SoFar stood most wall before text (line ∷ []) desk sink count after
  TakesIn wall before text kept desk sink count after (Err end) =
      Stops wall before text desk sink count after end
