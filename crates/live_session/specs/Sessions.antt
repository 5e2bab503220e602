-- What a session of a process comes to. (Own rules.) Lines, what they came to, and runs have the
-- newest first.
use Rattle.std.specs.Prelude.{◌≡◌, ◌≢◌, ◌⊎◌, ℕ, ◌^◌, ◌≤◌, List, [], ◌∷◌, ◌++◌, ◌+◌, length, map}
use Rattle.std.specs.Prelude.{reverse, replicate, Option, Some, None, Result, Ok}
use Rattle.std.specs.Prelude.{Err}
use Rattle.std.specs.Io.KnownBytes.{Appends, Consumes, IsAtEnd}
use Rattle.wall_policy.specs.Policy.{ChineseWall}
use Rattle.coll_text.specs.Numbers.{Word}
use Rattle.coll_text.specs.Reading.{parts}
use Rattle.run_model.specs.declared.call.Act.{Act}
use Rattle.run_model.specs.declared.call.Act.TheVariants.{Take}
use Rattle.run_model.specs.declared.reply.Reply.{Reply}
use Rattle.run_model.specs.declared.reply.Reply.TheVariants.{Pending}
use Rattle.run_model.specs.Runs.{Entry, entry}
use Rattle.run_model.specs.Replies.{Legal}
use Rattle.hall_script.specs.declared.ask.Ask.{Ask}
use Rattle.hall_script.specs.declared.ask.Ask.TheVariants.{Act as ToAct, Wait, Head as AskHead}
use Rattle.hall_script.specs.declared.ask.Ask.TheVariants.{Ping, Open, Next, Leave}
use Rattle.hall_script.specs.Devices.{Used, bytes_before, bytes_after, NeverFailed, FailedOnce}
use Rattle.hall_script.specs.Devices.{IsWritten}
use Rattle.hall_script.specs.Replies.{reply_line}
use Rattle.hall_turn.specs.Runs.{Continues, calls_of}
use Rattle.hall_turn.specs.declared.head.Head.{Head}
use Rattle.hall_turn.specs.Receipts.{Covered, IsHeadAt}
use Rattle.hall_turn.specs.Known.{Known}
use Rattle.hall_turn.specs.Answers.{IsSamePass}
use Rattle.live_session.specs.declared.line.BadLine.{BadLine}
use Rattle.live_session.specs.declared.ending.Closing.{Closing}
use Rattle.live_session.specs.declared.ending.SessionEnd.{SessionEnd}
use Rattle.live_session.specs.declared.ending.SessionEnd.TheVariants.{EndOfStream, Left}
use Rattle.live_session.specs.declared.ending.SessionEnd.TheVariants.{ReadFailed, WriteFailed}
use Rattle.live_session.specs.declared.ending.SessionEnd.TheVariants.{Exhausted, Unbooked}
use Rattle.live_session.specs.declared.ending.SessionEnd.TheVariants.{NoMemory}
use Rattle.live_session.specs.Lines.{said, bad_line, head_line, ping_line, open_line, next_line}
use Rattle.live_session.specs.Lines.{left_line, exhausted_line, unbooked_line}
use Rattle.live_session.specs.Requests.{given_by, open_by}
use Rattle.live_session.specs.Hearing.{DeskLog, Heard, Shown, Tells, text_of}

-- ---- lines and their answers

-- What a line was told for which no call was made: the head of the book, the number that it gave,
-- which requests of the process are open, which number its next one gets, or why it asks for nothing.
pub data Uncalled : Type 0 where
  its_head : (head : Option Head) → Uncalled
  its_number : (number : ℕ) → Uncalled
  its_open : (requests : List ℕ) → Uncalled
  its_next : (request : ℕ) → Uncalled
  its_fault : (bad : BadLine) → Uncalled

-- what the line says that was told this
abbrev pub asked_by : Uncalled → Result Ask BadLine
asked_by (its_head head) = Ok AskHead
asked_by (its_number number) = Ok (Ping number)
asked_by (its_open requests) = Ok Open
asked_by (its_next request) = Ok Next
asked_by (its_fault bad) = Err bad

-- the line that tells it
abbrev pub uncalled_line : Uncalled → List ℕ
uncalled_line (its_head head) = head_line head
uncalled_line (its_number number) = ping_line number
uncalled_line (its_open requests) = open_line requests
uncalled_line (its_next request) = next_line request
uncalled_line (its_fault bad) = bad_line bad

-- What a line came to: its act was done, with this reply; or its request was taken again and again,
-- so often answered Pending, and then with this reply; or no call was made, and this was told.
pub data Told : Type 0 where
  done : (act : Act) → (reply : Reply) → Told
  waited : (request again : ℕ) → (reply : Reply) → Told
  uncalled : (it : Uncalled) → Told

-- what the line says
abbrev pub said_by : Told → Result Ask BadLine
said_by (done act reply) = Ok (ToAct act)
said_by (waited request again reply) = Ok (Wait request)
said_by (uncalled it) = asked_by it

-- the entry of a call
abbrev pub called : (process : ℕ) → Act → Reply → Entry
called process act reply = entry (record { process = process; act = act }) reply

-- the calls of the process that were made for the line
abbrev pub calls_for : (process : ℕ) → Told → List Entry
calls_for process (done act reply) = called process act reply ∷ []
calls_for process (waited request again reply) = called process (Take request) reply
    ∷ replicate again (called process (Take request) Pending)
calls_for process (uncalled it) = []

-- the calls that were made for all lines
abbrev pub made : (process : ℕ) → List Told → List Entry
made process [] = []
made process (told ∷ past) = calls_for process told ++ made process past

-- the line that answers a line: that of the reply, or of what was told
abbrev pub answer : ChineseWall → Told → List ℕ
answer wall (done act reply) = reply_line wall reply
answer wall (waited request again reply) = reply_line wall reply
answer wall (uncalled it) = uncalled_line it

-- the answers, the first one first
abbrev pub answers : ChineseWall → List Told → List ℕ
answers wall [] = []
answers wall (told ∷ past) = answers wall past ++ answer wall told

-- ---- counts

-- A line counts as one call, if it asks for one: a wait too, however often it took the request.
abbrev pub counts_as : Told → ℕ
counts_as (done act reply) = 1
counts_as (waited request again reply) = 1
counts_as (uncalled it) = 0

-- how many calls these lines made
abbrev pub calls_in : List Told → ℕ
calls_in [] = 0
calls_in (told ∷ past) = counts_as told + calls_in past

-- a session with this bound may have made so many calls; none is no bound
abbrev pub IsWithin : (most : Option ℕ) → (calls : ℕ) → Type 0
IsWithin None calls = Unit {0}
IsWithin (Some most) calls = calls ≤ most

-- it has made as many as it may
abbrev pub IsSpent : (most : Option ℕ) → (calls : ℕ) → Type 0
IsSpent None calls = ⊥
IsSpent (Some most) calls = calls ≡ most

-- ---- the pass

-- The run that the pass has seen after begins with the one that it had seen, and is legal. Of its
-- process it has these calls more, and no other.
pub record SeesMore (before : Known) (calls : List Entry) (after : Known) : Type 0 where
  pub same : IsSamePass before after
  pub begins : Continues after.seen before.seen
  pub legal : Legal before.door.policy after.seen
  pub own : calls_of before.process after.seen ≡ calls ++ calls_of before.process before.seen

-- Text, cut at each LF: first these finished lines, and then the rest. Each line came to what was
-- told of it, and the calls of the process since are those that were made for the lines, in order.
pub record Acted (wall : ChineseWall) (before : Known) (text lines rest : List Word)
    (told : List Told) (after : Known) : Type 0 where
  pub cut : text ≡ reverse lines ++ rest
  pub says : map (said wall.dataset_names) lines ≡ map said_by told
  pub sees : SeesMore before (made before.process told) after

-- these lines, and before them, as the newest, one that was acted on and not told, if there is one
abbrev pub and_untold : Option Told → List Told → List Told
and_untold None told = told
and_untold (Some newest) told = newest ∷ told

-- no LF is in the rest: it is the line that is not finished, perhaps empty
abbrev pub IsUnfinished : (rest : List Word) → Type 0
IsUnfinished rest = length rest ≡ 1

-- the rest begins with a finished line, which asks for something of this sort
abbrev pub BeginsWith : ChineseWall → (IsSo : Ask → Type 0) → (rest : List Word) → Type 0
BeginsWith wall IsSo rest = (line : Word) × (next : Word) × (later : List Word) × (ask : Ask)
    × (rest ≡ line ∷ next ∷ later) × (said wall.dataset_names line ≡ Ok ask) × IsSo ask

-- these bytes were written, and a prefix of the newest answer
abbrev pub IsCutIn : {O : Type 0} → Used O → (whole newest : List ℕ) → Type 0
IsCutIn sink whole newest = (front : List ℕ) × (back : List ℕ) × (front ++ back ≡ newest)
    × Appends (bytes_before sink) (bytes_after sink) (whole ++ front)

-- ---- the machine

-- the machine, as it was at the end of a turn: it stood for this run, and its receipt covered this,
-- if it was booked
abbrev pub Stood : {M : Type 0} → (ChineseWall → M → List Entry → Type 0) →
    (M → Option Covered) → ChineseWall → List Entry → Option Covered → Type 0
Stood {M = M} stands booked_by wall run booked =
    (machine : M) × stands wall machine run × (booked ≡ booked_by machine)

-- the last call that was made for the line, if it asks for any
abbrev pub last_call : (process : ℕ) → Told → Option Entry
last_call process (done act reply) = Some (called process act reply)
last_call process (waited request again reply) = Some (called process (Take request) reply)
last_call process (uncalled it) = None

-- a line that asks for a call
abbrev pub AsksForCall : Ask → Type 0
AsksForCall (ToAct act) = Unit {0}
AsksForCall (Wait request) = Unit {0}
AsksForCall AskHead = ⊥
AsksForCall (Ping number) = ⊥
AsksForCall Open = ⊥
AsksForCall Next = ⊥
AsksForCall Leave = ⊥

-- ---- what is told without a call

-- what the receipt covers that was shown last: the newest of these, or, where there is none, the last
-- one before
abbrev pub shown_last : (before : Option Covered) → List Shown → Option Covered
shown_last before [] = before
shown_last before (show ∷ past) = Some show.covers

-- This head is that of the receipt that was shown last: so many entries the book had when it was
-- given, and this was the digest of its text. None where no receipt was shown, or no book is kept.
abbrev pub IsHeadBy : (last : Option Covered) → Option Head → Type 0
IsHeadBy None head = head ≡ None
IsHeadBy (Some covers) head = IsHeadAt covers.extent head

-- What was told is so: of the book's head by the receipt that was shown last, and of the requests of
-- the process by its calls so far.
abbrev pub IsSo : (last : Option Covered) → (process : ℕ) → (calls : List Entry) → Uncalled →
    Type 0
IsSo last process calls (its_head head) = IsHeadBy last head
IsSo last process calls (its_number number) = Unit {0}
IsSo last process calls (its_open requests) = requests ≡ open_by process calls
IsSo last process calls (its_next request) = request ≡ given_by calls
IsSo last process calls (its_fault bad) = Unit {0}

-- so it is with what the line was told, if no call was made for it
abbrev pub TellsWhatIs : (last : Option Covered) → (process : ℕ) → (calls : List Entry) → Told →
    Type 0
TellsWhatIs last process calls (done act reply) = Unit {0}
TellsWhatIs last process calls (waited request again reply) = Unit {0}
TellsWhatIs last process calls (uncalled it) = IsSo last process calls it

-- the calls of the process by now: those for these lines, and before them those that the pass had
-- seen
abbrev pub calls_by : (before : Known) → List Told → List Entry
calls_by before told = made before.process told ++ calls_of before.process before.seen

module _ (stood : ChineseWall → List Entry → Option Covered → Type 0) where
  -- At the end of this call's turn the machine stood for the run that ends with the call, and its
  -- receipt covered this, if it was booked. What was seen after begins with that run, in which
  -- these are the calls of the process since.
  pub record StoodBehind (before : Known) (calls : List Entry) (call : Entry)
      (booked : Option Covered) (after : Known) : Type 0 where
    pub front : List Entry
    pub begins : Continues after.seen (call ∷ front)
    pub own : calls_of before.process (call ∷ front) ≡ calls ++ calls_of before.process before.seen
    pub so : stood before.door.policy (call ∷ front) booked

  -- the machine was booked, or not, behind the last call of the line that came to this; the calls
  -- of its process so far are these
  abbrev pub StoodFor : (before : Known) → Told → (calls : List Entry) →
      (booked : Option Covered) → (after : Known) → Type 0
  StoodFor before told calls booked after = (call : Entry) →
      last_call before.process told ≡ Some call → StoodBehind before calls call booked after

  -- Before the answer to a line whose last call is this, the desk was shown one receipt, that of
  -- the machine behind this call, which was booked; the answers to the lines before it had been
  -- written then, and nothing more. For a line that makes no call nothing was shown.
  abbrev pub IsShown : ChineseWall → (written : Option (List ℕ)) → (before : Known) →
      Option Entry → (calls : List Entry) → (past : List Told) → List Shown → (after : Known) →
      Type 0
  IsShown wall written before None calls past shows after = shows ≡ []
  IsShown wall written before (Some call) calls past shows after = (show : Shown)
      × (shows ≡ show ∷ []) × StoodBehind before calls call (Some show.covers) after
      × Appends written show.written (answers wall past)

  -- No reply is told before the book has its entries: of each of these lines the desk was shown the
  -- receipt first, by which it has. What was told without a call is so: a head is that of the receipt
  -- shown last (what is known of the last one before these lines is given), and requests are those
  -- of the process's calls by then.
  abbrev pub AreBooked : ChineseWall → (written : Option (List ℕ)) → (before : Known) →
      (last : Option Covered) → List Told → List Shown → (after : Known) → Type 0
  AreBooked wall written before last [] shows after = shows ≡ []
  AreBooked wall written before last (told ∷ past) shows after = (newest : List Shown)
      × (earlier : List Shown) × (shows ≡ newest ++ earlier)
      × AreBooked wall written before last past earlier after
      × IsShown wall written before (last_call before.process told)
      (made before.process (told ∷ past)) past newest after
      × TellsWhatIs (shown_last last earlier) before.process (calls_by before past) told

  -- The newest line was acted on, and is not told what it came to: behind its last call the machine
  -- was not booked.
  pub record EndsUnbooked (before : Known) (rest : List Word) (told : List Told) (newest : Told)
      (after : Known) : Type 0 where
    pub next : Word
    pub later : List Word
    pub finished : rest ≡ next ∷ later
    pub calls : last_call before.process newest ≢ None
    pub unbooked : StoodFor before newest (made before.process (newest ∷ told)) None after

-- ---- how it ends

module _ (stood : ChineseWall → List Entry → Option Covered → Type 0) (spent : Type 0) where
  -- The session ends so, and this text is the answer to its newest line. The next line says
  -- `leave`; or it asks for a call, and the session has made as many as it may, or the door had 2^62
  -- turns: then no call was made for it. Or the newest line was acted on, and the machine was not
  -- booked.
  abbrev pub EndsAt : ChineseWall → (before : Known) → (rest : List Word) → List Told →
      (untold : Option Told) → (after : Known) → SessionEnd → (text : List ℕ) → Type 0
  EndsAt wall before rest told None after Left text =
      BeginsWith wall (λ ask. ask ≡ Leave) rest × (text ≡ left_line)
  EndsAt wall before rest told None after Exhausted text =
      BeginsWith wall AsksForCall rest × (spent ⊎ (2 ^ 62 ≤ length after.seen))
      × (text ≡ exhausted_line)
  EndsAt wall before rest told (Some newest) after Unbooked text =
      EndsUnbooked stood before rest told newest after × (text ≡ unbooked_line)
  EndsAt wall before rest told untold after end text = ⊥

  -- all answers were written, and that to the line which ends the session so
  abbrev pub SaysLast : {O : Type 0} → ChineseWall → Used O → (before : Known) →
      (rest : List Word) → List Told → (untold : Option Told) → (after : Known) → SessionEnd →
      Type 0
  SaysLast wall sink before rest told untold after end = (text : List ℕ)
      × EndsAt wall before rest told untold after end text
      × IsWritten sink (answers wall told ++ text)

  -- all answers but the newest were written, and a prefix of that: the newest line came to
  -- something, or it would have ended the session
  abbrev pub BreaksOff : {O : Type 0} → ChineseWall → Used O → (before : Known) →
      (rest : List Word) → List Told → (untold : Option Told) → (after : Known) → Type 0
  BreaksOff wall sink before rest told untold after =
      ((newest : Told) × (past : List Told) × (told ≡ newest ∷ past) × (untold ≡ None)
      × IsCutIn sink (answers wall past) (answer wall newest))
      ⊎ ((end : SessionEnd) × (text : List ℕ) × EndsAt wall before rest told untold after end text
      × IsCutIn sink (answers wall told) text)

  -- what the devices, the rest and the run are like where the session ended so
  abbrev pub EndsSo : {S O : Type 0} → ChineseWall → Used S → Used O → (before : Known) →
      (rest : List Word) → List Told → (untold : Option Told) → (after : Known) → SessionEnd →
      Type 0
  EndsSo wall source sink before rest told untold after EndOfStream = NeverFailed source
      × IsAtEnd (bytes_after source) × IsUnfinished rest × (untold ≡ None)
      × IsWritten sink (answers wall told)
  EndsSo wall source sink before rest told untold after Left =
      NeverFailed source × SaysLast wall sink before rest told untold after Left
  EndsSo wall source sink before rest told untold after ReadFailed = FailedOnce source
      × IsUnfinished rest × (untold ≡ None) × IsWritten sink (answers wall told)
  EndsSo wall source sink before rest told untold after WriteFailed = NeverFailed source
      × FailedOnce sink × BreaksOff wall sink before rest told untold after
  EndsSo wall source sink before rest told untold after Exhausted =
      NeverFailed source × SaysLast wall sink before rest told untold after Exhausted
  EndsSo wall source sink before rest told untold after Unbooked =
      NeverFailed source × SaysLast wall sink before rest told untold after Unbooked
  EndsSo wall source sink before rest told untold after NoMemory =
      NeverFailed source × IsWritten sink (answers wall told)

-- ---- reads

-- The lines that this text finishes, and no others, had been answered by then: the oldest part of
-- what was told.
pub record HadAnswered (wall : ChineseWall) (before now : Option (List ℕ)) (text : List ℕ)
    (told : List Told) : Type 0 where
  pub since : List Told
  pub past : List Told
  pub told_is : told ≡ since ++ past
  pub finished : length (parts 10 text) ≡ length past + 1
  pub written : Appends before now (answers wall past)

-- No read comes between a line and its answer: these are the bytes that were read, and at each read
-- the lines which earlier ones had finished were answered, all of them.
pub record IsPrompt {S O : Type 0} (heard : S → DeskLog) (wall : ChineseWall)
    (source : Used S) (sink : Used O) (bytes : List ℕ) (told : List Told) : Type 0 where
  pub reads : List Heard
  pub tells : Tells (heard source.old).reads (heard source.new).reads reads
  pub gave : text_of reads ≡ bytes
  pub answered : (later : List Heard) (read : Heard) (past : List Heard) →
      reads ≡ later ++ read ∷ past →
      HadAnswered wall (bytes_before sink) read.written (text_of past) told

-- ---- a session

module _ (stood : ChineseWall → List Entry → Option Covered → Type 0) (most : Option ℕ)
    (base : ℕ) where
  -- What a session came to from the first line of a stream on, before which its process had made so
  -- many calls: the bytes that it was handed, cut at each LF, are the lines that it acted on and a
  -- rest; what was written are the answers to these lines, in order, each before the next read, and
  -- no reply before the desk was shown by a receipt that the book has its entries; what was told of
  -- the book's head is what that of the last call says, and of requests what the calls say.
  -- Of the lines that were acted on the newest may not be told. The calls that it made were
  -- counted, and are no more than the process may make: where it has made so many, the next line that
  -- asks for a call is not acted on.
  pub record Serves {S O : Type 0} (heard : S → DeskLog) (wall : ChineseWall)
      (source : Used S) (sink : Used O) (before after : Known) (closing : Closing) : Type 0 where
    pub bytes : List ℕ
    pub read : Consumes (bytes_before source) (bytes_after source) bytes
    pub lines : List Word
    pub rest : List Word
    pub told : List Told
    pub untold : Option Told
    pub acted : Acted wall before (parts 10 bytes) lines rest (and_untold untold told) after
    pub shows : List Shown
    pub shown : Tells (heard source.old).shows (heard source.new).shows shows
    pub booked : AreBooked stood wall (bytes_before sink) before None told shows after
    pub prompt : IsPrompt heard wall source sink bytes told
    pub counted : closing.calls ≡ calls_in (and_untold untold told) + base
    pub within : IsWithin most closing.calls
    pub ends : EndsSo stood (IsSpent most closing.calls) wall source sink before rest told untold after
        closing.end
