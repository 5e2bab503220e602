-- How serving ends, each process at devices of its own.
use Rattle.std.specs.Prelude.{◌≡◌, ◌≢◌, ◌⊎◌, ℕ, List, [], ◌++◌, length, codes, Option, Some}
use Rattle.std.specs.Prelude.{None}
use Rattle.std.specs.Io.KnownBytes.{Appends}
use Rattle.wall_policy.specs.Policy.{ChineseWall}
use Rattle.run_model.specs.Comms.{processes}
use Rattle.run_model.specs.Runs.{Entry}
use Rattle.audit_book.specs.Text.{header_words, line_of}
use Rattle.hall_script.specs.Devices.{used, Used, IsBegun}
use Rattle.hall_turn.specs.Machines.{Stands}
use Rattle.sha2.specs.Sha256.{sha256}
use Rattle.hall_turn.specs.declared.head.Head.{Head}
use Rattle.hall_turn.specs.Receipts.{Covered, IsHeadAt}
use Rattle.live_book.specs.declared.unbooked.Unbooked.{Unbooked}
use Rattle.live_book.specs.declared.unbooked.Unbooked.TheVariants as unbookeds
use Rattle.live_book.specs.Books.{SinkValue, StandsBehind, book_of, covered, text_so_far}
use Rattle.live_book.specs.Machines.{has_no_book}
use Rattle.live_book.specs.Writing.{sink_value}
use Rattle.live_session.specs.declared.peer.Peer.{Peer}
use Rattle.live_session.specs.declared.peer.Session.{Session}
use Rattle.live_session.specs.declared.run.ServeFault.{ServeFault}
use Rattle.live_session.specs.declared.run.ServeFault.TheVariants as serves
use Rattle.live_session.specs.Hearing.{DeskLog}
use Rattle.live_session.specs.Sessions.{Stood}
use Rattle.live_session.specs.Served.{ServedAll}
use Rattle.program_commands.specs.declared.ending.Ending.{Ending}
use Rattle.program_commands.specs.declared.ending.Ending.TheVariants.{Done, WriteFault, NoThread}
use Rattle.program_commands.specs.declared.ending.Ending.TheVariants.{NoMemory, BadArguments, Exhausted}
use Rattle.program_commands.specs.declared.unready.Unready.{Unready}
use Rattle.program_commands.specs.declared.unready.Unready.TheVariants as unreadies
use Rattle.program_commands.specs.Endings.{Writes}
use Rattle.program_commands.specs.Replaying.{text_of}

-- the line on standard error of a server that does not begin
abbrev pub unready_line : Unready → List ℕ
unready_line (unreadies.NoPipe name) = codes "no pipe: " ++ (name.now ++ codes "\n")
unready_line (unreadies.OpenToOthers name) = codes "open to others: " ++ (name.now ++ codes "\n")
unready_line (unreadies.InUse path) = codes "in use: " ++ (path.now ++ codes "\n")
unready_line (unreadies.PipesUsed path) = codes "pipes used: " ++ (path.now ++ codes "\n")
unready_line (unreadies.BookExists path) = codes "book exists: " ++ (path.now ++ codes "\n")

-- the text of a book was written, or not as any text is not; or so far as it has its 2^64 entries
abbrev pub WritesBook : {W : Type 0} → Used W → List ℕ → Ending → Type 0
WritesBook writer bytes Exhausted = IsBegun writer bytes
WritesBook writer bytes ending = Writes writer bytes ending

-- how it ends where no session began
abbrev pub serve_ending : ServeFault → Ending
serve_ending serves.BadPeers = BadArguments
serve_ending serves.NoThread = NoThread
serve_ending serves.NoMemory = NoMemory

-- how it ends where the book was not written to its end
abbrev pub book_ending : Unbooked → Ending
book_ending unbookeds.Write = WriteFault
book_ending unbookeds.NoMemory = NoMemory
book_ending unbookeds.TooLong = Exhausted

-- ---- the book

-- the first line of a book
abbrev pub first_line : ChineseWall → List ℕ
first_line wall = line_of (header_words wall.version)

module _ {B : Type 0} (spoilt : B → ℕ) (kept : B → Option (List ℕ)) where
  -- The writer came back, and it ended so at the first line of the book.
  abbrev pub IsUnopened : ChineseWall → (book back : Option B) → Ending → Type 0
  IsUnopened wall book back ending = (old : B) × (new : B) × (book ≡ Some old)
      × (back ≡ Some new) × WritesBook (used spoilt kept old new) (first_line wall) ending

  -- No session began. There are not devices for each process, and no others; then the writer came
  -- back as it was. Or there are, and a thread or memory was refused, and the writer was let go; or
  -- the first line of the book was not written.
  abbrev pub IsUnserved : {S O : Type 0} → ChineseWall → List (Peer S O) → (book back : Option B) →
      Ending → Type 0
  IsUnserved wall peers book back BadArguments =
      (length peers ≢ processes wall) × (back ≡ book)
  IsUnserved wall peers book back NoThread = (length peers ≡ processes wall) × (back ≡ None)
  IsUnserved wall peers book back NoMemory = (length peers ≡ processes wall)
      × ((back ≡ None) ⊎ IsUnopened wall book back NoMemory)
  IsUnserved wall peers book back WriteFault =
      (length peers ≡ processes wall) × IsUnopened wall book back WriteFault
  IsUnserved wall peers book back Exhausted =
      (length peers ≡ processes wall) × IsUnopened wall book back Exhausted
  IsUnserved wall peers book back ending = ⊥

-- ---- all sessions

module _ {S O : Type 0} (fails : S → ℕ) (left : S → Option (List ℕ))
    (heard : S → DeskLog) (failures : O → ℕ) (contents : O → Option (List ℕ)) where
  -- All sessions have ended, at such a machine, in a legal run in which the calls of each process
  -- are those of its session; and this is so of that very run.
  abbrev pub HaveEndedIn : {M : Type 0} → (ChineseWall → M → List Entry → Type 0) →
      (M → Option Covered) → (most : Option ℕ) → ChineseWall → List (Peer S O) →
      List (Session S O) → (List Entry → Type 0) → Type 0
  HaveEndedIn {M = M} stands booked most wall peers sessions IsSoOf = (machine : M)
      × (served : ServedAll fails left heard failures contents stands booked most wall peers
      sessions machine) × IsSoOf served.run

  module _ {B : Type 0} (spoilt : B → ℕ) (kept lasting : B → Option (List ℕ)) where
    -- How serving ends: no session began; or all have ended. Where there is a book, no reply was
    -- told before its desk was shown a receipt of the writer, which covers, behind what the writer
    -- had at first, the text of the book of the run up to the reply's call; and the writer came
    -- back with the whole text of the run's book, or with a beginning of it and why no more.
    abbrev pub ServeEnds : (most : Option ℕ) → ChineseWall → List (Peer S O) → (book : Option B) →
        List (Session S O) → (back : Option B) → Ending → Type 0
    ServeEnds most wall peers None sessions back ending =
        (IsUnserved spoilt kept wall peers None back ending × (sessions ≡ []))
        ⊎ HaveEndedIn Stands has_no_book most wall peers sessions
        (λ run. (ending ≡ Done) × (back ≡ None))
    ServeEnds most wall peers (Some old) sessions back ending =
        (IsUnserved spoilt kept wall peers (Some old) back ending × (sessions ≡ []))
        ⊎ HaveEndedIn (StandsBehind (sink_value kept lasting spoilt old)) covered most wall peers
        sessions (λ run. (new : B) × (back ≡ Some new)
        × WritesBook (used spoilt kept old new) (text_of wall run) ending)

-- ---- receipts

-- the head of the book of a run: the number of its entries, and the SHA-256 of its text but for the
-- last line
abbrev pub IsHeadOf : ChineseWall → (run : List Entry) → Option Head → Type 0
IsHeadOf wall run None = ⊥
IsHeadOf wall run (Some head) = (head.entries ≡ length (book_of wall run))
    × (head.digest ≡ sha256 (text_so_far wall (book_of wall run)))

-- What a receipt says that was shown before a reply: behind what the writer had at first, it had,
-- when it gave the receipt, the text of the book of the run up to the reply's call, but for the
-- last line. And the head that a session tells by that receipt is that of this text.
abbrev pub ReceiptsCoverTheBook : Type 0
ReceiptsCoverTheBook = (begun : SinkValue) (wall : ChineseWall) (run : List Entry)
    (covers : Covered) → Stood (StandsBehind begun) covered wall run (Some covers) →
    Appends begun.contents covers.contents (text_so_far wall (book_of wall run))
    × ((head : Option Head) → IsHeadAt covers.extent head → IsHeadOf wall run head)
