-- What a hall whose book is written while it runs stands for, and has written. (Own rules.)
use Rattle.std.specs.Prelude.{◌≡◌, ℕ, ◌+◌, ◌≤◌, Bool, List, ◌++◌, length, Option, Some, None, is_none}
use Rattle.std.specs.Io.KnownBytes.{Appends}
use Rattle.wall_labels.specs.Known.{AppendsPrefix}
use Rattle.wall_policy.specs.Policy.{ChineseWall}
use Rattle.run_model.specs.declared.entry.Entry.{Entry as BookEntry}
use Rattle.run_model.specs.Books.{book}
use Rattle.run_model.specs.Runs.{Entry, posts}
use Rattle.audit_book.specs.Text.{entry_lines, header_words, line_of}
use Rattle.hall_core.specs.Halls.{HallValue, StandsFor}
use Rattle.sha2.specs.Hashers.{Holds256}
use Rattle.hall_turn.specs.Receipts.{Covered, Extent}
use Rattle.live_book.specs.declared.unbooked.Unbooked.{Unbooked}
use Rattle.live_book.specs.declared.unbooked.Unbooked.TheVariants.{Write, NoMemory, TooLong}

-- What clauses tell of a sink: the bytes that were written, and those that it was told to make
-- last, where they are known; and how many of its calls failed.
pub record SinkValue : Type 0 where
  pub contents : Option (List ℕ)
  pub lasting : Option (List ℕ)
  pub failures : ℕ

-- a sink that has nothing
abbrev pub empty_sink : SinkValue
empty_sink = record { contents = None; lasting = None; failures = 0 }

-- the value of such a hall in clauses
pub record BookedHallValue : Type 0 where
  -- what a hall keeps that has its whole book
  pub hall : HallValue
  -- the sink as it was at the opening, and as it is
  pub begun : SinkValue
  pub sink : SinkValue
  -- how far the text of the book has come, as long as nothing went wrong
  pub extent : Extent
  -- why nothing is written any more, if so
  pub fault : Option Unbooked

-- whether all was written
abbrev pub is_all_booked : BookedHallValue → Bool
is_all_booked m = is_none m.fault

-- this, if nothing went wrong
abbrev pub unless_cut : (fault : Option Unbooked) → Covered → Option Covered
unless_cut None covers = Some covers
unless_cut (Some fault) covers = None

-- what a receipt covers that it gives now: all that the sink has, and how far the text has come, as
-- long as all was written
abbrev pub covered : BookedHallValue → Option Covered
covered m = unless_cut m.fault (record { contents = m.sink.contents; extent = Some m.extent })

-- the book of a run
abbrev pub book_of : ChineseWall → List Entry → List BookEntry
book_of wall run = book wall (posts run)

-- its text but for the last line
abbrev pub text_so_far : ChineseWall → List BookEntry → List ℕ
text_so_far wall entries = line_of (header_words wall.version) ++ entry_lines wall entries

-- why nothing is written any more, by the sink's failures before and after; a book that is too long
-- has more entries than can be counted (`IsCut`)
abbrev pub IsUnbooked : Unbooked → (before after : ℕ) → Type 0
IsUnbooked Write before after = after ≡ before + 1
IsUnbooked NoMemory before after = after ≡ before
IsUnbooked TooLong before after = after ≡ before

-- Behind what it had at the opening the sink has the text of the run's book so far, and none of its
-- calls has failed.
pub record IsBooked (wall : ChineseWall) (begun sink : SinkValue) (run : List Entry) : Type 0 where
  pub written : Appends begun.contents sink.contents (text_so_far wall (book_of wall run))
  pub went : sink.failures ≡ begun.failures

-- Of a beginning of the run all was written, and of the lines of the entries that came next a
-- prefix.
pub record IsCut (wall : ChineseWall) (begun sink : SinkValue) (run : List Entry) (fault : Unbooked)
    : Type 0 where
  pub past : List Entry
  pub later : List Entry
  pub is_run : later ++ past ≡ run
  -- what the sink had then
  pub held : Option (List ℕ)
  pub written : Appends begun.contents held (text_so_far wall (book_of wall past))
  pub next : List BookEntry
  pub is_book : book_of wall run ≡ book_of wall past ++ next
  pub prefix : AppendsPrefix held sink.contents (entry_lines wall next)
  pub is_fault : IsUnbooked fault begun.failures sink.failures
  pub too_long : fault ≡ TooLong → 18446744073709551616 ≤ length (book_of wall run)

-- The text of the run's book so far has come so far.
pub record HasCome (wall : ChineseWall) (extent : Extent) (run : List Entry) : Type 0 where
  pub entries : extent.entries ≡ length (book_of wall run)
  pub holds : Holds256 extent.hasher (text_so_far wall (book_of wall run))

-- the one as long as nothing went wrong, and then the other
abbrev pub IsWritten : ChineseWall → (begun sink : SinkValue) → Option Unbooked → List Entry →
    Type 0
IsWritten wall begun sink None run = IsBooked wall begun sink run
IsWritten wall begun sink (Some fault) run = IsCut wall begun sink run fault

-- it was opened with the policy, stands for the run, and has written its book so far
pub record StandsWithBook (wall : ChineseWall) (m : BookedHallValue) (run : List Entry) : Type 0
  where
    pub policy : m.hall.policy ≡ wall
    pub hall : StandsFor m.hall run
    pub book : IsWritten wall m.begun m.sink m.fault run
    pub extent : m.fault ≡ None → HasCome wall m.extent run

-- it stands for the run with its book, and its sink was so at the opening
abbrev pub StandsBehind : (begun : SinkValue) → ChineseWall → BookedHallValue → List Entry → Type 0
StandsBehind begun wall m run = StandsWithBook wall m run × (m.begun ≡ begun)
