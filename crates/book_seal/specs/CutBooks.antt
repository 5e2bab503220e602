-- The books of runs that were cut, as by a kill: what their seals keep. (Own rules.) A run and a
-- list of posts have the newest first.
use Rattle.std.specs.Prelude.{◌≡◌, ◌≤◌, ℕ, List, ◌∷◌, ◌++◌, length}
use Rattle.std.specs.List.{AllByRecursion}
use Rattle.wall_policy.specs.Policy.{ChineseWall, IsPolicy}
use Rattle.run_model.specs.declared.entry.Entry.{Entry as BookEntry}
use Rattle.run_model.specs.Posts.{Post}
use Rattle.run_model.specs.Books.{book, posts_in}
use Rattle.run_model.specs.Chains.{Link, EverHeld}
use Rattle.run_model.specs.Runs.{Entry, posts}
use Rattle.run_model.specs.Replies.{Legal}
use Rattle.run_model.specs.Years.{HeldInRun}
use Rattle.audit_book.specs.Text.{line_of, header_words, entry_lines, book_text}
use Rattle.audit_book.specs.Laws.{IsSpelled}
use Rattle.book_seal.specs.Seals.{Starts, IsSealOf}

-- the book of a run
abbrev pub book_of : ChineseWall → List Entry → List BookEntry
book_of wall run = book wall (posts run)

-- the text of a book but for its last line, the end
abbrev pub text_so_far : ChineseWall → List BookEntry → List ℕ
text_so_far wall entries = line_of (header_words wall.version) ++ entry_lines wall entries

-- the book has a text: its numbers are in their ranges
pub record HasText (wall : ChineseWall) (entries : List BookEntry) : Type 0 where
  pub spelled : AllByRecursion (IsSpelled wall) entries
  pub few : length entries ≤ 18446744073709551615

-- A text that is left of the book of a run which was cut: a beginning of the book's text, to any
-- byte, that has all which was written when the run had come so far. (A reply is told once what
-- stands before it is written.)
pub record IsCutBook (wall : ChineseWall) (later run : List Entry) (text : List ℕ) : Type 0 where
  pub is_prefix : Starts text (book_text wall (book_of wall (later ++ run)))
  pub has : Starts (text_so_far wall (book_of wall run)) text

-- What a writer leaves that had written the text so far of a run's book, and then a part of the
-- lines of what came next (so a hall whose book is written while it runs leaves its sink, whose
-- write failed or which was killed), is such a text.
abbrev pub WhatWasWrittenIsACutBook : Type 0
WhatWasWrittenIsACutBook = (wall : ChineseWall) (later run : List Entry) (next : List BookEntry)
    (part rest : List ℕ) → book_of wall (later ++ run) ≡ book_of wall run ++ next →
    part ++ rest ≡ entry_lines wall next →
    IsCutBook wall later run (text_so_far wall (book_of wall run) ++ part)

-- The text has this seal. Its posts are all those of the run, and perhaps some of those that came
-- later, and no others: nothing that was told is forgotten, and nothing is made up.
pub record KeepsTheRun (wall : ChineseWall) (later run : List Entry) (text sealed : List ℕ)
    : Type 0 where
  pub seal : IsSealOf wall text sealed
  pub more : List Post
  pub kept : posts_in seal.entries ≡ more ++ posts run
  pub behind : List Post
  pub real : behind ++ posts_in seal.entries ≡ posts (later ++ run)

-- Whatever legal run the text is left of, as far as it was told, this seal keeps it.
abbrev pub KeepsEachRun : ChineseWall → (text sealed : List ℕ) → Type 0
KeepsEachRun wall text sealed = (later run : List Entry) → Legal wall (later ++ run) →
    HasText wall (book_of wall (later ++ run)) → IsCutBook wall later run text →
    KeepsTheRun wall later run text sealed

-- What is left of the book of any legal run that was cut has a seal, which keeps the run.
abbrev pub CutBooksHaveTheirSeal : Type 0
CutBooksHaveTheirSeal = (wall : ChineseWall) (later run : List Entry) (text : List ℕ) →
    IsPolicy wall → Legal wall (later ++ run) → HasText wall (book_of wall (later ++ run)) →
    IsCutBook wall later run text → (sealed : List ℕ) × KeepsTheRun wall later run text sealed

-- So in a chain of books with this seal in it whatever was held at some time in the run, as far as
-- it was told, was ever held: the law over years is true of runs that were killed, sealed, and gone
-- on after.
abbrev pub WhatWasToldIsKept : Type 0
WhatWasToldIsKept = (wall : ChineseWall) (later run : List Entry) (text sealed : List ℕ)
    (older : List Link) (p d : ℕ) (keeps : KeepsTheRun wall later run text sealed) →
    HeldInRun wall run p d →
    EverHeld (record { wall = wall; book = keeps.seal.entries } ∷ older) p d
