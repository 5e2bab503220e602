-- Earlier books, and the policy for what comes after them: what was held at their end is held
-- before. What a chain of books is, and what it keeps, say the definitions of chains.
use Rattle.std.specs.Prelude.{◌≡◌, ◌<◌, ◌⊎◌, ℕ, true, List, [], ◌∷◌, ◌++◌, reverse, Option}
use Rattle.std.specs.Borrow.{Bor}
use Rattle.wall_labels.specs.declared.ids.TheConstants.{DATASET_LIMIT}
use Rattle.wall_policy.specs.Policy.{ChineseWall, first_processes, held_of}
use Rattle.run_model.specs.declared.entry.Entry.{Entry as BookEntry}
use Rattle.run_model.specs.Books.{book, IsSound}
use Rattle.run_model.specs.Chains.{Link, NobodyEverHeldBoth}
use Rattle.run_model.specs.Years.{WereEverRivals, HeldByThen, BeginsWithNothing, HadOnce}
use Rattle.run_model.specs.Runs.{Entry, posts}
use Rattle.run_model.specs.Replies.{Legal}
use Rattle.audit_book.specs.declared.check_fault.BookFault.TheVariants.{BadEntry}
use Rattle.audit_book.specs.declared.fault.ReadFault.TheVariants as texts
use Rattle.book_chain.specs.Chain.{ChainValue, begun, IsAdded, IsNotAdded, StandsFor}
use Rattle.hall_script.specs.Devices.{Used, used, NeverFailed, IsUnreadable}
use Rattle.program_files.specs.declared.cause.Cause.{Cause}
use Rattle.program_commands.specs.declared.earlier.Earlier.{Earlier}
use Rattle.program_commands.specs.declared.ending.EarlierFault.{EarlierFault}
use Rattle.program_commands.specs.declared.ending.EarlierFault.TheVariants as faults
use Rattle.program_commands.specs.declared.ending.Ending.{Ending}
use Rattle.program_commands.specs.declared.ending.Ending.TheVariants.{BadEarlier, BadBookLine}
use Rattle.program_commands.specs.declared.ending.Ending.TheVariants.{CutBook, ReadFault, NoMemory}
use Rattle.program_commands.specs.Unreading.{IsExplained}
use Rattle.program_commands.specs.Walls.{IsPolicyOf, IsNoPolicy}
use Rattle.program_commands.specs.Auditing.{book_limit, IsBookOf, IsNoText}

-- Earlier books, the oldest first, as they are given: each with its path and its reader, which is
-- let go as soon as its book is read.
pub record EarlierBooks (D : Type 0) : Type 0 where
  pub failures : D → ℕ
  pub bytes : D → Option (List ℕ)
  pub books : List (Earlier D)

abbrev pub earlier_books : {D : Type 0} → (D → ℕ) → (D → Option (List ℕ)) → List (Earlier D)
    → EarlierBooks D
earlier_books failures bytes books = record { failures = failures; bytes = bytes; books = books }

-- the reader of one of them, before its use and as it was let go
abbrev pub reader : {D : Type 0} → EarlierBooks D → Earlier D → (left : D) → Used D
reader earlier one left = used earlier.failures earlier.bytes one.device left

-- ---- a policy after books

-- Each of these books, the newest first, was read from the reader at its place, by the names of the
-- policy after those before it, and is sound under the first processes of that policy: as many as
-- the chain tells. The oldest comes after none.
abbrev pub AreRead : {D : Type 0} → EarlierBooks D → (first : ChineseWall) → List (Earlier D)
    → List Link → ChainValue → Type 0
AreRead earlier first [] [] now = now ≡ begun first
AreRead {D} earlier first (one ∷ before) (r ∷ older) now =
    (was : ChainValue) × (AreRead earlier first before older was
    × ((left : D) × IsBookOf was.wall (reader earlier one left) r.book)
    × (r.wall ≡ first_processes now.least was.wall) × IsAdded was r.book now)
AreRead earlier first readers links now = ⊥

-- These books were read, the first under this policy, and each of the others under the one after
-- those before it; all are sound, and this is what the chain of them comes to.
pub record IsAfter {D : Type 0} (first : ChineseWall) (earlier : EarlierBooks D)
    (links : List Link) (now : ChainValue) : Type 0 where
  pub read : AreRead earlier first (reverse earlier.books) links now
  pub stands : StandsFor now links

-- Over these books and one more that is sound under this policy nobody ever held two rivals,
-- directly or through others.
abbrev pub BooksKeepTheWall : List Link → ChineseWall → Type 0
BooksKeepTheWall links wall = (entries : List BookEntry) → IsSound wall entries →
    NobodyEverHeldBoth wall.classes (record { wall = wall; book = entries } ∷ links)

-- Over these books and any legal run under this policy nobody ever held two rivals.
abbrev pub RunsKeepTheWall : List Link → ChineseWall → Type 0
RunsKeepTheWall links wall = (run : List Entry) → Legal wall run →
    NobodyEverHeldBoth wall.classes (record { wall = wall; book = book wall (posts run) } ∷ links)

-- Over these books and any legal run under this policy nobody ever held two who were rivals under
-- the policy of any of the books or are under this one, before or after any entry.
abbrev pub YearsKeepTheWall : List Link → ChineseWall → Type 0
YearsKeepTheWall links wall = (run : List Entry) (p d e : ℕ) → Legal wall run →
    WereEverRivals links wall d e → HeldByThen links wall run p d →
    ¬ (HeldByThen links wall run p e)

-- What is held before under this policy was had once: at a home, or by an entry of one of these
-- books.
abbrev pub WasHadOnce : List Link → ChineseWall → Type 0
WasHadOnce links wall = (p d : ℕ) → d < DATASET_LIMIT → BeginsWithNothing links wall →
    held_of wall p d ≡ true → HadOnce links p d

-- The policy for what comes after these books, of which the oldest goes by the first policy: that
-- one, or, where there are earlier books, the one after them.
pub record IsPolicyAfter {D : Type 0} (first : ChineseWall) (earlier : EarlierBooks D)
    (wall : ChineseWall) : Type 0 where
  pub links : List Link
  pub least : ℕ
  pub after : IsAfter first earlier links (record { wall = wall; least = least })
  pub books_keep : BooksKeepTheWall links wall
  pub runs_keep : RunsKeepTheWall links wall
  pub years_keep : YearsKeepTheWall links wall
  pub had : WasHadOnce links wall

-- The policy that all else goes by: a policy was read, and it is that one, or, where there are
-- earlier books, the one after them.
pub record IsWallAfter {P D : Type 0} (policy : Used P) (earlier : EarlierBooks D)
    (wall : ChineseWall) : Type 0 where
  pub first : ChineseWall
  pub read : IsPolicyOf policy first
  pub goes_on : IsPolicyAfter first earlier wall

-- ---- none

-- this is what is wrong with the book behind those before it
abbrev pub IsEarlierFault : {D : Type 0} → ChainValue → Used D → EarlierFault → Type 0
IsEarlierFault was book (faults.BadLine n) = IsNoText was.wall book (texts.BadLine n)
IsEarlierFault was book faults.Cut = IsNoText was.wall book texts.Cut
IsEarlierFault was book (faults.Unsound n) =
    (entries : List BookEntry) × IsBookOf was.wall book entries
    × IsNotAdded was entries (BadEntry n)

-- the book at this path was not read, is none, or is not sound, and this is why
abbrev pub IsNoLink : {D : Type 0} → ChainValue → Used D → (path : List ℕ) → Ending → Type 0
IsNoLink was book path (BadEarlier named fault) =
    (named.now ≡ path) × IsEarlierFault was book fault
IsNoLink was book path ReadFault = IsUnreadable book book_limit
IsNoLink was book path NoMemory = NeverFailed book
IsNoLink was book path ending = ⊥

-- One of these books gives no policy for what comes after it, and this is why. All those before it
-- do, and those behind it are not read.
pub record IsBroken {D : Type 0} (first : ChineseWall) (earlier : EarlierBooks D)
    (ending : Ending) : Type 0 where
  pub before : List (Earlier D)
  pub one : Earlier D
  pub behind : List (Earlier D)
  pub are : before ++ (one ∷ behind) ≡ earlier.books
  pub links : List Link
  pub was : ChainValue
  pub after : IsAfter first (record earlier { books = before }) links was
  pub left : D
  pub fault : IsNoLink was (reader earlier one left) one.path.now ending

-- one of these books gives no policy: that at this path, whose reader was left so
abbrev pub IsBrokenBy : {D : Type 0} → (first : ChineseWall) → EarlierBooks D → (path : List ℕ)
    → (left : D) → Ending → Type 0
IsBrokenBy first earlier path left ending = (broken : IsBroken first earlier ending)
    × (broken.one.path.now ≡ path) × (broken.left ≡ left)

-- one of these books gives no policy, and this is why, as people are told: one that was not read by
-- its path and the cause that its reader tells
abbrev pub IsBrokenTold : {D : Type 0} → (first : ChineseWall) → (D → Option Cause)
    → EarlierBooks D → Ending → Type 0
IsBrokenTold first causes earlier ending =
    (plain : Ending) × ((broken : IsBroken first earlier plain)
    × IsExplained plain broken.one.path.now (causes broken.left) book_limit ending)

-- there is no policy that all else could go by, and this is why
abbrev pub IsNoWallAfter : {P D : Type 0} → Used P → EarlierBooks D → Ending → Type 0
IsNoWallAfter policy earlier ending =
    IsNoPolicy policy ending
    ⊎ ((first : ChineseWall) × IsPolicyOf policy first × IsBroken first earlier ending)

-- ---- words of private contracts

-- how a book that is none ends where it is an earlier one
abbrev pub earlier_ending : (path : Bor (List ℕ)) → Ending → Ending
earlier_ending path (BadBookLine n) = BadEarlier path (faults.BadLine n)
earlier_ending path CutBook = BadEarlier path faults.Cut
earlier_ending path ending = ending

-- the book was read and is sound, and this is the chain with it
abbrev pub IsLink : {D : Type 0} → ChainValue → Used D → (now : ChainValue) → Type 0
IsLink was book now = (entries : List BookEntry) × IsBookOf was.wall book entries
    × IsAdded was entries now
    × ((older : List Link) → StandsFor was older → StandsFor now
    (record { wall = first_processes now.least was.wall; book = entries } ∷ older))
