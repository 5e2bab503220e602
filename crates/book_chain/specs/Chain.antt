-- Earlier books under a policy that may have grown since they were written: each is read under the
-- first processes of the policy. (Own rule. What a sound book is, and what a chain of books is, say
-- the definitions of books and of chains.)
use Rattle.std.specs.Prelude.{◌≡◌, ℕ, ◌<◌, ◌≤◌, true, List, [], ◌∷◌, length, All}
use Rattle.wall_policy.specs.Policy.{ChineseWall, held_of, with_held, first_processes}
use Rattle.run_model.specs.declared.entry.Entry.{Entry}
use Rattle.run_model.specs.Known.{IsKnownEntry}
use Rattle.run_model.specs.Books.{posts_in, IsSound, IsFirstBad}
use Rattle.run_model.specs.Chains.{Link, IsChain, IsPolicyAfter}
use Rattle.audit_book.specs.declared.check_fault.BookFault.{BookFault}
use Rattle.audit_book.specs.declared.check_fault.BookFault.TheVariants.{BadEntry, NoMemory}

-- The value of a `Chain` in clauses.
pub record ChainValue : Type 0 where
  -- the policy for what comes after the books
  pub wall : ChineseWall
  -- so many processes, or more, had the policy when the next book was written
  pub least : ℕ

-- what was held before was held by the first processes
abbrev pub IsHeldBelow : (n : ℕ) → ChineseWall → Type 0
IsHeldBelow n wall = (p d : ℕ) → held_of wall p d ≡ true → p < n

-- What is so of every `Chain`.
pub record IsChainValue (c : ChainValue) : Type 0 where
  pub some : 1 ≤ c.least
  pub few : c.least ≤ length c.wall.process_names
  pub below : IsHeldBelow c.least c.wall

-- The number that a chain begins with: any book may come first; but where something was held
-- before already, it has all processes.
abbrev pub first_least : List (ℕ × ℕ) → (processes : ℕ) → ℕ
first_least [] processes = 1
first_least (pair ∷ held) processes = processes

-- a policy before any book
abbrev pub begun : ChineseWall → ChainValue
begun wall = record { wall = wall; least = first_least wall.held (length wall.process_names) }

---- The number of processes under which a book is read.

-- the book is sound under the first n processes, and names none but them
pub record Fits (wall : ChineseWall) (entries : List Entry) (n : ℕ) : Type 0 where
  pub known : All (IsKnownEntry (first_processes n wall)) entries
  pub sound : IsSound (first_processes n wall) entries

-- so many processes is the least number, from this one on, that fits the book
pub record IsNumberOf (wall : ChineseWall) (least : ℕ) (entries : List Entry) (n : ℕ) : Type 0 where
  pub from : least ≤ n
  pub to : n ≤ length wall.process_names
  pub fits : Fits wall entries n
  pub fewest : (m : ℕ) → least ≤ m → m < n → ¬ (Fits wall entries m)

-- no number fits the book, and this is its fault under all processes; out of memory says nothing
abbrev pub HasNoNumber : ChineseWall → (least : ℕ) → List Entry → BookFault → Type 0
HasNoNumber wall least entries (BadEntry n) = IsFirstBad wall entries n
    × ((m : ℕ) → least ≤ m → m < length wall.process_names → ¬ (Fits wall entries m))
HasNoNumber wall least entries NoMemory = Unit {0}

---- One book more.

-- The book was read under the first processes, by their least number that fits it. All else in the
-- policy stays, and what they held at the book's end is what was held before.
pub record IsAdded (was : ChainValue) (entries : List Entry) (now : ChainValue) : Type 0 where
  pub number : IsNumberOf was.wall was.least entries now.least
  pub rest : with_held now.wall [] ≡ with_held was.wall []
  pub held : IsPolicyAfter (first_processes now.least was.wall) (posts_in entries) now.wall

-- the book is sound under no number of processes
abbrev pub IsNotAdded : ChainValue → List Entry → BookFault → Type 0
IsNotAdded was entries fault = HasNoNumber was.wall was.least entries fault

---- Chains of books.

-- the newest of the books was read under so many processes at most
abbrev pub IsWithin : List Link → (n : ℕ) → Type 0
IsWithin [] n = Unit {0}
IsWithin (r ∷ older) n = (length r.wall.process_names ≤ n) × (length r.wall.homes ≤ n)

-- these are the books, the newest first: each is sound under the policy after those before it, and
-- this is the policy after all
abbrev pub StandsFor : ChainValue → List Link → Type 0
StandsFor chain links = IsChain links chain.wall × IsWithin links chain.least
