-- What is found of the text of a book. (Own rule.)
use Rattle.std.specs.Prelude.{◌≡◌, ℕ, ◌+◌, ◌-◌, List, length, slice_get, Ok, Err}
use Rattle.wall_policy.specs.Policy.{ChineseWall}
use Rattle.run_model.specs.declared.entry.Entry.{Entry}
use Rattle.run_model.specs.Books.{IsSound, IsFirstBad}
use Rattle.run_model.specs.PostLaws.{KeepsTheWall}
use Rattle.audit_book.specs.declared.fault.ReadFault.TheVariants.{BadLine, Cut as IsCut}
use Rattle.audit_book.specs.Reading.{book_in}
use Rattle.book_places.specs.declared.owed.Stands.{Stands}
use Rattle.book_places.specs.declared.owed.Owed.{Owed}
use Rattle.book_places.specs.declared.place.Found.{Found}
use Rattle.book_places.specs.declared.place.Found.TheVariants.{Sound, Line, Cut, Entry as BadEntry}
use Rattle.book_places.specs.Places.{IsDueAt}
use Rattle.book_places.specs.Owed.{IsOwedAt, IsKnownOwed, StandsAt, standing}

-- it is sound, keeps the wall, and has so many entries
pub record IsSoundBook (wall : ChineseWall) (entries : List Entry) (n : ℕ) : Type 0 where
  pub sound : IsSound wall entries
  pub keeps : KeepsTheWall wall entries
  pub number : n ≡ length entries

-- the entry of that number is the first that the posts don't give; on which line it stands, what
-- stands there, and what was due
pub record IsBadEntry (wall : ChineseWall) (entries : List Entry) (n line : ℕ) (stands : Stands)
    (owed : Owed) : Type 0 where
  pub bad : IsFirstBad wall entries n
  pub behind : line ≡ n + 1
  pub what : stands ≡ standing (slice_get entries (n - 1))
  pub due : IsOwedAt wall entries n owed

abbrev pub IsFoundOf : ChineseWall → List Entry → Found → Type 0
IsFoundOf wall entries (Sound n) = IsSoundBook wall entries n
IsFoundOf wall entries (BadEntry n line stands owed) = IsBadEntry wall entries n line stands owed
IsFoundOf wall entries _ = ⊥

-- The text is a sound book; or a line of it should not stand there; or it is cut; or it is a book
-- with a bad entry, which stands on that line of the text.
abbrev pub IsFoundIn : ChineseWall → (text : List ℕ) → Found → Type 0
IsFoundIn wall text (Sound n) =
    (entries : List Entry) × (book_in wall text ≡ Ok entries) × IsSoundBook wall entries n
IsFoundIn wall text (Line n due) =
    (book_in wall text ≡ Err (BadLine n)) × IsDueAt wall text n due
IsFoundIn wall text Cut = book_in wall text ≡ Err IsCut
IsFoundIn wall text (BadEntry n line stands owed) =
    (entries : List Entry) × (book_in wall text ≡ Ok entries)
    × IsBadEntry wall entries n line stands owed × StandsAt wall text entries n line

-- it names only what the policy has
abbrev pub IsKnownFound : ChineseWall → Found → Type 0
IsKnownFound wall (BadEntry n line stands owed) = IsKnownOwed wall owed
IsKnownFound wall _ = Unit {0}
