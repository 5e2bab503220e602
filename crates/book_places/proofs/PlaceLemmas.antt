-- What is found of a book is found of its text.
use Rattle.std.proofs.Common.{◌≡◌, ℕ, List, Ok}
use Rattle.wall_policy.specs.Policy.{ChineseWall}
use Rattle.run_model.specs.declared.entry.Entry.{Entry}
use Rattle.audit_book.specs.Reading.{book_in}
use Rattle.book_places.specs.declared.place.Found.{Found}
use Rattle.book_places.specs.declared.place.Found.TheVariants.{Sound, Line, Cut, Entry as BadEntry}
use Rattle.book_places.specs.Books.{IsFoundOf, IsFoundIn}
use Rattle.book_places.proofs.EntryLemmas.{stands_on}

pub found_is : (wall : ChineseWall) (text : List ℕ) (entries : List Entry) →
    book_in wall text ≡ Ok entries → (found : Found) → IsFoundOf wall entries found →
    IsFoundIn wall text found
found_is wall text entries read (Sound n) h = (entries, read, h)
found_is wall text entries read (Line n due) h = absurd h
found_is wall text entries read Cut h = absurd h
found_is wall text entries read (BadEntry n line stands owed) h =
    (entries, read, h, stands_on wall text entries n line read h.bad h.behind)
