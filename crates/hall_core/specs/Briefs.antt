-- What a hall keeps that lets go of entries of its book.
use Rattle.std.specs.Prelude.{◌≡◌, List, ◌∷◌, ◌++◌, length, drop}
use Rattle.wall_policy.specs.Policy.{ChineseWall}
use Rattle.run_model.specs.declared.entry.Entry.{Entry as BookEntry}
use Rattle.run_model.specs.Books.{book}
use Rattle.run_model.specs.Runs.{Entry, posts}
use Rattle.hall_core.specs.declared.records.Records.{Records}
use Rattle.hall_core.specs.Halls.{HallValue}
use Rattle.hall_core.specs.Invariant.{IsHallView, value_in, view_in}

-- the value of such a hall in clauses
pub record BriefHallValue : Type 0 where
  -- what a hall keeps that has its whole book
  pub hall : HallValue
  -- the entries that were let go, and those that came since
  pub gone : List BookEntry
  pub news : List BookEntry

-- With this entry of the run the book has these entries more, and the news have them too.
pub record Adds (wall : ChineseWall) (run : List Entry) (e : Entry) (old new : List BookEntry)
    : Type 0 where
  pub added : List BookEntry
  pub book : book wall (posts (e ∷ run)) ≡ book wall (posts run) ++ added
  pub news : new ≡ old ++ added

-- ## what is kept

-- the entries of the book that are kept
abbrev pub kept_in : Records → List BookEntry
kept_in records = drop (length records.book.gone) records.book.list

-- the value of these records
abbrev pub brief_in : Records → BriefHallValue
brief_in records = record {
  hall = value_in records;
  gone = records.book.gone;
  news = kept_in records;
}

-- they are a hall's, and of its book those in front are gone
pub record IsBrief (records : Records) : Type 0 where
  pub hall : IsHallView (view_in records)
  pub whole : records.book.gone ++ kept_in records ≡ records.book.list
