-- What is due behind the entries of a book.
use Rattle.std.specs.Prelude.{◌≡◌, ◌≤◌, List, [], ◌++◌, length, Option}
use Rattle.std.specs.Option.{option_to_list}
use Rattle.wall_policy.specs.Policy.{ChineseWall}
use Rattle.run_model.specs.declared.entry.Entry.{Entry}
use Rattle.run_model.specs.Books.{posts_in, IsSound, IsFirstBad}
use Rattle.audit_book.specs.declared.check_fault.BookFault.{BookFault}
use Rattle.audit_book.specs.declared.check_fault.BookFault.TheVariants.{BadEntry, NoMemory}

-- with this entry behind them, if there is one, the entries are a sound book; it is no post
pub record IsDueBehind (wall : ChineseWall) (entries : List Entry) (due : Option Entry)
    : Type 0 where
  pub sound : IsSound wall (entries ++ option_to_list due)
  pub no_post : posts_in (option_to_list due) ≡ []

-- the first bad entry is one of these; out of memory says nothing
abbrev pub IsFaultWithin : ChineseWall → List Entry → BookFault → Type 0
IsFaultWithin wall entries (BadEntry n) = IsFirstBad wall entries n × (n ≤ length entries)
IsFaultWithin wall entries NoMemory = Unit {0}
