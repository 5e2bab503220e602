-- The value of a book in clauses.
use Rattle.std.specs.Prelude.{ℕ, List}
use Rattle.run_model.specs.declared.entry.Entry.{Entry}

-- its entries, the oldest first, and for how many more there is room
pub record Entries : Type 0 where
  pub list : List Entry
  pub room : ℕ
