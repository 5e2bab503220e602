-- The value of a ledger in clauses.
use Rattle.std.specs.Prelude.{◌≡◌, ◌+◌, ℕ, List, [], ◌∷◌, ◌++◌}
use Rattle.run_model.specs.declared.entry.Entry.{Entry as BookEntry}

-- all its entries, the oldest first; those in front that are kept no longer; and for how many more
-- there is room
pub record LedgerValue : Type 0 where
  pub list : List BookEntry
  pub gone : List BookEntry
  pub room : ℕ

-- this entry was added, for which there was room
pub record AddsEntry (old new : LedgerValue) (e : BookEntry) : Type 0 where
  pub list : new.list ≡ old.list ++ e ∷ []
  pub gone : new.gone ≡ old.gone
  pub room : new.room + 1 ≡ old.room
