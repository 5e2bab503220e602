-- How far a seal has come: words of private contracts.
use Rattle.std.specs.Prelude.{◌≡◌, ◌≤◌, ◌⊎◌, ℕ, Bool, true, false, List, ◌++◌, length}
use Rattle.std.specs.Prelude.{Option, None, Err, IsOk}
use Rattle.std.specs.Option.{option_to_list}
use Rattle.std.specs.List.{AllByRecursion}
use Rattle.wall_policy.specs.Policy.{ChineseWall}
use Rattle.run_model.specs.declared.entry.Entry.{Entry}
use Rattle.run_model.specs.Books.{IsFirstBad}
use Rattle.audit_book.specs.declared.fault.ReadFault.TheVariants.{Cut}
use Rattle.audit_book.specs.Reading.{book_in}
use Rattle.audit_book.specs.Laws.{IsSpelled}
use Rattle.audit_book.specs.Dues.{IsDueBehind}
use Rattle.book_seal.specs.declared.fault.SealFault.{SealFault}
use Rattle.book_seal.specs.declared.fault.SealFault.TheVariants.{BadLine, BadEntry, NoMemory}
use Rattle.book_seal.specs.Seals.{finished, finished_entries}
use Rattle.book_seal.specs.Refusals.{HasBadLine}

-- whether the finished lines have the end behind them, or stop before it
abbrev pub IsEnded : ChineseWall → (text : List ℕ) → Bool → Type 0
IsEnded wall text true = IsOk (book_in wall (finished text))
IsEnded wall text false = book_in wall (finished text) ≡ Err Cut

-- these are the entries of the finished lines, each of which may stand where it does
pub record IsBegun (wall : ChineseWall) (text : List ℕ) (entries : List Entry) (ended : Bool)
    : Type 0 where
  pub told : finished_entries wall text ≡ entries
  pub ends : IsEnded wall text ended

-- why none were read
abbrev pub IsUnread : ChineseWall → (text : List ℕ) → SealFault → Type 0
IsUnread wall text (BadLine n) = HasBadLine wall text n
IsUnread wall text (BadEntry n) = ⊥
IsUnread wall text NoMemory = (n : ℕ) → ¬ (HasBadLine wall text n)

-- with what was due behind them the entries are a sound book; nothing is due where they have an end
pub record IsCompleted (wall : ChineseWall) (entries : List Entry) (ended : Bool)
    (sealed : List Entry) : Type 0 where
  pub due : Option Entry
  pub is : sealed ≡ entries ++ option_to_list due
  pub behind : IsDueBehind wall entries due
  pub spelled : AllByRecursion (IsSpelled wall) (option_to_list due)
  pub none : ended ≡ true → due ≡ None
  pub few : length sealed ≤ 18446744073709551615

-- why they were not completed
abbrev pub IsUncompleted : ChineseWall → List Entry → (ended : Bool) → SealFault → Type 0
IsUncompleted wall entries ended (BadLine n) = ⊥
IsUncompleted wall entries ended (BadEntry n) =
    IsFirstBad wall entries n × ((n ≤ length entries) ⊎ (ended ≡ true))
IsUncompleted wall entries ended NoMemory = Unit {0}
