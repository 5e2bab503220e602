-- What is written at one call.
use Rattle.std.specs.Prelude.{◌≡◌, ℕ, List, Option, Some, None, Result, Ok, Err}
use Rattle.std.specs.Io.KnownBytes.{Appends}
use Rattle.wall_labels.specs.Known.{AppendsPrefix}
use Rattle.live_book.specs.declared.unbooked.Unbooked.{Unbooked}
use Rattle.live_book.specs.Books.{IsUnbooked, SinkValue}

-- what clauses tell of a sink, by what its type says of it
abbrev pub sink_value : {B : Type 0} → (contents lasting : B → Option (List ℕ)) →
    (failures : B → ℕ) → B → SinkValue
sink_value contents lasting failures sink = record {
  contents = contents sink;
  lasting = lasting sink;
  failures = failures sink;
}

-- all of these bytes were written
pub record WritesAll (old new : SinkValue) (bytes : List ℕ) : Type 0 where
  pub written : Appends old.contents new.contents bytes
  pub went : new.failures ≡ old.failures

-- a prefix of them was, and why no more
pub record WritesPrefix (fault : Unbooked) (old new : SinkValue) (bytes : List ℕ) : Type 0 where
  pub prefix : AppendsPrefix old.contents new.contents bytes
  pub is_fault : IsUnbooked fault old.failures new.failures

-- what a call says of it: all of them were, or a prefix, and why no more
abbrev pub TellsWritten : {X : Type 0} → Result X Unbooked → (old new : SinkValue) → List ℕ →
    Type 0
TellsWritten (Ok x) old new bytes = WritesAll old new bytes
TellsWritten (Err fault) old new bytes = WritesPrefix fault old new bytes

-- Nothing is written where there was a fault, and the fault stays. Else all bytes are, or there is
-- one now.
abbrev pub Writes : (before after : Option Unbooked) → (old new : SinkValue) → List ℕ → Type 0
Writes (Some fault) after old new bytes = (after ≡ Some fault) × (new ≡ old)
Writes None None old new bytes = WritesAll old new bytes
Writes None (Some fault) old new bytes = WritesPrefix fault old new bytes
