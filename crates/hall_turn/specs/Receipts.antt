-- What receipts say. (Own rules.)
use Rattle.std.specs.Prelude.{◌≡◌, ℕ, List, Option, Some, None}
use Rattle.sha2.specs.declared.Sha256.{Sha256}
use Rattle.sha2.specs.Hashers.{Holds256}
use Rattle.sha2.specs.Sha256.{sha256}
use Rattle.hall_turn.specs.declared.head.Head.{Head}

-- how far a text has come: so many entries it had, and this hasher holds it
pub record Extent : Type 0 where
  pub entries : ℕ
  pub hasher : Sha256

-- What a receipt covers: the bytes that had been written by the time that it was made, where they
-- are known, and how far the text had come, where it says so.
pub record Covered : Type 0 where
  pub contents : Option (List ℕ)
  pub extent : Option Extent

-- nothing is known of what had been written
abbrev pub nothing_known : Covered
nothing_known = record { contents = None; extent = None }

-- this head is due for a text that had come so far: so many entries, and the SHA-256 of the text;
-- none where nothing is said
abbrev pub IsHeadAt : Option Extent → Option Head → Type 0
IsHeadAt None None = Unit {0}
IsHeadAt None (Some head) = ⊥
IsHeadAt (Some far) None = ⊥
IsHeadAt (Some far) (Some head) = (head.entries ≡ far.entries)
    × ((text : List ℕ) → Holds256 far.hasher text → head.digest ≡ sha256 text)
