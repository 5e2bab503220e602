-- What a desk tells of its reads, and of the receipts that it was shown. (Own rules.) Both have the
-- newest first.
use Rattle.std.specs.Prelude.{◌≡◌, ℕ, List, [], ◌∷◌, ◌++◌, take, Option, Some, None}
use Rattle.std.specs.Prelude.{Result, Ok, Err}
use Rattle.hall_turn.specs.Receipts.{Covered}

-- A read: the bytes that it gave, and those that had been written to the sink beside it by then,
-- where they are known.
pub record Heard : Type 0 where
  pub bytes : List ℕ
  pub written : Option (List ℕ)

-- A receipt that was shown: what it covers, and the bytes that had been written to the sink beside
-- the desk by then, where they are known.
pub record Shown : Type 0 where
  pub covers : Covered
  pub written : Option (List ℕ)

-- what a desk tells, as far as it is known: its reads, and the receipts that it was shown
pub record DeskLog : Type 0 where
  pub reads : Option (List Heard)
  pub shows : Option (List Shown)

-- a desk that tells nothing
abbrev pub untold_log : DeskLog
untold_log = record { reads = None; shows = None }

-- known ones grow by these
abbrev pub Tells : {X : Type 0} → (old new : Option (List X)) → List X → Type 0
Tells None new more = Unit {0}
Tells (Some past) None more = ⊥
Tells (Some past) (Some now) more = now ≡ more ++ past

-- one read, into the front of the buffer; none where it failed
abbrev pub read_into : {E : Type 0} → Result ℕ E → (buffer : List ℕ) →
    (written : Option (List ℕ)) → List Heard
read_into (Ok n) buffer written = record { bytes = take n buffer; written = written } ∷ []
read_into (Err error) buffer written = []

-- the bytes that the reads gave, in order
abbrev pub text_of : List Heard → List ℕ
text_of [] = []
text_of (read ∷ past) = text_of past ++ read.bytes
