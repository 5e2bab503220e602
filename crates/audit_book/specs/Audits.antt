-- How far an audit has come, and how it goes on by one entry.
use Rattle.std.specs.Prelude.{◌≡◌, ℕ, ◌<◌, ◌≤◌, ◌^◌, List, [], ◌∷◌, ◌++◌, length}
use Rattle.std.specs.Option.{option_map}
use Rattle.wall_policy.specs.Policy.{ChineseWall}
use Rattle.run_model.specs.declared.entry.Entry.{Entry}
use Rattle.run_model.specs.declared.entry.Entry.TheVariants.{Posted, Settled}
use Rattle.run_model.specs.Books.{posts_in, IsSound, Begins}
use Rattle.audit_book.specs.declared.audit.Audit.{Audit}
use Rattle.audit_book.specs.declared.audit.Step.{Step}
use Rattle.audit_book.specs.declared.audit.Step.TheVariants.{Counted, Stood}
use Rattle.audit_book.specs.declared.audit.StepFault.{StepFault}
use Rattle.audit_book.specs.declared.audit.StepFault.TheVariants as faults
use Rattle.audit_book.specs.declared.check_fault.BookFault.{BookFault}
use Rattle.audit_book.specs.declared.check_fault.BookFault.TheVariants.{BadEntry, NoMemory}
use Rattle.audit_book.specs.Checks.{entry_of, post_of, IsToldOf, IsRight}
use Rattle.audit_book.specs.Dues.{IsDueBehind}

-- The audit has gone through these entries, and their posts give them all; the next has to be the
-- one that is due, if there is one.
pub record HasSeen (wall : ChineseWall) (audit : Audit) (entries : List Entry) : Type 0 where
  pub number : audit.entries ≡ length entries
  pub right : IsRight wall audit.post_state entries audit.due

abbrev pub IsUnderWay : ChineseWall → Audit → Type 0
IsUnderWay wall audit = (entries : List Entry) × HasSeen wall audit entries

-- it has gone through these, and they are a sound book
abbrev pub IsSeenWhole : ChineseWall → List Entry → Audit → Type 0
IsSeenWhole wall entries audit = HasSeen wall audit entries × IsSound wall entries

-- what an entry did, behind these
abbrev pub Did : ChineseWall → List Entry → Entry → Step → Type 0
Did wall entries (Posted p c s) (Counted told) =
    IsToldOf wall (post_of p c s) (posts_in entries) told
Did wall entries (Posted p c s) Stood = ⊥
Did wall entries (Settled c k o) (Counted told) = ⊥
Did wall entries (Settled c k o) Stood = Unit {0}

-- it went on by this entry, which did this
abbrev pub StepsOn : ChineseWall → (old new : Audit) → Entry → Step → Type 0
StepsOn wall old new entry step = (entries : List Entry) → HasSeen wall old entries →
    HasSeen wall new (entries ++ entry ∷ []) × Did wall entries entry step

-- Why no audit goes on by an entry behind these: no sound book does, and this outcome was due, or
-- none; or there are too many before it; or memory ran out, and a sound book goes on with it.
abbrev pub IsStepFault : ChineseWall → List Entry → Entry → StepFault → Type 0
IsStepFault wall entries entry (faults.Wrong due) =
    IsDueBehind wall entries (option_map entry_of due) × (Begins wall (entries ++ entry ∷ []) → ⊥)
IsStepFault wall entries entry faults.Full = 2 ^ 62 ≤ length entries
IsStepFault wall entries entry faults.NoMemory = Begins wall (entries ++ entry ∷ [])

-- it did not go on, for this reason, and stands where it stood
abbrev pub StepsNot : ChineseWall → (old new : Audit) → Entry → StepFault → Type 0
StepsNot wall old new entry fault = (entries : List Entry) → HasSeen wall old entries →
    HasSeen wall new entries × IsStepFault wall entries entry fault

-- the fault of a book at whose entry of this number an audit does not go on
abbrev pub book_fault : (number : ℕ) → StepFault → BookFault
book_fault number faults.NoMemory = NoMemory
book_fault number (faults.Wrong due) = BadEntry number
book_fault number faults.Full = BadEntry number

-- ---- what goes along with an audit

module _ {W : Type 0} (follows : ChineseWall → List Entry → W → Type 0) where
  -- an audit has gone on by this entry, which did this, behind entries that it follows
  abbrev pub MaySee : ChineseWall → Audit → W → Entry → Step → Type 0
  MaySee wall audit watch entry step = (entries : List Entry)
      × HasSeen wall audit (entries ++ entry ∷ []) × Did wall entries entry step
      × follows wall entries watch

  -- it follows the entries with this one
  abbrev pub GoesAlong : ChineseWall → Audit → (old new : W) → Entry → Step → Type 0
  GoesAlong wall audit old new entry step = (entries : List Entry) →
      HasSeen wall audit (entries ++ entry ∷ []) → Did wall entries entry step →
      follows wall entries old → follows wall (entries ++ entry ∷ []) new

-- nothing is asked
abbrev pub follows_all : {W : Type 0} → ChineseWall → List Entry → W → Type 0
follows_all wall entries watch = Unit {0}
