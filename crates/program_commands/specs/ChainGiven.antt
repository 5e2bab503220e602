-- What the runs of a chain gave, as a report on a later one tells it: the lines of each of them,
-- and the section that they make. (Own format.)
use Rattle.std.specs.Prelude.{◌≡◌, ◌⊎◌, ◌+◌, ℕ, List, [], ◌∷◌, ◌++◌, length, codes, Option}
use Rattle.std.specs.Fmt.{decimal}
use Rattle.run_model.specs.Chains.{Link}
use Rattle.hall_script.specs.Devices.{Used, NeverFailed, IsTooLong, bytes_before}
use Rattle.chain_file.specs.declared.run.Run.{Run}
use Rattle.chain_runs.specs.Chains.{Reading, reading}
use Rattle.report_text.specs.Given.{IsGiven}
use Rattle.program_commands.specs.Auditing.{book_limit}

-- the line of a run whose book is not told of, since it has more bytes than are read whole
abbrev pub long_line : (number : ℕ) → List ℕ
long_line number =
    codes "run " ++ decimal number ++ codes ": its book is too long to tell of here\n"

-- the section behind a report; where there are no lines, it is left out with its heading
abbrev pub given_section : (lines : List ℕ) → List ℕ
given_section [] = []
given_section (c ∷ lines) = codes "\nwhat earlier runs gave, and by which entry:\n" ++ (c ∷ lines)

-- it was read without a failure, and has more bytes than are read whole
abbrev pub IsLong : {B : Type 0} → Used B → Type 0
IsLong book = NeverFailed book × IsTooLong book_limit (bytes_before book)

module _ {D : Type 0} (fails : D → ℕ) (left : D → Option (List ℕ))
    (is_at : D → List ℕ → Type 0) where
  -- so it is with the file at the path of the run's book
  abbrev pub HasLongBook : Run → Type 0
  HasLongBook run =
      (book : Reading fails left is_at run.begun.book) × IsLong (reading fails left is_at book)

  -- What the run of this number gave, which was read as this book under this policy: its lines, by
  -- the names of this policy; or, where its book is too long, that it is.
  abbrev pub IsGivenBy : Run → (number : ℕ) → Link → (lines : List ℕ) → Type 0
  IsGivenBy run number r lines = IsGiven r.wall r.book number lines
      ⊎ (HasLongBook run × (lines ≡ long_line number))

  -- The lines of what these runs gave, where the newest stands first in the list and last in the
  -- lines. The oldest has number 1.
  abbrev pub AreGiven : List Run → List Link → (lines : List ℕ) → Type 0
  AreGiven [] [] lines = lines ≡ []
  AreGiven (run ∷ before) (r ∷ older) lines = (first : List ℕ) × (own : List ℕ)
      × AreGiven before older first × IsGivenBy run (length before + 1) r own
      × (lines ≡ first ++ own)
  AreGiven runs links lines = ⊥
