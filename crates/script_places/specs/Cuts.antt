-- Where words end: words of private contracts.
use Rattle.std.specs.Prelude.{◌≡◌, ℕ, ◌+◌, ◌≤◌, ◌∷◌, ◌++◌, [], List, length, take}
use Rattle.std.specs.Prelude.{slice_get, Some, Err, codes}
use Rattle.coll_text.specs.declared.fault.LineFault.{LineFault}
use Rattle.coll_text.specs.Numbers.{Word}
use Rattle.coll_text.specs.Reading.{parts}
use Rattle.hall_script.specs.Lines.{call_of}

-- the first n words of a line are those of its first e bytes
abbrev pub IsCut : (line : List ℕ) → (n e : ℕ) → Type 0
IsCut line n e = (e ≤ length line) × (parts 32 (take e line) ≡ take n (parts 32 line))

-- for each number of words where the last of them ends
pub record AreEnds (line : List ℕ) (ends : List ℕ) : Type 0 where
  pub count : length ends ≡ length (parts 32 line)
  pub cuts : (k e : ℕ) → slice_get ends k ≡ Some e → IsCut line (k + 1) e

-- A word that is no number, no name of a kind, a type or an operation, and no verb. What it can be
-- is a label.
abbrev pub probe : Word
probe = codes "x"

-- the words have the fault, and with the probe behind them too
abbrev pub StaysWithProbe : (datasets ws : List Word) → LineFault → Type 0
StaysWithProbe datasets ws fault =
    (call_of datasets ws ≡ Err fault) × (call_of datasets (ws ++ probe ∷ []) ≡ Err fault)
