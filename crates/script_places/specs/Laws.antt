-- What holds of all lines.
use Rattle.std.specs.Prelude.{◌≡◌, ℕ, List}
use Rattle.coll_text.specs.declared.fault.LineFault.{LineFault}
use Rattle.coll_text.specs.Numbers.{Word}
use Rattle.wall_policy.specs.Policy.{ChineseWall}
use Rattle.script_places.specs.Places.{HaveFault, IsFaultColumn}
use Rattle.script_places.specs.Cuts.{StaysWithProbe}

-- a fault that stays with the probe behind the words stays whatever stands behind them
abbrev pub ProbeTells : Type 0
ProbeTells = (datasets ws : List Word) (fault : LineFault) → StaysWithProbe datasets ws fault →
    HaveFault datasets ws fault

-- the fault of a line stands in one column
abbrev pub ColumnsAreUnique : Type 0
ColumnsAreUnique = (wall : ChineseWall) (line : List ℕ) (fault : LineFault) (c d : ℕ) →
    IsFaultColumn wall line fault c → IsFaultColumn wall line fault d → c ≡ d
