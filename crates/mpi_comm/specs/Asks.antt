-- Counting the colours of a split, from the last ask back.
use Rattle.std.specs.Prelude.{Bool, false, not, List}
use Rattle.std.specs.List.{list_any}
use Rattle.std.specs.Option.{option_map_or}
use Rattle.mpi_comm.specs.Splits.{asks_for}
use Rattle.mpi_comm.specs.declared.values.Ask.{Ask}

-- the member asks for a colour for which none of the others does
abbrev pub is_last : Ask → List Ask → Bool
is_last ask others =
    option_map_or (λ colour. not (list_any (asks_for colour) others)) ask.colour false
