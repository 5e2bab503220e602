-- What numbering names one after the other gives.
use Rattle.std.specs.Prelude.{Bool, false, ◌||◌, List, [], ◌∷◌, ◌++◌, Option, Some, None}
use Rattle.std.specs.Prelude.{if◌then◌else◌}
use Rattle.wall_policy.specs.Names.{Name, is_in, comes_twice}

-- one of the names is in `seen`, or comes again later
abbrev pub repeats_after : List Name → List Name → Bool
repeats_after seen [] = false
repeats_after seen (n ∷ ns) = is_in seen n || repeats_after (seen ++ n ∷ []) ns

-- the names, where no one comes twice
abbrev pub table_if_distinct : List Name → Option (List Name)
table_if_distinct ns = if comes_twice ns then None else Some ns
