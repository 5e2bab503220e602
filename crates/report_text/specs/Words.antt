-- The words of lines, and how a line is folded. (Own format.)
use Rattle.std.specs.Prelude.{ℕ, ◌+◌, ◌-◌, nat_lt, List, [], ◌∷◌, ◌++◌, length, slice_get, codes}
use Rattle.std.specs.Prelude.{Option, Some, None, if◌then◌else◌}
use Rattle.std.specs.Fmt.{decimal}
use Rattle.wall_policy.specs.Policy.{ChineseWall}
use Rattle.coll_routes.specs.Kinds.{kind_name}
use Rattle.coll_routes.specs.Signatures.{kind}
use Rattle.coll_text.specs.Words.{name_at}
use Rattle.run_model.specs.declared.entry.Entry.{Entry}
use Rattle.run_model.specs.declared.entry.Entry.TheVariants.{Posted, Settled}

-- the names of a process and of a dataset; a number that is none of the policy's has no name
abbrev pub process_name : ChineseWall → ℕ → List ℕ
process_name wall p = name_at wall.process_names p

abbrev pub dataset_name : ChineseWall → ℕ → List ℕ
dataset_name wall d = name_at wall.dataset_names d

-- instance k of communicator c, as a book spells it
abbrev pub pair_text : (c k : ℕ) → List ℕ
pair_text c k = decimal c ++ codes " " ++ decimal k

-- the kind of collective that a post states, as a book spells it
abbrev pub kind_in : Option Entry → List ℕ
kind_in (Some (Posted p c stated)) = kind_name (kind stated.sig)
kind_in (Some (Settled c k outcome)) = []
kind_in None = []

-- the kind that entry n states, counted from 1
abbrev pub kind_at : List Entry → (n : ℕ) → List ℕ
kind_at entries n = kind_in (slice_get entries (n - 1))

-- Two parts of a line with a space between them. Where they would have more than so many columns,
-- the second has a line of its own, two columns further in.
unfoldable pub folded : (columns : ℕ) → (first second : List ℕ) → List ℕ
folded columns first second = if nat_lt (length first + length second) columns
    then first ++ codes " " ++ second else first ++ codes "\n  " ++ second

-- the texts of things one behind the other, each with its number, where the first has number n
abbrev pub numbered : {A : Type 0} → (ℕ → A → List ℕ) → (n : ℕ) → List A → List ℕ
numbered text n [] = []
numbered text n (x ∷ xs) = text n x ++ numbered text (n + 1) xs
