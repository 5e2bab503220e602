-- The operations of reductions and their names.
use Rattle.std.specs.Prelude.{ℕ, List, [], ◌∷◌, Option, find, codes}
use Rattle.std.specs.Str.{bytes_eq}
use Rattle.wall_labels.specs.declared.op.Op.{Op}
use Rattle.wall_labels.specs.declared.op.Op.TheVariants.{Max, Min, Sum, Prod, Land, Lor, Lxor, Band}
use Rattle.wall_labels.specs.declared.op.Op.TheVariants.{Bor, Bxor, Maxloc, Minloc}

abbrev pub op_name : Op → List ℕ
op_name Max = codes "max"
op_name Min = codes "min"
op_name Sum = codes "sum"
op_name Prod = codes "prod"
op_name Land = codes "land"
op_name Lor = codes "lor"
op_name Lxor = codes "lxor"
op_name Band = codes "band"
op_name Bor = codes "bor"
op_name Bxor = codes "bxor"
op_name Maxloc = codes "maxloc"
op_name Minloc = codes "minloc"

abbrev pub all_ops : List Op
all_ops = Max ∷ Min ∷ Sum ∷ Prod ∷ Land ∷ Lor ∷ Lxor ∷ Band ∷ Bor ∷ Bxor ∷ Maxloc ∷ Minloc ∷ []

-- the operation of a name
unfoldable pub op_of : List ℕ → Option Op
op_of name = find (λ op. bytes_eq (op_name op) name) all_ops

-- the place of an operation in the list above, from 0: no two operations have one place
abbrev pub op_number : Op → ℕ
op_number Max = 0
op_number Min = 1
op_number Sum = 2
op_number Prod = 3
op_number Land = 4
op_number Lor = 5
op_number Lxor = 6
op_number Band = 7
op_number Bor = 8
op_number Bxor = 9
op_number Maxloc = 10
op_number Minloc = 11
