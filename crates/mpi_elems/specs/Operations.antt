-- The operations of a reduction, on the whole numbers of a type and on pairs. (MPI 4.1, section
-- 6.9.2, and 6.9.4 for pairs; wrapping and truth values are own rules.)
use Rattle.std.specs.Prelude.{Bool, true, false, not, ◌&&◌, ◌||◌, ◌==◌, ℤ, pos, ◌+ℤ◌, ◌*ℤ◌, int_lt}
use Rattle.std.specs.Prelude.{bit_and, bit_or, bit_xor, if◌then◌else◌, unsigned_abs}
use Rattle.std.specs.Int.{int_min, int_max}
use Rattle.wall_labels.specs.declared.op.Op.{Op}
use Rattle.wall_labels.specs.declared.op.Op.TheVariants.{Max, Min, Sum, Prod, Land, Lor, Lxor, Band}
use Rattle.wall_labels.specs.declared.op.Op.TheVariants.{Bor, Bxor, Maxloc, Minloc}
use Rattle.mpi_elems.specs.declared.elem_type.ElemType.{ElemType}
use Rattle.mpi_elems.specs.Types.{is_pair}
use Rattle.mpi_elems.specs.Numbers.{wrapped, bits_of, of_bits}

-- the operations on pairs
abbrev pub is_of_pairs : Op → Bool
is_of_pairs Maxloc = true
is_of_pairs Minloc = true
is_of_pairs _ = false

-- the operation may be used on elements of the type: pairs have their own operations, and no other
unfoldable pub is_allowed : Op → ElemType → Bool
is_allowed op ty = if is_pair ty then is_of_pairs op else not (is_of_pairs op)

abbrev pub is_nonzero : ℤ → Bool
is_nonzero x = not (unsigned_abs x == 0)

-- the number that stands for a truth value
abbrev pub truth : Bool → ℤ
truth b = if b then pos 1 else pos 0

abbrev pub differs : Bool → Bool → Bool
differs true b = not b
differs false b = b

-- an operation on two numbers of a type; those on pairs have no meaning here
abbrev pub on_numbers : Op → ElemType → ℤ → ℤ → ℤ
on_numbers Max ty a b = int_max a b
on_numbers Min ty a b = int_min a b
on_numbers Sum ty a b = wrapped ty (a +ℤ b)
on_numbers Prod ty a b = wrapped ty (a *ℤ b)
on_numbers Land ty a b = truth (is_nonzero a && is_nonzero b)
on_numbers Lor ty a b = truth (is_nonzero a || is_nonzero b)
on_numbers Lxor ty a b = truth (differs (is_nonzero a) (is_nonzero b))
on_numbers Band ty a b = of_bits ty (bit_and (bits_of ty a) (bits_of ty b))
on_numbers Bor ty a b = of_bits ty (bit_or (bits_of ty a) (bits_of ty b))
on_numbers Bxor ty a b = of_bits ty (bit_xor (bits_of ty a) (bits_of ty b))
on_numbers Maxloc ty a b = a
on_numbers Minloc ty a b = a

-- the first of two pairs is the result: its value is the better one, or both have one value and its
-- index is not the higher
abbrev pub keeps_first : Op → ℤ → ℤ → ℤ → ℤ → Bool
keeps_first Minloc a i b j = int_lt a b || not (int_lt b a) && not (int_lt j i)
keeps_first _ a i b j = int_lt b a || not (int_lt a b) && not (int_lt j i)
