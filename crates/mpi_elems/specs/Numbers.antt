-- Which whole numbers a type has, and which of them a number stands for that it hasn't.
use Rattle.std.specs.Prelude.{ℕ, Bool, ◌&&◌, ◌^◌, ◌-◌, ℤ, pos, neg_ℤ, int_lt, int_le, unsigned_abs}
use Rattle.std.specs.Int.{w8, w16, w32, w64, int_rem_euclid, int_wrap, cast_signed, cast_unsigned}
use Rattle.mpi_elems.specs.declared.elem_type.ElemType.{ElemType}
use Rattle.mpi_elems.specs.declared.elem_type.ElemType.TheVariants.{Int8, Int16, Int32, Int64}
use Rattle.mpi_elems.specs.declared.elem_type.ElemType.TheVariants.{Uint8, Uint16, Uint32, Uint64}
use Rattle.mpi_elems.specs.declared.elem_type.ElemType.TheVariants.{TwoInt}

-- from -2 ^ (k - 1) to 2 ^ (k - 1) - 1
abbrev pub is_signed_of : ℕ → ℤ → Bool
is_signed_of k x = int_le (neg_ℤ (pos (2 ^ (k - 1)))) x && int_lt x (pos (2 ^ (k - 1)))

-- from 0 to 2 ^ k - 1
abbrev pub is_unsigned_of : ℕ → ℤ → Bool
is_unsigned_of k x = int_le (pos 0) x && int_lt x (pos (2 ^ k))

-- the type has this number; each number of a pair is signed, of 32 bits
unfoldable pub is_number_of : ElemType → ℤ → Bool
is_number_of Int8 x = is_signed_of 8 x
is_number_of Int16 x = is_signed_of 16 x
is_number_of Int32 x = is_signed_of 32 x
is_number_of Int64 x = is_signed_of 64 x
is_number_of Uint8 x = is_unsigned_of 8 x
is_number_of Uint16 x = is_unsigned_of 16 x
is_number_of Uint32 x = is_unsigned_of 32 x
is_number_of Uint64 x = is_unsigned_of 64 x
is_number_of TwoInt x = is_signed_of 32 x

-- the number of the type that is x modulo two to the type's bits: sums and products wrap in two's
-- complement (own rule)
abbrev pub wrapped : ElemType → ℤ → ℤ
wrapped Int8 x = int_wrap w8 x
wrapped Int16 x = int_wrap w16 x
wrapped Int32 x = int_wrap w32 x
wrapped Int64 x = int_wrap w64 x
wrapped Uint8 x = int_rem_euclid x (pos (2 ^ 8))
wrapped Uint16 x = int_rem_euclid x (pos (2 ^ 16))
wrapped Uint32 x = int_rem_euclid x (pos (2 ^ 32))
wrapped Uint64 x = int_rem_euclid x (pos (2 ^ 64))
wrapped TwoInt x = int_wrap w32 x

-- the two's complement of a number of the type, as a number that isn't negative
abbrev pub bits_of : ElemType → ℤ → ℕ
bits_of Int8 x = cast_unsigned w8 x
bits_of Int16 x = cast_unsigned w16 x
bits_of Int32 x = cast_unsigned w32 x
bits_of Int64 x = cast_unsigned w64 x
bits_of Uint8 x = unsigned_abs x
bits_of Uint16 x = unsigned_abs x
bits_of Uint32 x = unsigned_abs x
bits_of Uint64 x = unsigned_abs x
bits_of TwoInt x = cast_unsigned w32 x

-- the number of the type that has this two's complement
abbrev pub of_bits : ElemType → ℕ → ℤ
of_bits Int8 n = cast_signed w8 n
of_bits Int16 n = cast_signed w16 n
of_bits Int32 n = cast_signed w32 n
of_bits Int64 n = cast_signed w64 n
of_bits Uint8 n = pos n
of_bits Uint16 n = pos n
of_bits Uint32 n = pos n
of_bits Uint64 n = pos n
of_bits TwoInt n = cast_signed w32 n
