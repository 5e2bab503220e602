-- Buffers that are filled word by word: words of private contracts.
use Rattle.std.specs.Prelude.{ℕ, ◌+◌, ◌/◌, ◌%◌, ℤ, List, [], ◌∷◌, ◌++◌, Result, Ok, if◌then◌else◌}
use Rattle.mpi_elems.specs.declared.elem_type.ElemType.{ElemType}
use Rattle.mpi_elems.specs.Types.{is_pair}
use Rattle.mpi_elems.specs.Contents.{Contents, contents}
use Rattle.coll_text.specs.declared.fault.LineFault.{LineFault}
use Rattle.coll_text.specs.Numbers.{Word}
use Rattle.coll_text.specs.Reading.{◌>>=◌, each_of}
use Rattle.hall_script.specs.Lines.{value_of}

-- how many elements so many numbers are, the last pair maybe without its index
abbrev pub room_for : ElemType → ℕ → ℕ
room_for ty n = if is_pair ty then n / 2 + n % 2 else n

-- with more numbers
abbrev pub with_numbers : Contents → List ℤ → Contents
with_numbers b ns = contents b.elem_type (b.numbers ++ ns) b.room

-- with the number of one more word
abbrev pub with_word : Contents → Word → Result Contents LineFault
with_word b w = value_of b.elem_type w >>= λ z. Ok (with_numbers b (z ∷ []))

-- with the numbers of these words
abbrev pub with_words : Contents → List Word → Result Contents LineFault
with_words b ws = each_of (value_of b.elem_type) ws >>= λ ns. Ok (with_numbers b ns)
