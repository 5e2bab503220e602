-- Words that are read where memory ran out: words of private contracts.
use Rattle.std.specs.Prelude.{ℕ, ◌%◌, not, ◌&&◌, ◌==◌, List, length, Result, Ok, Err, IsOk}
use Rattle.std.specs.Prelude.{if◌then◌else◌}
use Rattle.mpi_elems.specs.declared.elem_type.ElemType.{ElemType}
use Rattle.mpi_elems.specs.Types.{is_pair}
use Rattle.coll_text.specs.declared.fault.LineFault.{LineFault}
use Rattle.coll_text.specs.declared.fault.LineFault.TheVariants.{OddPair}
use Rattle.coll_text.specs.Numbers.{Word}
use Rattle.coll_text.specs.Reading.{◌>>=◌, Fails, each_of}
use Rattle.coll_text.specs.Checks.{checked}
use Rattle.hall_script.specs.Lines.{value_of}

-- A reader told the fault that is said, or none where none is said; what it kept may be anything.
abbrev pub Agrees : {X Y : Type 0} → Result X LineFault → Result Y LineFault → Type 0
Agrees (Ok x) said = IsOk said
Agrees (Err fault) said = Fails fault said

-- so many numbers are whole elements
abbrev pub paired : ElemType → ℕ → Result (Unit {0}) LineFault
paired ty n = if is_pair ty && not (n % 2 == 0) then Err OddPair else Ok tt

unfoldable pub values_checked : ElemType → List Word → Result (Unit {0}) LineFault
values_checked ty ws = checked (each_of (value_of ty) ws) >>= λ u. paired ty (length ws)
