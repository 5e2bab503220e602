-- Why numbers are no buffer of a type.
use Rattle.std.specs.Prelude.{◌%◌, ◌==◌, List, length, ℤ, not, ◌&&◌, Option, Some, None}
use Rattle.std.specs.Prelude.{if◌then◌else◌}
use Rattle.std.specs.List.{list_all}
use Rattle.mpi_elems.specs.declared.elem_type.ElemType.{ElemType}
use Rattle.mpi_elems.specs.declared.fault.BufferFault.{BufferFault}
use Rattle.mpi_elems.specs.declared.fault.BufferFault.TheVariants.{BadNumber, OddPair, NoMemory}
use Rattle.mpi_elems.specs.Types.{is_pair}
use Rattle.mpi_elems.specs.Numbers.{is_number_of}

-- the first fault of the numbers themselves
abbrev pub fault_of : ElemType → List ℤ → Option BufferFault
fault_of ty numbers =
    if not (list_all (is_number_of ty) numbers) then Some BadNumber
    else if is_pair ty && not (length numbers % 2 == 0) then Some OddPair
    else None

-- what an answer says against the numbers: out of memory says nothing
abbrev pub input_fault : BufferFault → Option BufferFault
input_fault BadNumber = Some BadNumber
input_fault OddPair = Some OddPair
input_fault NoMemory = None
