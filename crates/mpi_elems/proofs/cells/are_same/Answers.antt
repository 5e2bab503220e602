use Rattle.mpi_elems.specs.declared.elem_type.ElemType.TheVariants.{Int8, Int16, Int32, Int64}
use Rattle.mpi_elems.specs.declared.elem_type.ElemType.TheVariants.{Uint8, Uint16, Uint32, Uint64}
use Rattle.mpi_elems.proofs.ElementLemmas.{signed_tells, unsigned_tells, pairs_tell}
use Rattle.mpi_elems.proofs.cells.are_same.Goals as goal

pub returns-in-I8-b : goal.returns-in-I8-b
returns-in-I8-b c = rw (c.in-I8.is, c.in-I8-b.is) (signed_tells Int8 _ _ _ _ _
    c.as_slice.ensures.value c.as_slice-in-I8-b.ensures.value c.eq.ensures)

pub returns-in-I16-b : goal.returns-in-I16-b
returns-in-I16-b c = rw (c.in-I16.is, c.in-I16-b.is) (signed_tells Int16 _ _ _ _ _
    c.as_slice-in-I16-b.ensures.value c.as_slice-in-I16-b-2.ensures.value c.eq-in-I16-b.ensures)

pub returns-in-I32-b : goal.returns-in-I32-b
returns-in-I32-b c = rw (c.in-I32.is, c.in-I32-b.is) (signed_tells Int32 _ _ _ _ _
    c.as_slice-in-I32-b.ensures.value c.as_slice-in-I32-b-2.ensures.value c.eq-in-I32-b.ensures)

pub returns-in-I64-b : goal.returns-in-I64-b
returns-in-I64-b c = rw (c.in-I64.is, c.in-I64-b.is) (signed_tells Int64 _ _ _ _ _
    c.as_slice-in-I64-b.ensures.value c.as_slice-in-I64-b-2.ensures.value c.eq-in-I64-b.ensures)

pub returns-in-U8-b : goal.returns-in-U8-b
returns-in-U8-b c = rw (c.in-U8.is, c.in-U8-b.is) (unsigned_tells Uint8 _ _ _ _ _
    c.as_slice-in-U8-b.ensures.value c.as_slice-in-U8-b-2.ensures.value c.eq-in-U8-b.ensures)

pub returns-in-U16-b : goal.returns-in-U16-b
returns-in-U16-b c = rw (c.in-U16.is, c.in-U16-b.is) (unsigned_tells Uint16 _ _ _ _ _
    c.as_slice-in-U16-b.ensures.value c.as_slice-in-U16-b-2.ensures.value c.eq-in-U16-b.ensures)

pub returns-in-U32-b : goal.returns-in-U32-b
returns-in-U32-b c = rw (c.in-U32.is, c.in-U32-b.is) (unsigned_tells Uint32 _ _ _ _ _
    c.as_slice-in-U32-b.ensures.value c.as_slice-in-U32-b-2.ensures.value c.eq-in-U32-b.ensures)

pub returns-in-U64-b : goal.returns-in-U64-b
returns-in-U64-b c = rw (c.in-U64.is, c.in-U64-b.is) (unsigned_tells Uint64 _ _ _ _ _
    c.as_slice-in-U64-b.ensures.value c.as_slice-in-U64-b-2.ensures.value c.eq-in-U64-b.ensures)

pub returns-in-Pairs-b : goal.returns-in-Pairs-b
returns-in-Pairs-b c = rw (c.in-Pairs.is, c.in-Pairs-b.is) (pairs_tell _ _ _ _ _
    c.as_slice-in-Pairs-b.ensures.value c.as_slice-in-Pairs-b-2.ensures.value
    c.eq-in-Pairs-b.ensures)
