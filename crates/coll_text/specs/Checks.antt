-- What is told of words that are not kept: for a reader that found no memory for what they say.
-- (Own rules.)
use Rattle.std.specs.Prelude.{◌≡◌, List, Option, Result, Ok, Err}
use Rattle.mpi_elems.specs.declared.elem_type.ElemType.{ElemType}
use Rattle.coll_routes.specs.Signatures.{elem_type}
use Rattle.coll_routes.specs.declared.signature.Signature.{Signature}
use Rattle.coll_routes.specs.declared.statement.Own.{Own}
use Rattle.coll_text.specs.declared.fault.LineFault.{LineFault}
use Rattle.coll_text.specs.Numbers.{Word}
use Rattle.coll_text.specs.Reading.{◌>>=◌, Fails}

-- the first fault of a text, or that it has none
abbrev pub checked : {A : Type 0} → Result A LineFault → Result (Unit {0}) LineFault
checked said = said >>= λ x. Ok tt

-- the type of a statement's elements, and the words behind it
abbrev pub type_stated : Result ((Signature × Own) × List Word) LineFault →
    Result (Option ElemType × List Word) LineFault
type_stated said = said >>= λ s. Ok (elem_type s.0.0, s.1)

-- what a reader returned is what is said, as this view shows it
abbrev pub Shows : {X Y : Type 0} → (X → Y) → Result X LineFault → Result Y LineFault → Type 0
Shows view (Ok x) said = said ≡ Ok (view x)
Shows view (Err fault) said = Fails fault said

-- ---- words of private contracts

-- the words behind a part, where what it is does not matter
abbrev pub passed : {A : Type 0} → Result (A × List Word) LineFault →
    Result (Unit {0} × List Word) LineFault
passed said = said >>= λ x. Ok (tt, x.1)
