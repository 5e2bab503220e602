-- A kind with its fields, read from the left: the grammar that scripts and books share. (Own
-- format.)
use Rattle.std.specs.Prelude.{ℕ, ℤ, List, [], ◌∷◌, codes, Option, Some, None, option_map}
use Rattle.std.specs.Prelude.{Result, Ok, Bool, true, false, if◌then◌else◌}
use Rattle.std.specs.Str.{bytes_eq}
use Rattle.wall_labels.specs.Ops.{op_of}
use Rattle.wall_labels.specs.declared.op.Op.{Op}
use Rattle.mpi_elems.specs.Types.{type_of}
use Rattle.mpi_elems.specs.declared.elem_type.ElemType.{ElemType}
use Rattle.coll_routes.specs.Kinds.{kind_of}
use Rattle.coll_routes.specs.declared.kind.Kind.{Kind}
use Rattle.coll_routes.specs.declared.kind.Kind.TheVariants as kinds
use Rattle.coll_routes.specs.declared.signature.Signature.{Signature}
use Rattle.coll_routes.specs.declared.statement.Own.{Own}
use Rattle.coll_text.specs.declared.fault.LineFault.{LineFault}
use Rattle.coll_text.specs.declared.fault.LineFault.TheVariants.{BadField, BadKind, BadType}
use Rattle.coll_text.specs.declared.fault.LineFault.TheVariants.{UnknownOp}
use Rattle.coll_text.specs.declared.table.Form.{Form}
use Rattle.coll_text.specs.declared.table.Form.TheVariants.{Root, Operation, Typed, Count, Counts}
use Rattle.coll_text.specs.declared.table.Form.TheVariants.{Listed, Flagged, Colour, Key}
use Rattle.coll_text.specs.Table.{Fields}
use Rattle.coll_text.specs.Numbers.{Word, signed_within}
use Rattle.coll_text.specs.Reading.{◌>>=◌, some_or, word_at, number_at, number_up_to, list_of}
use Rattle.coll_text.specs.Reading.{flag_of}
use Rattle.coll_text.specs.Table.{forms_of, no_fields, signature_of, own_of}

-- a number of 32 bits
abbrev pub number_of : Word → Result ℕ LineFault
number_of word = number_up_to 4294967295 word

-- a signed number of 32 bits
abbrev pub key_of : Word → Option ℤ
key_of word = signed_within 2147483647 2147483648 word

unfoldable pub colour_of : Word → Option (Option ℤ)
colour_of word =
    if bytes_eq word (codes "undefined") then Some None else option_map Some (key_of word)

-- the fields with one more, of this form
unfoldable pub with_field : Form → Word → Fields → Result Fields LineFault
with_field Root w f = do
  n ← number_of w
  Ok (record f { root = n })
with_field Operation w f = do
  op ← some_or UnknownOp (op_of w)
  Ok (record f { op = op })
with_field Typed w f = do
  ty ← some_or BadType (type_of w)
  Ok (record f { elem_type = ty })
with_field Count w f = do
  n ← number_of w
  Ok (record f { count = n })
with_field Counts w f = do
  ns ← list_of number_of w
  Ok (record f { counts = ns })
with_field Listed w f = do
  ns ← list_of number_of w
  Ok (record f { list = ns })
with_field Flagged w f = do
  bs ← list_of flag_of w
  Ok (record f { flags = bs })
with_field Colour w f = do
  colour ← some_or BadField (colour_of w)
  Ok (record f { colour = colour })
with_field Key w f = do
  key ← some_or BadField (key_of w)
  Ok (record f { key = key })

-- one word for each form
unfoldable pub fields_at : List Form → Fields → List Word → Result (Fields × List Word) LineFault
fields_at [] f ws = Ok (f, ws)
fields_at (s ∷ ss) f ws = do
  w ← word_at ws
  g ← with_field s w.0 f
  fields_at ss g w.1

-- a kind and its fields: what the members state alike, and what the poster states for itself
unfoldable pub statement_at : List Word → Result ((Signature × Own) × List Word) LineFault
statement_at ws = do
  w ← word_at ws
  kind ← some_or BadKind (kind_of w.0)
  f ← fields_at (forms_of kind) no_fields w.1
  Ok ((signature_of kind f.0, own_of kind f.0), f.1)

-- ---- words of private contracts

-- a type of elements
unfoldable pub elem_type_at : List Word → Result (ElemType × List Word) LineFault
elem_type_at ws = do
  w ← word_at ws
  ty ← some_or BadType (type_of w.0)
  Ok (ty, w.1)

-- an operation
unfoldable pub op_at : List Word → Result (Op × List Word) LineFault
op_at ws = do
  w ← word_at ws
  op ← some_or UnknownOp (op_of w.0)
  Ok (op, w.1)

-- a type of elements and their number
unfoldable pub block_at : List Word → Result ((ElemType × ℕ) × List Word) LineFault
block_at ws = do
  ty ← elem_type_at ws
  n ← number_at 4294967295 ty.1
  Ok ((ty.0, n.0), n.1)

-- an operation, a type of elements and their number
unfoldable pub folded_at : List Word → Result ((Op × ElemType × ℕ) × List Word) LineFault
folded_at ws = do
  op ← op_at ws
  b ← block_at op.1
  Ok ((op.0, b.0.0, b.0.1), b.1)

-- a rank, a type of elements and their number
unfoldable pub rooted_at : List Word → Result ((ℕ × ElemType × ℕ) × List Word) LineFault
rooted_at ws = do
  root ← number_at 4294967295 ws
  b ← block_at root.1
  Ok ((root.0, b.0.0, b.0.1), b.1)

-- a rank, an operation, a type of elements and their number
unfoldable pub reduced_at : List Word → Result ((ℕ × Op × ElemType × ℕ) × List Word) LineFault
reduced_at ws = do
  root ← number_at 4294967295 ws
  b ← folded_at root.1
  Ok ((root.0, b.0.0, b.0.1, b.0.2), b.1)

-- a rank and a type of elements
unfoldable pub gathered_at : List Word → Result ((ℕ × ElemType) × List Word) LineFault
gathered_at ws = do
  root ← number_at 4294967295 ws
  ty ← elem_type_at root.1
  Ok ((root.0, ty.0), ty.1)

-- a list of numbers
unfoldable pub numbers_at : List Word → Result (List ℕ × List Word) LineFault
numbers_at ws = do
  w ← word_at ws
  ns ← list_of number_of w.0
  Ok (ns, w.1)

-- a list of flags
unfoldable pub flags_at : List Word → Result (List Bool × List Word) LineFault
flags_at ws = do
  w ← word_at ws
  bs ← list_of flag_of w.0
  Ok (bs, w.1)

unfoldable pub colour_at : List Word → Result (Option ℤ × List Word) LineFault
colour_at ws = do
  w ← word_at ws
  colour ← some_or BadField (colour_of w.0)
  Ok (colour, w.1)

unfoldable pub key_at : List Word → Result (ℤ × List Word) LineFault
key_at ws = do
  w ← word_at ws
  key ← some_or BadField (key_of w.0)
  Ok (key, w.1)

-- the fields of this kind, and what they make
unfoldable pub stated_at : Kind → List Word → Result ((Signature × Own) × List Word) LineFault
stated_at kind ws = do
  f ← fields_at (forms_of kind) no_fields ws
  Ok ((signature_of kind f.0, own_of kind f.0), f.1)

-- the kinds whose fields are no lists, no colour and no key
abbrev pub is_plain : Kind → Bool
is_plain kinds.Scatterv = false
is_plain kinds.Alltoallv = false
is_plain kinds.NeighborAlltoallv = false
is_plain kinds.ReduceScatter = false
is_plain kinds.Split = false
is_plain kinds.Create = false
is_plain kinds.CartCreate = false
is_plain kinds.CartSub = false
is_plain _ = true

-- those among these that reduce
abbrev pub reduces : Kind → Bool
reduces kinds.Reduce = true
reduces kinds.Allreduce = true
reduces kinds.ReduceScatterBlock = true
reduces kinds.Scan = true
reduces kinds.Exscan = true
reduces _ = false
