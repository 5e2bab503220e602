-- The fields of each kind in their order, and what they make. (Own format; the kinds are those of
-- MPI 4.1, chapters 6 to 8.)
use Rattle.std.specs.Prelude.{ℕ, ℤ, pos, Bool, List, [], ◌∷◌, Option, None, unwrap_or}
use Rattle.wall_labels.specs.declared.op.Op.{Op}
use Rattle.wall_labels.specs.declared.op.Op.TheVariants as ops
use Rattle.mpi_elems.specs.declared.elem_type.ElemType.{ElemType}
use Rattle.mpi_elems.specs.declared.elem_type.ElemType.TheVariants as types
use Rattle.coll_routes.specs.declared.kind.Kind.{Kind}
use Rattle.coll_routes.specs.declared.kind.Kind.TheVariants as kinds
use Rattle.coll_routes.specs.declared.signature.Signature.{Signature}
use Rattle.coll_routes.specs.declared.statement.Own.{Own}
use Rattle.coll_routes.specs.declared.statement.Own.TheVariants as owns
use Rattle.coll_routes.specs.Signatures.{root, reduction, elem_type, count, numbers, flags}
use Rattle.coll_routes.specs.Signatures.{signature_by}
use Rattle.coll_routes.specs.Rolls.{counts_in}
use Rattle.coll_text.specs.declared.table.Form.{Form}
use Rattle.coll_text.specs.declared.table.Form.TheVariants.{Root, Operation, Typed, Count, Counts}
use Rattle.coll_text.specs.declared.table.Form.TheVariants.{Listed, Flagged, Colour, Key}

-- the fields of a statement; a kind has some of them
pub record Fields : Type 0 where
  pub root : ℕ
  pub op : Op
  pub elem_type : ElemType
  pub count : ℕ
  pub counts : List ℕ
  pub list : List ℕ
  pub flags : List Bool
  pub colour : Option ℤ
  pub key : ℤ

unfoldable pub forms_of : Kind → List Form
forms_of kinds.Barrier = []
forms_of kinds.Bcast = Root ∷ Typed ∷ Count ∷ []
forms_of kinds.Gather = Root ∷ Typed ∷ Count ∷ []
forms_of kinds.Gatherv = Root ∷ Typed ∷ []
forms_of kinds.Scatter = Root ∷ Typed ∷ Count ∷ []
forms_of kinds.Scatterv = Root ∷ Typed ∷ Counts ∷ []
forms_of kinds.Allgather = Typed ∷ Count ∷ []
forms_of kinds.Allgatherv = Typed ∷ []
forms_of kinds.Alltoall = Typed ∷ Count ∷ []
forms_of kinds.Alltoallv = Typed ∷ Counts ∷ []
forms_of kinds.Reduce = Root ∷ Operation ∷ Typed ∷ Count ∷ []
forms_of kinds.Allreduce = Operation ∷ Typed ∷ Count ∷ []
forms_of kinds.ReduceScatter = Operation ∷ Typed ∷ Listed ∷ []
forms_of kinds.ReduceScatterBlock = Operation ∷ Typed ∷ Count ∷ []
forms_of kinds.Scan = Operation ∷ Typed ∷ Count ∷ []
forms_of kinds.Exscan = Operation ∷ Typed ∷ Count ∷ []
forms_of kinds.NeighborAllgather = Typed ∷ Count ∷ []
forms_of kinds.NeighborAllgatherv = Typed ∷ []
forms_of kinds.NeighborAlltoall = Typed ∷ Count ∷ []
forms_of kinds.NeighborAlltoallv = Typed ∷ Counts ∷ []
forms_of kinds.Dup = []
forms_of kinds.Split = Colour ∷ Key ∷ []
forms_of kinds.Create = Listed ∷ []
forms_of kinds.CartCreate = Listed ∷ Flagged ∷ []
forms_of kinds.CartSub = Flagged ∷ []

-- what all members state alike
abbrev pub signature_of : Kind → Fields → Signature
signature_of kind f = signature_by kind f.root f.op f.elem_type f.count f.list f.flags

-- what a poster states for itself alone
unfoldable pub own_of : Kind → Fields → Own
own_of kinds.Barrier f = owns.Plain
own_of kinds.Bcast f = owns.Plain
own_of kinds.Gather f = owns.Plain
own_of kinds.Gatherv f = owns.Plain
own_of kinds.Scatter f = owns.Plain
own_of kinds.Scatterv f = owns.Counts f.counts
own_of kinds.Allgather f = owns.Plain
own_of kinds.Allgatherv f = owns.Plain
own_of kinds.Alltoall f = owns.Plain
own_of kinds.Alltoallv f = owns.Counts f.counts
own_of kinds.Reduce f = owns.Plain
own_of kinds.Allreduce f = owns.Plain
own_of kinds.ReduceScatter f = owns.Plain
own_of kinds.ReduceScatterBlock f = owns.Plain
own_of kinds.Scan f = owns.Plain
own_of kinds.Exscan f = owns.Plain
own_of kinds.NeighborAllgather f = owns.Plain
own_of kinds.NeighborAllgatherv f = owns.Plain
own_of kinds.NeighborAlltoall f = owns.Plain
own_of kinds.NeighborAlltoallv f = owns.Counts f.counts
own_of kinds.Dup f = owns.Plain
own_of kinds.Split f = owns.Split f.colour f.key
own_of kinds.Create f = owns.Plain
own_of kinds.CartCreate f = owns.Plain
own_of kinds.CartSub f = owns.Plain

-- before any field is stated
abbrev pub no_fields : Fields
no_fields = record {
  root = 0;
  op = ops.Max;
  elem_type = types.Int8;
  count = 0;
  counts = [];
  list = [];
  flags = [];
  colour = None;
  key = pos 0;
}

abbrev pub colour_in : Own → Option ℤ
colour_in (owns.Split colour key) = colour
colour_in _ = None

abbrev pub key_in : Own → ℤ
key_in (owns.Split colour key) = key
key_in _ = pos 0

-- what a statement has in each field, and in the others what stands there before any is stated
abbrev pub fields_of : Signature → Own → Fields
fields_of sig own = record {
  root = unwrap_or (root sig) 0;
  op = unwrap_or (reduction sig) ops.Max;
  elem_type = unwrap_or (elem_type sig) types.Int8;
  count = unwrap_or (count sig) 0;
  counts = counts_in own;
  list = numbers sig;
  flags = flags sig;
  colour = colour_in own;
  key = key_in own;
}
