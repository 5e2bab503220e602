-- What a full constructor makes, by its roll and by its communicator; and why it has no fault of
-- its own.
use Rattle.std.proofs.Common.{◌≡◌, ◌≢◌, ℕ, List, [], ◌∷◌, length, refl, sym, ap, ◌∙◌}
use Rattle.std.proofs.Common.{Bool, true, false, not, Option, Some, None, slice_get}
use Rattle.std.proofs.Common.{map, cond, is_some, is_none, ⊎_elim}
use Rattle.std.specs.Prelude.{if◌then◌else◌}
use Rattle.std.specs.Option.{option_map_or}
use Rattle.std.proofs.lemmas.Bool.{cases_Bool, cond-true, cond-false, false≢true, and_from, or_from}
use Rattle.mpi_elems.specs.declared.elem_type.ElemType.{ElemType}
use Rattle.mpi_group.specs.Groups.{ranks_fault, are_ranks, is_distinct}
use Rattle.mpi_group.proofs.MpiGroupLemmas.{no_fault}
use Rattle.mpi_cart.specs.Grids.{Topology}
use Rattle.mpi_cart.specs.Faults.{first_fault, keep_fault}
use Rattle.mpi_comm.specs.declared.values.Ask.{Ask}
use Rattle.mpi_comm.specs.Comms.{fits}
use Rattle.mpi_comm.specs.Splits.{has_bad_colour}
use Rattle.coll_routes.specs.declared.signature.Signature.{Signature}
use Rattle.coll_routes.specs.declared.signature.Signature.TheVariants.{Barrier, Bcast, Gather}
use Rattle.coll_routes.specs.declared.signature.Signature.TheVariants.{Gatherv, Scatter, Scatterv}
use Rattle.coll_routes.specs.declared.signature.Signature.TheVariants.{Allgather, Allgatherv}
use Rattle.coll_routes.specs.declared.signature.Signature.TheVariants.{Alltoall, Alltoallv, Reduce}
use Rattle.coll_routes.specs.declared.signature.Signature.TheVariants.{Allreduce, ReduceScatter}
use Rattle.coll_routes.specs.declared.signature.Signature.TheVariants.{ReduceScatterBlock, Scan}
use Rattle.coll_routes.specs.declared.signature.Signature.TheVariants.{Exscan, NeighborAllgather}
use Rattle.coll_routes.specs.declared.signature.Signature.TheVariants.{NeighborAllgatherv}
use Rattle.coll_routes.specs.declared.signature.Signature.TheVariants.{NeighborAlltoall}
use Rattle.coll_routes.specs.declared.signature.Signature.TheVariants.{NeighborAlltoallv, Dup}
use Rattle.coll_routes.specs.declared.signature.Signature.TheVariants.{Split, Create, CartCreate}
use Rattle.coll_routes.specs.declared.signature.Signature.TheVariants.{CartSub}
use Rattle.coll_routes.specs.declared.statement.Own.{Own}
use Rattle.coll_routes.specs.declared.statement.Own.TheVariants.{Plain, Counts, Split as SplitBy}
use Rattle.coll_routes.specs.declared.statement.Stated.{Stated}
use Rattle.coll_routes.specs.declared.roll.Roll.{Roll}
use Rattle.coll_routes.specs.declared.roll.Shape.{Shape}
use Rattle.coll_routes.specs.declared.fault.ShapeFault.{ShapeFault}
use Rattle.coll_routes.specs.declared.fault.ShapeFault.TheVariants as shapes
use Rattle.coll_routes.specs.Signatures.{is_constructor}
use Rattle.coll_routes.specs.Rolls.{stated_in}
use Rattle.coll_routes.specs.Faults.{shape_fault, stated_type, first_that, no_topology, bad_root}
use Rattle.coll_routes.specs.Faults.{bad_op, bad_count, bad_colour, not_subgroup, bad_dims}
use Rattle.coll_routes.specs.Faults.{is_ill_kept}
use Rattle.coll_routes.specs.Fit.{IsSound}
use Rattle.coll_pending.proofs.CollPendingLemmas.{none_of}
use Rattle.run_model.specs.Comms.{Comm, shape_of, ask_by, ask_in, asks}
use Rattle.run_model.specs.Comms.{new_comms_by, new_comms, added, comm_in}
use Rattle.coll_routes.specs.Rolls.{is_full}
use Rattle.run_model.specs.Posts.{if_full}
use Rattle.run_state.specs.Making.{is_faultless, is_kept}

pub new_comms_are : (sig : Signature) (roll : Roll) (comm : Comm) → roll.members ≡ comm.members →
    roll.shape ≡ shape_of comm →
    new_comms_by sig (comm_in roll) (asks roll) ≡ new_comms_by sig comm (asks roll)
new_comms_are sig roll comm m s =
    λ i. new_comms_by sig (record { members = m i; grid = (s i).grid }) (asks roll)

-- other kinds make none
pub makes_none : (sig : Signature) (comm : Comm) (qs : List Ask) → is_constructor sig ≡ false →
    new_comms_by sig comm qs ≡ []
unfolding new_comms_by is_constructor
makes_none Barrier comm qs f = refl
makes_none (Bcast r ty n) comm qs f = refl
makes_none (Gather r ty n) comm qs f = refl
makes_none (Gatherv r ty) comm qs f = refl
makes_none (Scatter r ty n) comm qs f = refl
makes_none (Scatterv r ty) comm qs f = refl
makes_none (Allgather ty n) comm qs f = refl
makes_none (Allgatherv ty) comm qs f = refl
makes_none (Alltoall ty n) comm qs f = refl
makes_none (Alltoallv ty) comm qs f = refl
makes_none (Reduce r op ty n) comm qs f = refl
makes_none (Allreduce op ty n) comm qs f = refl
makes_none (ReduceScatter op ty ns) comm qs f = refl
makes_none (ReduceScatterBlock op ty n) comm qs f = refl
makes_none (Scan op ty n) comm qs f = refl
makes_none (Exscan op ty n) comm qs f = refl
makes_none (NeighborAllgather ty n) comm qs f = refl
makes_none (NeighborAllgatherv ty) comm qs f = refl
makes_none (NeighborAlltoall ty n) comm qs f = refl
makes_none (NeighborAlltoallv ty) comm qs f = refl
makes_none Dup comm qs f = absurd (false≢true (sym f))
makes_none Split comm qs f = absurd (false≢true (sym f))
makes_none (Create ranks) comm qs f = absurd (false≢true (sym f))
makes_none (CartCreate dims periods) comm qs f = absurd (false≢true (sym f))
makes_none (CartSub keep) comm qs f = absurd (false≢true (sym f))

nothing_added : (n : ℕ) (roll : Roll) → new_comms roll ≡ [] → added n (Some roll) ≡ []
nothing_added n roll none =
    ap (λ new. if fits n (length new) then new else []) none ∙ same (fits n 0)
  where
    nil : List Comm
    nil = []

    same : (b : Bool) → cond b nil nil ≡ nil
    same true = refl
    same false = refl

-- a roll of another kind adds none
pub plain_adds_none : (n : ℕ) (roll : Roll) (comm : Comm) → roll.members ≡ comm.members →
    roll.shape ≡ shape_of comm → is_constructor roll.sig ≡ false → added n (if_full roll) ≡ []
plain_adds_none n roll comm m s plain = ⊎_elim
    (λ t. ap (λ o. added n o) (cond-true (is_full roll.stated) (Some roll) None t)
    ∙ nothing_added n roll
    (new_comms_are roll.sig roll comm m s ∙ makes_none roll.sig comm (asks roll) plain))
    (λ f. ap (λ o. added n o) (cond-false (is_full roll.stated) (Some roll) None f))
    (cases_Bool (is_full roll.stated))

-- ## no fault of its own

-- no test of a list without a first fault holds
record AllFalse (shape : Shape) (rank : ℕ) (sig : Signature) (own : Own) (ty : ElemType) (given : ℕ)
    : Type 0 where
  topology : no_topology shape sig ≡ false
  colour : bad_colour own ≡ false
  subgroup : not_subgroup shape sig ≡ false
  dims : bad_dims shape sig ≡ false

skip : (b : Bool) (fault : ShapeFault) (rest : List (Bool × ShapeFault)) →
    first_that ((b, fault) ∷ rest) ≡ None → (b ≡ false) × (first_that rest ≡ None)
skip true fault rest e = absurd (cc)
skip false fault rest e = (refl, e)

all_false : (shape : Shape) (rank : ℕ) (sig : Signature) (own : Own) (ty : ElemType) (given : ℕ) →
    shape_fault shape rank sig own ty given ≡ None → AllFalse shape rank sig own ty given
unfolding shape_fault
all_false shape rank sig own ty given e =
    let dims : List (Bool × ShapeFault) = (bad_dims shape sig, shapes.BadDims) ∷ [] in
    let subgroup : List (Bool × ShapeFault) = (not_subgroup shape sig, shapes.NotSubgroup) ∷ dims in
    let colour : List (Bool × ShapeFault) = (bad_colour own, shapes.BadColour) ∷ subgroup in
    let counts : List (Bool × ShapeFault) = (bad_count shape rank sig own ty given, shapes.BadCount)
    ∷ colour in
    let ops : List (Bool × ShapeFault) = (bad_op sig, shapes.BadOp) ∷ counts in
    let roots : List (Bool × ShapeFault) = (bad_root shape sig, shapes.BadRoot) ∷ ops in
    let a = skip (no_topology shape sig) shapes.NoTopology roots e in
    let b = skip (bad_root shape sig) shapes.BadRoot ops a.1 in
    let c = skip (bad_op sig) shapes.BadOp counts b.1 in
    let d = skip (bad_count shape rank sig own ty given) shapes.BadCount colour c.1 in
    let f = skip (bad_colour own) shapes.BadColour subgroup d.1 in
    let g = skip (not_subgroup shape sig) shapes.NotSubgroup dims f.1 in
    let h = skip (bad_dims shape sig) shapes.BadDims [] g.1 in
    record { topology = a.0; colour = f.0; subgroup = g.0; dims = h.0 }

-- what a member asks has no negative colour, where its statement has no fault
own_colour : (own : Own) → bad_colour own ≡ false →
    option_map_or
    (λ colour. Rattle.std.specs.Prelude.int_lt colour (Rattle.std.specs.Prelude.pos 0))
    (ask_by own).colour false ≡ false
own_colour Plain f = refl
own_colour (Counts ns) f = refl
own_colour (SplitBy None key) f = refl
own_colour (SplitBy (Some colour) key) f = f

good_colours : (rows : List (Option Stated)) →
    ((i : ℕ) (s : Stated) → stated_in (slice_get rows i) ≡ Some s → bad_colour s.own ≡ false) →
    has_bad_colour (map ask_in rows) ≡ false
good_colours [] good = refl
good_colours (None ∷ rows) good =
    good_colours rows (λ i s e. good (Rattle.std.proofs.Common.suc i) s e)
good_colours (Some s ∷ rows) good = or_from (option_map_or
    (λ colour. Rattle.std.specs.Prelude.int_lt colour (Rattle.std.specs.Prelude.pos 0))
    (ask_by s.own).colour false) (has_bad_colour (map ask_in rows))
    (own_colour s.own (good 0 s refl))
    (good_colours rows (λ i t e. good (Rattle.std.proofs.Common.suc i) t e))

none_there : {A : Type 0} (o : Option A) → is_some o ≡ false → is_none o ≡ true
none_there None f = refl
none_there (Some a) f = absurd (false≢true (sym f))

kept_well : (keep : List Bool) (grid : Option Topology) → is_none grid ≡ false →
    is_ill_kept keep grid ≡ false → is_kept keep grid ≡ true
kept_well keep None none f = absurd (false≢true (sym none))
kept_well keep (Some g) none f = none_there (keep_fault keep g.dims) f

faultless_by : (sig : Signature) (comm : Comm) (qs : List Ask) →
    no_topology (shape_of comm) sig ≡ false → not_subgroup (shape_of comm) sig ≡ false →
    bad_dims (shape_of comm) sig ≡ false → has_bad_colour qs ≡ false →
    is_faultless sig comm qs ≡ true
unfolding is_faultless no_topology not_subgroup bad_dims
faultless_by Barrier comm qs t s d c = refl
faultless_by (Bcast r ty n) comm qs t s d c = refl
faultless_by (Gather r ty n) comm qs t s d c = refl
faultless_by (Gatherv r ty) comm qs t s d c = refl
faultless_by (Scatter r ty n) comm qs t s d c = refl
faultless_by (Scatterv r ty) comm qs t s d c = refl
faultless_by (Allgather ty n) comm qs t s d c = refl
faultless_by (Allgatherv ty) comm qs t s d c = refl
faultless_by (Alltoall ty n) comm qs t s d c = refl
faultless_by (Alltoallv ty) comm qs t s d c = refl
faultless_by (Reduce r op ty n) comm qs t s d c = refl
faultless_by (Allreduce op ty n) comm qs t s d c = refl
faultless_by (ReduceScatter op ty ns) comm qs t s d c = refl
faultless_by (ReduceScatterBlock op ty n) comm qs t s d c = refl
faultless_by (Scan op ty n) comm qs t s d c = refl
faultless_by (Exscan op ty n) comm qs t s d c = refl
faultless_by (NeighborAllgather ty n) comm qs t s d c = refl
faultless_by (NeighborAllgatherv ty) comm qs t s d c = refl
faultless_by (NeighborAlltoall ty n) comm qs t s d c = refl
faultless_by (NeighborAlltoallv ty) comm qs t s d c = refl
faultless_by Dup comm qs t s d c = refl
faultless_by Split comm qs t s d c = ap not c
faultless_by (Create ranks) comm qs t s d c =
    let parts = no_fault (length comm.members) ranks
    (none_of (ranks_fault (length comm.members) ranks) s) in
    and_from (are_ranks (length comm.members) ranks) (is_distinct ranks) parts.0 parts.1
faultless_by (CartCreate dims periods) comm qs t s d c =
    none_there (first_fault dims periods (length comm.members)) d
faultless_by (CartSub keep) comm qs t s d c = kept_well keep comm.grid t d

pub faultless_is : (roll : Roll) (comm : Comm) (sig : Signature) (rank : ℕ) (own : Own)
    (ty : ElemType) (given : ℕ) → IsSound roll →
    shape_fault (shape_of comm) rank sig own ty given ≡ None →
    is_faultless sig comm (asks roll) ≡ true
faultless_is roll comm sig rank own ty given sound none =
    let all = all_false (shape_of comm) rank sig own ty given none in
    faultless_by sig comm (asks roll) all.topology all.subgroup all.dims
    (good_colours roll.stated (λ i s e. (all_false roll.shape i s.sig s.own (stated_type s.sig)
    s.given (sound.statements i s e).fault).colour))
