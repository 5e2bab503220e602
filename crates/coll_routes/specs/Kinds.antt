-- The kinds of collectives and of constructors, and their names.
use Rattle.std.specs.Prelude.{ℕ, nat_le, ◌&&◌, List, [], ◌∷◌, length, Option, find, codes}
use Rattle.std.specs.List.{filter}
use Rattle.std.specs.Str.{bytes_eq}
use Rattle.coll_routes.specs.declared.kind.Kind.{Kind}
use Rattle.coll_routes.specs.declared.kind.Kind.TheVariants.{Barrier, Bcast, Gather, Gatherv}
use Rattle.coll_routes.specs.declared.kind.Kind.TheVariants.{Scatter, Scatterv, Allgather}
use Rattle.coll_routes.specs.declared.kind.Kind.TheVariants.{Allgatherv, Alltoall, Alltoallv}
use Rattle.coll_routes.specs.declared.kind.Kind.TheVariants.{Reduce, Allreduce, ReduceScatter}
use Rattle.coll_routes.specs.declared.kind.Kind.TheVariants.{ReduceScatterBlock, Scan, Exscan}
use Rattle.coll_routes.specs.declared.kind.Kind.TheVariants.{NeighborAllgather, NeighborAllgatherv}
use Rattle.coll_routes.specs.declared.kind.Kind.TheVariants.{NeighborAlltoall, NeighborAlltoallv}
use Rattle.coll_routes.specs.declared.kind.Kind.TheVariants.{Dup, Split, Create, CartCreate}
use Rattle.coll_routes.specs.declared.kind.Kind.TheVariants.{CartSub}

abbrev pub kind_name : Kind → List ℕ
kind_name Barrier = codes "barrier"
kind_name Bcast = codes "bcast"
kind_name Gather = codes "gather"
kind_name Gatherv = codes "gatherv"
kind_name Scatter = codes "scatter"
kind_name Scatterv = codes "scatterv"
kind_name Allgather = codes "allgather"
kind_name Allgatherv = codes "allgatherv"
kind_name Alltoall = codes "alltoall"
kind_name Alltoallv = codes "alltoallv"
kind_name Reduce = codes "reduce"
kind_name Allreduce = codes "allreduce"
kind_name ReduceScatter = codes "reduce_scatter"
kind_name ReduceScatterBlock = codes "reduce_scatter_block"
kind_name Scan = codes "scan"
kind_name Exscan = codes "exscan"
kind_name NeighborAllgather = codes "neighbor_allgather"
kind_name NeighborAllgatherv = codes "neighbor_allgatherv"
kind_name NeighborAlltoall = codes "neighbor_alltoall"
kind_name NeighborAlltoallv = codes "neighbor_alltoallv"
kind_name Dup = codes "dup"
kind_name Split = codes "split"
kind_name Create = codes "create"
kind_name CartCreate = codes "cart_create"
kind_name CartSub = codes "cart_sub"

abbrev pub all_kinds : List Kind
all_kinds = Barrier ∷ Bcast ∷ Gather ∷ Gatherv ∷ Scatter ∷ Scatterv ∷ Allgather ∷ Allgatherv
    ∷ Alltoall ∷ Alltoallv ∷ Reduce ∷ Allreduce ∷ ReduceScatter ∷ ReduceScatterBlock ∷ Scan ∷ Exscan
    ∷ NeighborAllgather ∷ NeighborAllgatherv ∷ NeighborAlltoall ∷ NeighborAlltoallv ∷ Dup ∷ Split
    ∷ Create ∷ CartCreate ∷ CartSub ∷ []

-- the kind of a name
unfoldable pub kind_of : List ℕ → Option Kind
kind_of name = find (λ kind. bytes_eq (kind_name kind) name) all_kinds

-- ---- words of private contracts

-- the kinds whose names have from least to most bytes
abbrev pub kinds_between : ℕ → ℕ → List Kind
kinds_between least most = filter (λ kind. nat_le least (length (kind_name kind))
    && nat_le (length (kind_name kind)) most) all_kinds

-- the kinds whose names have 20 or more
abbrev pub longest_kinds : List Kind
longest_kinds = filter (λ kind. nat_le 20 (length (kind_name kind))) all_kinds

-- the place of a kind in `all_kinds`, from 0: no two kinds have one place
abbrev pub kind_number : Kind → ℕ
kind_number Barrier = 0
kind_number Bcast = 1
kind_number Gather = 2
kind_number Gatherv = 3
kind_number Scatter = 4
kind_number Scatterv = 5
kind_number Allgather = 6
kind_number Allgatherv = 7
kind_number Alltoall = 8
kind_number Alltoallv = 9
kind_number Reduce = 10
kind_number Allreduce = 11
kind_number ReduceScatter = 12
kind_number ReduceScatterBlock = 13
kind_number Scan = 14
kind_number Exscan = 15
kind_number NeighborAllgather = 16
kind_number NeighborAllgatherv = 17
kind_number NeighborAlltoall = 18
kind_number NeighborAlltoallv = 19
kind_number Dup = 20
kind_number Split = 21
kind_number Create = 22
kind_number CartCreate = 23
kind_number CartSub = 24
