-- Worked runs of each kind: what each rank is delivered.
use Rattle.std.specs.Prelude.{List, [], ◌∷◌, pos, negsuc, false, Some}
use Rattle.wall_labels.specs.declared.op.Op.TheVariants.{Max, Prod}
use Rattle.mpi_elems.specs.declared.elem_type.ElemType.TheVariants.{Int8, Int16, Int32, Uint8}
use Rattle.mpi_elems.specs.declared.elem_type.ElemType.TheVariants.{Uint16}
use Rattle.coll_routes.specs.declared.signature.Signature.TheVariants.{Barrier, Gather, Gatherv}
use Rattle.coll_routes.specs.declared.signature.Signature.TheVariants.{Scatter, Scatterv, Allgather}
use Rattle.coll_routes.specs.declared.signature.Signature.TheVariants.{Allgatherv, Alltoall}
use Rattle.coll_routes.specs.declared.signature.Signature.TheVariants.{Alltoallv, Reduce}
use Rattle.coll_routes.specs.declared.signature.Signature.TheVariants.{ReduceScatter}
use Rattle.coll_routes.specs.declared.signature.Signature.TheVariants.{NeighborAllgatherv}
use Rattle.coll_routes.specs.declared.signature.Signature.TheVariants.{NeighborAlltoall, Split}
use Rattle.coll_routes.specs.declared.signature.Signature.TheVariants.{Create, CartCreate}
use Rattle.coll_routes.specs.declared.statement.Own.TheVariants.{Plain, Counts, Split as SplitBy}
use Rattle.coll_values.specs.declared.delivery.Block.TheVariants.{Missing, Numbers}
use Rattle.run_model.specs.declared.reply.Reply.TheVariants.{Posted, Delivered, NewComm, NullComm}
use Rattle.run_model.specs.declared.reply.Reply.TheVariants.{Info}
use Rattle.run_model.specs.declared.reply.Reply.{Reply}
use Rattle.run_model.specs.Runs.{Entry}
use Rattle.run_model.specs.RunRows.{alpha, gave, stated, came, took, asked}

-- with as many elements each, and with as many as each states
abbrev pub gathers : Reply → List Entry
gathers reply =
    gave 0 0 (Gather 2 Int32 1) Plain alpha (pos 5 ∷ []) (Posted 0)
    ∷ gave 1 0 (Gather 2 Int32 1) Plain alpha (pos 6 ∷ []) (Posted 0)
    ∷ gave 2 0 (Gather 2 Int32 1) Plain alpha (pos 7 ∷ []) (Posted 0)
    ∷ gave 3 0 (Gather 2 Int32 1) Plain alpha (pos 8 ∷ []) (Posted 0)
    ∷ took 0 0 (Delivered [])
    ∷ took 1 0 (Delivered [])
    ∷ took 2 0 (Delivered (Numbers (pos 5 ∷ []) ∷ Numbers (pos 6 ∷ []) ∷ Numbers
    (pos 7 ∷ []) ∷ Numbers (pos 8 ∷ []) ∷ []))
    ∷ took 3 0 (Delivered [])
    ∷ gave 0 0 (Gatherv 1 Uint8) Plain alpha (pos 1 ∷ pos 2 ∷ []) (Posted 1)
    ∷ came 1 0 (Gatherv 1 Uint8) (Posted 1)
    ∷ gave 2 0 (Gatherv 1 Uint8) Plain alpha (pos 3 ∷ []) (Posted 1)
    ∷ gave 3 0 (Gatherv 1 Uint8) Plain alpha (pos 4 ∷ pos 5 ∷ pos 6 ∷ []) (Posted 1)
    ∷ took 0 1 (Delivered [])
    ∷ took 1 1 (Delivered (Numbers (pos 1 ∷ pos 2 ∷ []) ∷ Numbers [] ∷ Numbers
    (pos 3 ∷ []) ∷ Numbers (pos 4 ∷ pos 5 ∷ pos 6 ∷ []) ∷ []))
    ∷ took 2 1 (Delivered [])
    ∷ took 3 1 reply
    ∷ []

-- blocks of one size, and of the sizes that the root states
abbrev pub scatters : Reply → List Entry
scatters reply =
    came 0 0 (Scatter 1 Int16 2) (Posted 0)
    ∷ gave 1 0 (Scatter 1 Int16 2) Plain alpha
    (pos 1 ∷ pos 2 ∷ pos 3 ∷ pos 4 ∷ pos 5 ∷ pos 6 ∷ pos 7 ∷ pos 8 ∷ []) (Posted 0)
    ∷ came 2 0 (Scatter 1 Int16 2) (Posted 0)
    ∷ came 3 0 (Scatter 1 Int16 2) (Posted 0)
    ∷ took 0 0 (Delivered (Numbers (pos 1 ∷ pos 2 ∷ []) ∷ []))
    ∷ took 1 0 (Delivered (Numbers (pos 3 ∷ pos 4 ∷ []) ∷ []))
    ∷ took 2 0 (Delivered (Numbers (pos 5 ∷ pos 6 ∷ []) ∷ []))
    ∷ took 3 0 (Delivered (Numbers (pos 7 ∷ pos 8 ∷ []) ∷ []))
    ∷ stated 0 0 (Scatterv 1 Uint16) (Counts []) (Posted 1)
    ∷ gave 1 0 (Scatterv 1 Uint16) (Counts (2 ∷ 0 ∷ 1 ∷ 1 ∷ [])) alpha
    (pos 1 ∷ pos 2 ∷ pos 3 ∷ pos 65535 ∷ []) (Posted 1)
    ∷ stated 2 0 (Scatterv 1 Uint16) (Counts []) (Posted 1)
    ∷ stated 3 0 (Scatterv 1 Uint16) (Counts []) (Posted 1)
    ∷ took 0 1 (Delivered (Numbers (pos 1 ∷ pos 2 ∷ []) ∷ []))
    ∷ took 1 1 (Delivered (Numbers [] ∷ []))
    ∷ took 2 1 (Delivered (Numbers (pos 3 ∷ []) ∷ []))
    ∷ took 3 1 reply
    ∷ []

-- blocks of one size, and of the sizes that each states
abbrev pub exchanges : Reply → List Entry
exchanges reply =
    gave 0 0 (Alltoall Int32 1) Plain alpha (pos 0 ∷ pos 1 ∷ pos 2 ∷ pos 3 ∷ []) (Posted 0)
    ∷ gave 1 0 (Alltoall Int32 1) Plain alpha (pos 10 ∷ pos 11 ∷ pos 12 ∷ pos 13 ∷ [])
    (Posted 0)
    ∷ gave 2 0 (Alltoall Int32 1) Plain alpha (pos 20 ∷ pos 21 ∷ pos 22 ∷ pos 23 ∷ [])
    (Posted 0)
    ∷ gave 3 0 (Alltoall Int32 1) Plain alpha (pos 30 ∷ pos 31 ∷ pos 32 ∷ pos 33 ∷ [])
    (Posted 0)
    ∷ took 0 0 (Delivered (Numbers (pos 0 ∷ []) ∷ Numbers (pos 10 ∷ []) ∷ Numbers
    (pos 20 ∷ []) ∷ Numbers (pos 30 ∷ []) ∷ []))
    ∷ took 1 0 (Delivered (Numbers (pos 1 ∷ []) ∷ Numbers (pos 11 ∷ []) ∷ Numbers
    (pos 21 ∷ []) ∷ Numbers (pos 31 ∷ []) ∷ []))
    ∷ took 2 0 (Delivered (Numbers (pos 2 ∷ []) ∷ Numbers (pos 12 ∷ []) ∷ Numbers
    (pos 22 ∷ []) ∷ Numbers (pos 32 ∷ []) ∷ []))
    ∷ took 3 0 (Delivered (Numbers (pos 3 ∷ []) ∷ Numbers (pos 13 ∷ []) ∷ Numbers
    (pos 23 ∷ []) ∷ Numbers (pos 33 ∷ []) ∷ []))
    ∷ gave 0 0 (Alltoallv Int32) (Counts (0 ∷ 1 ∷ 0 ∷ 2 ∷ [])) alpha
    (pos 5 ∷ pos 6 ∷ pos 7 ∷ []) (Posted 1)
    ∷ stated 1 0 (Alltoallv Int32) (Counts (0 ∷ 0 ∷ 0 ∷ 0 ∷ [])) (Posted 1)
    ∷ gave 2 0 (Alltoallv Int32) (Counts (1 ∷ 1 ∷ 1 ∷ 1 ∷ [])) alpha
    (pos 1 ∷ pos 2 ∷ pos 3 ∷ pos 4 ∷ []) (Posted 1)
    ∷ gave 3 0 (Alltoallv Int32) (Counts (0 ∷ 0 ∷ 0 ∷ 1 ∷ [])) alpha (pos 9 ∷ []) (Posted 1)
    ∷ took 0 1 (Delivered (Numbers [] ∷ Numbers [] ∷ Numbers (pos 1 ∷ []) ∷ Numbers [] ∷ []))
    ∷ took 1 1 (Delivered (Numbers (pos 5 ∷ []) ∷ Numbers [] ∷ Numbers
    (pos 2 ∷ []) ∷ Numbers [] ∷ []))
    ∷ took 2 1 (Delivered (Numbers [] ∷ Numbers [] ∷ Numbers (pos 3 ∷ []) ∷ Numbers [] ∷ []))
    ∷ took 3 1 reply
    ∷ []

-- reduce, and reduce_scatter with blocks of different sizes
abbrev pub reductions_by_root_and_block : Reply → List Entry
reductions_by_root_and_block reply =
    gave 0 0 (Reduce 3 Prod Int32 2) Plain alpha (pos 1 ∷ pos 2 ∷ []) (Posted 0)
    ∷ gave 1 0 (Reduce 3 Prod Int32 2) Plain alpha (pos 3 ∷ pos 4 ∷ []) (Posted 0)
    ∷ gave 2 0 (Reduce 3 Prod Int32 2) Plain alpha (pos 5 ∷ pos 6 ∷ []) (Posted 0)
    ∷ gave 3 0 (Reduce 3 Prod Int32 2) Plain alpha (pos 7 ∷ pos 8 ∷ []) (Posted 0)
    ∷ took 0 0 (Delivered [])
    ∷ took 1 0 (Delivered [])
    ∷ took 2 0 (Delivered [])
    ∷ took 3 0 (Delivered (Numbers (pos 105 ∷ pos 384 ∷ []) ∷ []))
    ∷ gave 0 0 (ReduceScatter Max Int32 (1 ∷ 0 ∷ 2 ∷ 1 ∷ [])) Plain alpha
    (pos 1 ∷ pos 2 ∷ pos 3 ∷ pos 4 ∷ []) (Posted 1)
    ∷ gave 1 0 (ReduceScatter Max Int32 (1 ∷ 0 ∷ 2 ∷ 1 ∷ [])) Plain alpha
    (pos 4 ∷ pos 3 ∷ pos 2 ∷ pos 1 ∷ []) (Posted 1)
    ∷ gave 2 0 (ReduceScatter Max Int32 (1 ∷ 0 ∷ 2 ∷ 1 ∷ [])) Plain alpha
    (pos 0 ∷ pos 0 ∷ pos 0 ∷ pos 0 ∷ []) (Posted 1)
    ∷ gave 3 0 (ReduceScatter Max Int32 (1 ∷ 0 ∷ 2 ∷ 1 ∷ [])) Plain alpha
    (pos 2 ∷ pos 2 ∷ pos 2 ∷ pos 9 ∷ []) (Posted 1)
    ∷ took 0 1 (Delivered (Numbers (pos 4 ∷ []) ∷ []))
    ∷ took 1 1 (Delivered (Numbers [] ∷ []))
    ∷ took 2 1 (Delivered (Numbers (pos 3 ∷ pos 3 ∷ []) ∷ []))
    ∷ took 3 1 reply
    ∷ []

-- allgather, allgatherv and barrier
abbrev pub all_gather_and_wait : Reply → List Entry
all_gather_and_wait reply =
    gave 0 0 (Allgather Int8 1) Plain alpha (pos 1 ∷ []) (Posted 0)
    ∷ gave 1 0 (Allgather Int8 1) Plain alpha (pos 2 ∷ []) (Posted 0)
    ∷ gave 2 0 (Allgather Int8 1) Plain alpha (pos 3 ∷ []) (Posted 0)
    ∷ gave 3 0 (Allgather Int8 1) Plain alpha (pos 4 ∷ []) (Posted 0)
    ∷ took 0 0 (Delivered (Numbers (pos 1 ∷ []) ∷ Numbers (pos 2 ∷ []) ∷ Numbers
    (pos 3 ∷ []) ∷ Numbers (pos 4 ∷ []) ∷ []))
    ∷ took 1 0 (Delivered (Numbers (pos 1 ∷ []) ∷ Numbers (pos 2 ∷ []) ∷ Numbers
    (pos 3 ∷ []) ∷ Numbers (pos 4 ∷ []) ∷ []))
    ∷ took 2 0 (Delivered (Numbers (pos 1 ∷ []) ∷ Numbers (pos 2 ∷ []) ∷ Numbers
    (pos 3 ∷ []) ∷ Numbers (pos 4 ∷ []) ∷ []))
    ∷ took 3 0 (Delivered (Numbers (pos 1 ∷ []) ∷ Numbers (pos 2 ∷ []) ∷ Numbers
    (pos 3 ∷ []) ∷ Numbers (pos 4 ∷ []) ∷ []))
    ∷ gave 0 0 (Allgatherv Int8) Plain alpha (negsuc 0 ∷ []) (Posted 1)
    ∷ came 1 0 (Allgatherv Int8) (Posted 1)
    ∷ came 2 0 (Allgatherv Int8) (Posted 1)
    ∷ gave 3 0 (Allgatherv Int8) Plain alpha (pos 2 ∷ pos 3 ∷ []) (Posted 1)
    ∷ took 0 1 (Delivered (Numbers (negsuc 0 ∷ []) ∷ Numbers [] ∷ Numbers [] ∷ Numbers
    (pos 2 ∷ pos 3 ∷ []) ∷ []))
    ∷ took 1 1 (Delivered (Numbers (negsuc 0 ∷ []) ∷ Numbers [] ∷ Numbers [] ∷ Numbers
    (pos 2 ∷ pos 3 ∷ []) ∷ []))
    ∷ took 2 1 (Delivered (Numbers (negsuc 0 ∷ []) ∷ Numbers [] ∷ Numbers [] ∷ Numbers
    (pos 2 ∷ pos 3 ∷ []) ∷ []))
    ∷ took 3 1 (Delivered (Numbers (negsuc 0 ∷ []) ∷ Numbers [] ∷ Numbers [] ∷ Numbers
    (pos 2 ∷ pos 3 ∷ []) ∷ []))
    ∷ came 0 0 Barrier (Posted 2)
    ∷ came 1 0 Barrier (Posted 2)
    ∷ came 2 0 Barrier (Posted 2)
    ∷ came 3 0 Barrier (Posted 2)
    ∷ took 0 2 (Delivered [])
    ∷ took 1 2 (Delivered [])
    ∷ took 2 2 (Delivered [])
    ∷ took 3 2 reply
    ∷ []

-- neighbor_allgatherv and neighbor_alltoall on four in a line
abbrev pub neighbours_of_a_line : Reply → List Entry
neighbours_of_a_line reply =
    came 0 0 (CartCreate (4 ∷ []) (false ∷ [])) (Posted 0)
    ∷ came 1 0 (CartCreate (4 ∷ []) (false ∷ [])) (Posted 0)
    ∷ came 2 0 (CartCreate (4 ∷ []) (false ∷ [])) (Posted 0)
    ∷ came 3 0 (CartCreate (4 ∷ []) (false ∷ [])) (Posted 0)
    ∷ gave 0 1 (NeighborAllgatherv Int32) Plain alpha (pos 1 ∷ pos 2 ∷ []) (Posted 1)
    ∷ came 1 1 (NeighborAllgatherv Int32) (Posted 1)
    ∷ gave 2 1 (NeighborAllgatherv Int32) Plain alpha (pos 3 ∷ []) (Posted 1)
    ∷ gave 3 1 (NeighborAllgatherv Int32) Plain alpha (pos 4 ∷ []) (Posted 1)
    ∷ took 0 1 (Delivered (Missing ∷ Numbers [] ∷ []))
    ∷ took 1 1 (Delivered (Numbers (pos 1 ∷ pos 2 ∷ []) ∷ Numbers (pos 3 ∷ []) ∷ []))
    ∷ took 2 1 (Delivered (Numbers [] ∷ Numbers (pos 4 ∷ []) ∷ []))
    ∷ took 3 1 (Delivered (Numbers (pos 3 ∷ []) ∷ Missing ∷ []))
    ∷ gave 0 1 (NeighborAlltoall Int32 1) Plain alpha (pos 0 ∷ pos 1 ∷ []) (Posted 2)
    ∷ gave 1 1 (NeighborAlltoall Int32 1) Plain alpha (pos 10 ∷ pos 11 ∷ []) (Posted 2)
    ∷ gave 2 1 (NeighborAlltoall Int32 1) Plain alpha (pos 20 ∷ pos 21 ∷ []) (Posted 2)
    ∷ gave 3 1 (NeighborAlltoall Int32 1) Plain alpha (pos 30 ∷ pos 31 ∷ []) (Posted 2)
    ∷ took 0 2 (Delivered (Missing ∷ Numbers (pos 10 ∷ []) ∷ []))
    ∷ took 1 2 (Delivered (Numbers (pos 1 ∷ []) ∷ Numbers (pos 20 ∷ []) ∷ []))
    ∷ took 2 2 (Delivered (Numbers (pos 11 ∷ []) ∷ Numbers (pos 30 ∷ []) ∷ []))
    ∷ took 3 2 reply
    ∷ []

-- the number that the next communicator gets does not move where none is made
abbrev pub empty_and_reordered : Reply → List Entry
empty_and_reordered reply =
    came 0 0 (Create []) (Posted 0)
    ∷ came 1 0 (Create []) (Posted 0)
    ∷ came 2 0 (Create []) (Posted 0)
    ∷ came 3 0 (Create []) (Posted 0)
    ∷ took 0 0 NullComm
    ∷ took 3 0 NullComm
    ∷ stated 0 0 Split (SplitBy (Some (pos 1)) (pos 3)) (Posted 1)
    ∷ stated 1 0 Split (SplitBy (Some (pos 1)) (negsuc 1)) (Posted 1)
    ∷ stated 2 0 Split (SplitBy (Some (pos 1)) (pos 3)) (Posted 1)
    ∷ stated 3 0 Split (SplitBy (Some (pos 1)) (pos 0)) (Posted 1)
    ∷ took 0 1 (NewComm 1 2 4)
    ∷ took 1 1 (NewComm 1 0 4)
    ∷ took 2 1 (NewComm 1 3 4)
    ∷ took 3 1 (NewComm 1 1 4)
    ∷ came 0 1 (CartCreate [] []) (Posted 2)
    ∷ came 1 1 (CartCreate [] []) (Posted 2)
    ∷ came 2 1 (CartCreate [] []) (Posted 2)
    ∷ came 3 1 (CartCreate [] []) (Posted 2)
    ∷ took 1 2 (NewComm 2 0 1)
    ∷ took 0 2 NullComm
    ∷ asked 1 2 (Info 1 0 (Some 0))
    ∷ asked 0 2 reply
    ∷ []
