-- Worked runs over each type and each operation.
use Rattle.std.specs.Prelude.{List, [], ◌∷◌, pos, negsuc}
use Rattle.wall_labels.specs.declared.op.Op.TheVariants.{Max, Min, Sum, Prod, Land, Lor, Lxor, Band}
use Rattle.wall_labels.specs.declared.op.Op.TheVariants.{Bor, Bxor, Maxloc, Minloc}
use Rattle.mpi_elems.specs.declared.elem_type.ElemType.TheVariants.{Int8, Int16, Int32, Int64}
use Rattle.mpi_elems.specs.declared.elem_type.ElemType.TheVariants.{Uint8, Uint16, Uint32, Uint64}
use Rattle.mpi_elems.specs.declared.elem_type.ElemType.TheVariants.{TwoInt}
use Rattle.coll_routes.specs.declared.signature.Signature.TheVariants.{Allgather, Allreduce}
use Rattle.coll_routes.specs.declared.statement.Own.TheVariants.{Plain}
use Rattle.coll_values.specs.declared.delivery.Block.TheVariants.{Numbers}
use Rattle.run_model.specs.declared.reply.Reply.TheVariants.{Posted, Delivered}
use Rattle.run_model.specs.declared.reply.Reply.{Reply}
use Rattle.run_model.specs.Runs.{Entry}
use Rattle.run_model.specs.RunRows.{alpha, gave, took}

abbrev pub both_ends_of_each_type : List Entry
both_ends_of_each_type =
    gave 0 0 (Allgather Int8 1) Plain alpha (negsuc 127 ∷ []) (Posted 0)
    ∷ gave 1 0 (Allgather Int8 1) Plain alpha (pos 127 ∷ []) (Posted 0)
    ∷ took 0 0 (Delivered (Numbers (negsuc 127 ∷ []) ∷ Numbers (pos 127 ∷ []) ∷ []))
    ∷ gave 0 0 (Allgather Int16 1) Plain alpha (negsuc 32767 ∷ []) (Posted 1)
    ∷ gave 1 0 (Allgather Int16 1) Plain alpha (pos 32767 ∷ []) (Posted 1)
    ∷ took 0 1 (Delivered (Numbers (negsuc 32767 ∷ []) ∷ Numbers (pos 32767 ∷ []) ∷ []))
    ∷ gave 0 0 (Allgather Int32 1) Plain alpha (negsuc 2147483647 ∷ []) (Posted 2)
    ∷ gave 1 0 (Allgather Int32 1) Plain alpha (pos 2147483647 ∷ []) (Posted 2)
    ∷ took 0 2 (Delivered (Numbers (negsuc 2147483647 ∷ []) ∷ Numbers
    (pos 2147483647 ∷ []) ∷ []))
    ∷ gave 0 0 (Allgather Int64 1) Plain alpha (negsuc 9223372036854775807 ∷ []) (Posted 3)
    ∷ gave 1 0 (Allgather Int64 1) Plain alpha (pos 9223372036854775807 ∷ []) (Posted 3)
    ∷ took 0 3 (Delivered (Numbers (negsuc 9223372036854775807 ∷ []) ∷ Numbers
    (pos 9223372036854775807 ∷ []) ∷ []))
    ∷ gave 0 0 (Allgather Uint8 1) Plain alpha (pos 0 ∷ []) (Posted 4)
    ∷ gave 1 0 (Allgather Uint8 1) Plain alpha (pos 255 ∷ []) (Posted 4)
    ∷ took 0 4 (Delivered (Numbers (pos 0 ∷ []) ∷ Numbers (pos 255 ∷ []) ∷ []))
    ∷ gave 0 0 (Allgather Uint16 1) Plain alpha (pos 0 ∷ []) (Posted 5)
    ∷ gave 1 0 (Allgather Uint16 1) Plain alpha (pos 65535 ∷ []) (Posted 5)
    ∷ took 0 5 (Delivered (Numbers (pos 0 ∷ []) ∷ Numbers (pos 65535 ∷ []) ∷ []))
    ∷ gave 0 0 (Allgather Uint32 1) Plain alpha (pos 0 ∷ []) (Posted 6)
    ∷ gave 1 0 (Allgather Uint32 1) Plain alpha (pos 4294967295 ∷ []) (Posted 6)
    ∷ took 0 6 (Delivered (Numbers (pos 0 ∷ []) ∷ Numbers (pos 4294967295 ∷ []) ∷ []))
    ∷ gave 0 0 (Allgather Uint64 1) Plain alpha (pos 0 ∷ []) (Posted 7)
    ∷ gave 1 0 (Allgather Uint64 1) Plain alpha (pos 18446744073709551615 ∷ []) (Posted 7)
    ∷ took 0 7 (Delivered (Numbers (pos 0 ∷ []) ∷ Numbers (pos 18446744073709551615 ∷ []) ∷ []))
    ∷ gave 0 0 (Allgather TwoInt 1) Plain alpha (negsuc 2147483647 ∷ pos 2147483647 ∷ [])
    (Posted 8)
    ∷ gave 1 0 (Allgather TwoInt 1) Plain alpha (pos 2147483647 ∷ negsuc 2147483647 ∷ [])
    (Posted 8)
    ∷ took 0 8 (Delivered (Numbers (negsuc 2147483647 ∷ pos 2147483647 ∷ []) ∷ Numbers
    (pos 2147483647 ∷ negsuc 2147483647 ∷ []) ∷ []))
    ∷ []

abbrev pub orders_sums_and_truth : Reply → List Entry
orders_sums_and_truth reply =
    gave 0 0 (Allreduce Max Int8 1) Plain alpha (negsuc 127 ∷ []) (Posted 0)
    ∷ gave 1 0 (Allreduce Max Int8 1) Plain alpha (pos 127 ∷ []) (Posted 0)
    ∷ took 1 0 (Delivered (Numbers (pos 127 ∷ []) ∷ []))
    ∷ gave 0 0 (Allreduce Min Int8 1) Plain alpha (negsuc 127 ∷ []) (Posted 1)
    ∷ gave 1 0 (Allreduce Min Int8 1) Plain alpha (pos 127 ∷ []) (Posted 1)
    ∷ took 1 1 (Delivered (Numbers (negsuc 127 ∷ []) ∷ []))
    ∷ gave 0 0 (Allreduce Sum Uint16 1) Plain alpha (pos 65535 ∷ []) (Posted 2)
    ∷ gave 1 0 (Allreduce Sum Uint16 1) Plain alpha (pos 2 ∷ []) (Posted 2)
    ∷ took 1 2 (Delivered (Numbers (pos 1 ∷ []) ∷ []))
    ∷ gave 0 0 (Allreduce Prod Int8 1) Plain alpha (pos 64 ∷ []) (Posted 3)
    ∷ gave 1 0 (Allreduce Prod Int8 1) Plain alpha (pos 2 ∷ []) (Posted 3)
    ∷ took 1 3 (Delivered (Numbers (negsuc 127 ∷ []) ∷ []))
    ∷ gave 0 0 (Allreduce Land Int32 1) Plain alpha (pos 5 ∷ []) (Posted 4)
    ∷ gave 1 0 (Allreduce Land Int32 1) Plain alpha (pos 0 ∷ []) (Posted 4)
    ∷ took 1 4 (Delivered (Numbers (pos 0 ∷ []) ∷ []))
    ∷ gave 0 0 (Allreduce Lor Int32 1) Plain alpha (pos 0 ∷ []) (Posted 5)
    ∷ gave 1 0 (Allreduce Lor Int32 1) Plain alpha (pos 9 ∷ []) (Posted 5)
    ∷ took 1 5 (Delivered (Numbers (pos 1 ∷ []) ∷ []))
    ∷ gave 0 0 (Allreduce Lxor Int32 1) Plain alpha (pos 5 ∷ []) (Posted 6)
    ∷ gave 1 0 (Allreduce Lxor Int32 1) Plain alpha (pos 7 ∷ []) (Posted 6)
    ∷ took 1 6 reply
    ∷ []

abbrev pub bits_and_places : Reply → List Entry
bits_and_places reply =
    gave 0 0 (Allreduce Band Uint8 1) Plain alpha (pos 12 ∷ []) (Posted 0)
    ∷ gave 1 0 (Allreduce Band Uint8 1) Plain alpha (pos 10 ∷ []) (Posted 0)
    ∷ took 1 0 (Delivered (Numbers (pos 8 ∷ []) ∷ []))
    ∷ gave 0 0 (Allreduce Bor Uint8 1) Plain alpha (pos 12 ∷ []) (Posted 1)
    ∷ gave 1 0 (Allreduce Bor Uint8 1) Plain alpha (pos 10 ∷ []) (Posted 1)
    ∷ took 1 1 (Delivered (Numbers (pos 14 ∷ []) ∷ []))
    ∷ gave 0 0 (Allreduce Bxor Uint8 1) Plain alpha (pos 255 ∷ []) (Posted 2)
    ∷ gave 1 0 (Allreduce Bxor Uint8 1) Plain alpha (pos 1 ∷ []) (Posted 2)
    ∷ took 1 2 (Delivered (Numbers (pos 254 ∷ []) ∷ []))
    ∷ gave 0 0 (Allreduce Band Int8 1) Plain alpha (negsuc 0 ∷ []) (Posted 3)
    ∷ gave 1 0 (Allreduce Band Int8 1) Plain alpha (negsuc 127 ∷ []) (Posted 3)
    ∷ took 1 3 (Delivered (Numbers (negsuc 127 ∷ []) ∷ []))
    ∷ gave 0 0 (Allreduce Bxor Int16 1) Plain alpha (negsuc 0 ∷ []) (Posted 4)
    ∷ gave 1 0 (Allreduce Bxor Int16 1) Plain alpha (pos 1 ∷ []) (Posted 4)
    ∷ took 1 4 (Delivered (Numbers (negsuc 1 ∷ []) ∷ []))
    ∷ gave 0 0 (Allreduce Maxloc TwoInt 1) Plain alpha (pos 5 ∷ pos 2 ∷ []) (Posted 5)
    ∷ gave 1 0 (Allreduce Maxloc TwoInt 1) Plain alpha (pos 5 ∷ pos 1 ∷ []) (Posted 5)
    ∷ took 1 5 (Delivered (Numbers (pos 5 ∷ pos 1 ∷ []) ∷ []))
    ∷ gave 0 0 (Allreduce Minloc TwoInt 1) Plain alpha (pos 3 ∷ pos 4 ∷ []) (Posted 6)
    ∷ gave 1 0 (Allreduce Minloc TwoInt 1) Plain alpha (pos 3 ∷ pos 2 ∷ []) (Posted 6)
    ∷ took 1 6 reply
    ∷ []
