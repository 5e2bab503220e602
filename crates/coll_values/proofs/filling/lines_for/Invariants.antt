use Rattle.std.proofs.Common.{◌≡◌, ◌≤◌, map, vec_capacity, []}
use Rattle.mpi_elems.specs.Contents.{contents}
use Rattle.mpi_cart.specs.Grids.{below}
use Rattle.coll_routes.specs.Signatures.{reduction}
use Rattle.coll_values.specs.Values.{sent, block_by}
use Rattle.coll_values.specs.Rooms.{size_of}
use Rattle.coll_values.proofs.filling.lines_for.Given as goal

abbrev pub invariant-loop-place : goal.invariant-loop-place
invariant-loop-place l = record {
  lines : l.lines.items
      ≡ map (λ t. contents l.elem_type [] (size_of (block_by (reduction l.full.roll.sig) l.full.roll
      (λ i t. sent l.full i l.to t) l.to t))) (below l.place);
  room : l.number ≤ vec_capacity l.lines;
}
