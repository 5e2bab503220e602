use Rattle.std.proofs.Common.{◌≡◌, ◌++◌, map, vec_capacity, length}
use Rattle.mpi_cart.specs.Grids.{below}
use Rattle.coll_routes.specs.Signatures.{reduction}
use Rattle.coll_values.specs.Values.{sent, block_by, block_of}
use Rattle.coll_values.proofs.filling.fill_places.Given as goal

abbrev pub invariant-loop-line : goal.invariant-loop-line
invariant-loop-line l = record {
  place : l.place ≡ length l.yielded;
  rest : l.yielded ++ l.line-iterator.rest.items ≡ l.fn.lines.items;
  blocks : l.blocks.items
      ≡ map (λ t. block_of
      (block_by (reduction l.full.roll.sig) l.full.roll (λ i t. sent l.full i l.to t) l.to t))
      (below l.place);
  space : vec_capacity l.blocks ≡ vec_capacity l.initial.blocks;
}
