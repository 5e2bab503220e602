use Rattle.std.proofs.lemmas.Nat.{mod_below}
use Rattle.mpi_cart.proofs.StrideLemmas.{stride_within, stride_above, size_above, coord_at}
use Rattle.mpi_cart.proofs.cell.coordinate_in.Goals as goal

pub bounds-strides-dim : goal.bounds-strides-dim
bounds-strides-dim c = stride_within _ _ c.requires.strides _ c.requires.dim

pub nonzero_div-result : goal.nonzero_div-result
nonzero_div-result c = stride_above _ _ c.requires.strides _ c.requires.dim _ c.requires.rank

pub nonzero_rem-result : goal.nonzero_rem-result
nonzero_rem-result c = size_above _ _ c.requires.strides _ c.requires.dim _ c.requires.rank

pub returns-clause-value : goal.returns-clause-value
returns-clause-value c = coord_at _ _ c.requires.strides _ c.requires.dim _ c.requires.rank

pub returns-clause-below : goal.returns-clause-below
returns-clause-below c =
    mod_below _ _ (size_above _ _ c.requires.strides _ c.requires.dim c.args.rank c.requires.rank)
