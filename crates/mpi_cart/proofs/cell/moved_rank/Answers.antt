use Rattle.std.proofs.Common.{◌∙◌, sym, ap, arith, get_or, None, Some}
use Rattle.mpi_cart.specs.Grids.{Topology, coordinate}
use Rattle.mpi_cart.proofs.StrideLemmas.{stride_within, step_is, shifted_is, whole_sum}
use Rattle.mpi_cart.proofs.cell.moved_rank.Goals as goal

pub returns-in_err-m-clause-value : goal.returns-in_err-m-clause-value
returns-in_err-m-clause-value c =
    let sum = whole_sum _ _ _ _ c.coordinate_in-c.ensures.below (c.type_inv.dims c.args.dim).fits
    c.from.ensures c.requires.least c.requires.most in
    c.from_residual.ensures
    ∙ shifted_is _ _ _ _ _ None c.requires.grid.paired c.requires.dim
    c.coordinate_in-c.ensures.value (c.in_err-m.ensures.value ∙ ap (coordinate _ _) sum)

pub bounds-strides-dim : goal.bounds-strides-dim
bounds-strides-dim c = stride_within _ _ c.requires.strides _ c.requires.dim

pub overflow_mul-result : goal.overflow_mul-result
overflow_mul-result c =
    let g : Topology = record { dims = c.args.dims.now; periods = c.args.periods.now } in
    let step = step_is g _ _ _ _ _ c.requires.rank c.requires.dim
    (ap (λ l. get_or l c.args.dim 0) c.requires.strides) c.coordinate_in-c.ensures.value
    c.in_ok-m.ensures.below in
    omega arith

pub overflow_sub-result : goal.overflow_sub-result
overflow_sub-result c =
    let g : Topology = record { dims = c.args.dims.now; periods = c.args.periods.now } in
    let step = step_is g _ _ _ _ _ c.requires.rank c.requires.dim
    (ap (λ l. get_or l c.args.dim 0) c.requires.strides) c.coordinate_in-c.ensures.value
    c.in_ok-m.ensures.below in
    step.back

pub overflow_mul-result-2 : goal.overflow_mul-result-2
overflow_mul-result-2 c =
    let g : Topology = record { dims = c.args.dims.now; periods = c.args.periods.now } in
    let step = step_is g _ _ _ _ _ c.requires.rank c.requires.dim
    (ap (λ l. get_or l c.args.dim 0) c.requires.strides) c.coordinate_in-c.ensures.value
    c.in_ok-m.ensures.below in
    omega arith

pub overflow_add-result : goal.overflow_add-result
overflow_add-result c =
    let g : Topology = record { dims = c.args.dims.now; periods = c.args.periods.now } in
    let step = step_is g _ _ _ _ _ c.requires.rank c.requires.dim
    (ap (λ l. get_or l c.args.dim 0) c.requires.strides) c.coordinate_in-c.ensures.value
    c.in_ok-m.ensures.below in
    omega arith

pub returns : goal.returns
returns c =
    let g : Topology = record { dims = c.args.dims.now; periods = c.args.periods.now } in
    let sum = whole_sum _ _ _ _ c.coordinate_in-c.ensures.below (c.type_inv.dims c.args.dim).fits
    c.from.ensures c.requires.least c.requires.most in
    let step = step_is g _ _ _ _ _ c.requires.rank c.requires.dim
    (ap (λ l. get_or l c.args.dim 0) c.requires.strides) c.coordinate_in-c.ensures.value
    c.in_ok-m.ensures.below in
    record {
      value = sym step.is
          ∙ shifted_is g _ _ _ _ (Some c.in_ok-m.m) c.requires.grid.paired c.requires.dim
          c.coordinate_in-c.ensures.value (c.in_ok-m.ensures.value ∙ ap (coordinate _ _) sum);
      below = step.inside;
    }
