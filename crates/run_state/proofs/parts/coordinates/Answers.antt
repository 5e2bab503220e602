use Rattle.std.proofs.Common.{◌∙◌, arith}
use Rattle.run_state.proofs.PartLemmas.{all_coords}
use Rattle.run_state.proofs.parts.coordinates.Goals as goal

pub returns : goal.returns
returns c = c.loop-dim.invariant
    ∙ all_coords c.args.grid.now c.args.rank c.loop-dim.dim c.requires
    (let over = c.loop-dim-test.false in let n = c.ndims-dim-end.ensures.value in omega arith)
