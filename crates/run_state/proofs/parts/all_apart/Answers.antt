use Rattle.std.proofs.Common.{◌<◌, length, sym, ap, ◌∙◌, arith}
use Rattle.std.specs.List.{items_where_true}
use Rattle.mpi_cart.specs.Grids.{volume}
use Rattle.run_state.specs.Parts.{apart_of}
use Rattle.run_state.proofs.PartLemmas.{coords_length, table_next}
use Rattle.run_state.proofs.parts.all_apart.Goals as goal

pub chosen-requires : goal.chosen-requires
chosen-requires c =
    let within : c.loop-rank.rank < volume c.args.grid.now.dims = let low = c.loop-rank-test.true in
    let n = c.size-rank-end.ensures.value in omega arith in
    c.requires
    ∙ sym (ap length (c.deref.ensures.value ∙ c.in_ok-all.ensures)
    ∙ coords_length c.args.grid.now c.loop-rank.rank within)

pub loop-rank-preserved : goal.loop-rank-preserved
loop-rank-preserved c =
    table_next _ (apart_of c.args.grid.now c.args.gone.now) c.loop-rank.rank _ _ _
    c.loop-rank.invariant
    (c.in_ok-chosen.ensures
    ∙ ap (λ xs. items_where_true c.args.gone.now xs)
    (c.deref.ensures.value ∙ c.in_ok-all.ensures)) c.in_ok-push.ensures.items
