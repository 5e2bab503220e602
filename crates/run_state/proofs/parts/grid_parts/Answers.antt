use Rattle.std.proofs.Common.{◌≡◌, map, not, refl, sym, ap, ◌∙◌, arith}
use Rattle.mpi_cart.specs.Grids.{Topology, below, coords, kept, volume}
use Rattle.run_model.specs.Comms.{ranks_apart}
use Rattle.run_state.specs.Parts.{apart_of}
use Rattle.run_state.proofs.PartLemmas.{table_length, table_same, table_next, ranks_by_table}
use Rattle.run_state.proofs.PartLemmas.{parts_by_rank}
use Rattle.run_state.proofs.parts.grid_parts.Goals as goal

pub ranks_apart-requires : goal.ranks_apart-requires
ranks_apart-requires c =
    table_length _ (apart_of c.args.grid.now c.deref-2.result.now) (volume c.args.grid.now.dims)
    c.deref-in-loop-rank.result.now
    (table_same _ (apart_of c.args.grid.now c.deref-2.result.now) (volume c.args.grid.now.dims)
    c.in_ok-each.each.items c.deref-in-loop-rank.result.now c.deref-in-loop-rank.ensures.value
    c.in_ok-each.ensures)
    ∙ sym c.size-in-loop-rank.ensures.value

pub loop-rank-preserved : goal.loop-rank-preserved
loop-rank-preserved c =
    let grid = c.args.grid.now in
    let keep = c.args.keep.now in
    let rank = c.loop-rank.rank in
    let apart : c.in_ok-apart.apart ≡ kept (map not keep) grid = c.in_ok-apart.ensures ∙ ap
    (λ bs. kept bs grid) (c.deref.ensures.value ∙ c.in_ok-gone.ensures) in
    let value = c.deref-in-loop-rank-2.ensures.value ∙
    (c.in_ok-value.ensures ∙ ap (λ (g : Topology). coords g rank) apart) in
    let table = table_same _ (apart_of grid c.deref-2.result.now) (volume grid.dims)
    c.in_ok-each.each.items c.deref-in-loop-rank.result.now c.deref-in-loop-rank.ensures.value
    c.in_ok-each.ensures in
    let ranks = c.in_ok-ranks_apart.ensures ∙ (ranks_by_table grid keep c.deref-2.result.now _
    c.size-in-loop-rank.result c.deref-in-loop-rank-2.result.now
    (c.deref-2.ensures.value ∙ c.in_ok-gone.ensures) c.size-in-loop-rank.ensures.value table
    ∙ ap (λ vs. ranks_apart grid keep vs) value) in
    table_next _ (λ r. ranks_apart grid keep (coords (kept (map not keep) grid) r)) rank _ _ _
    c.loop-rank.invariant ranks c.in_ok-push.ensures.items

pub returns : goal.returns
returns c =
    let grid = c.args.grid.now in
    let keep = c.args.keep.now in
    let apart : c.in_ok-apart.apart ≡ kept (map not keep) grid = c.in_ok-apart.ensures ∙ ap
    (λ bs. kept bs grid) (c.deref.ensures.value ∙ c.in_ok-gone.ensures) in
    let size : c.size-rank-end.result ≡ volume (kept (map not keep) grid).dims =
    c.size-rank-end.ensures.value ∙ ap (λ (g : Topology). volume g.dims) apart in
    let end : c.loop-rank.rank ≡ volume (kept (map not keep) grid).dims = let most =
    c.loop-rank.auto.rank-end in let over = c.loop-rank-test.false in omega
    (arith, most, over, size) in
    c.loop-rank.invariant
    ∙ (ap (λ n. map (λ r. ranks_apart grid keep (coords (kept (map not keep) grid) r))
    (below n)) end ∙ parts_by_rank grid keep (kept (map not keep) grid) refl)
