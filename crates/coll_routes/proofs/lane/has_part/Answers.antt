use Rattle.std.proofs.Common.{◌∙◌, ap, sym, nat_lt, get_or}
use Rattle.std.specs.List.{list_any}
use Rattle.mpi_cart.specs.Grids.{below}
use Rattle.coll_routes.specs.Lanes.{sizes_by, holds}
use Rattle.coll_routes.specs.Rolls.{stated_by, own_counts_in, given}
use Rattle.coll_routes.proofs.LaneLemmas.{any_block}
use Rattle.coll_routes.proofs.lane.has_part.Goals as goal

pub returns-in-Block : goal.returns-in-Block
returns-in-Block c =
    ap (λ n. nat_lt 0 n) (c.block_size.ensures
    ∙ ap (λ counts. get_or (sizes_by c.args.roll.now.sig c.args.roll.now.shape counts) c.in-Block.b
    0) c.counts.ensures)
    ∙ (any_block c.args.roll.now c.args.rank c.stated-giver.result.now c.requires.fit
    c.stated-giver.ensures c.requires.gives c.in-Block.b
    ∙ ap (λ lane. list_any (holds lane (sizes_by c.args.roll.now.sig c.args.roll.now.shape
    (own_counts_in (stated_by c.args.roll.now c.args.rank))))
    (below (given c.args.roll.now c.args.rank)))
    (sym c.in-Block.is))
