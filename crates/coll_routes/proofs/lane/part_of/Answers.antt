use Rattle.std.proofs.Common.{◌∙◌, ap, arith, sum, take, ◌+◌}
use Rattle.coll_routes.specs.Lanes.{sizes_by}
use Rattle.coll_routes.proofs.LaneLemmas.{sizes_small, block_within}
use Rattle.coll_routes.proofs.lane.part_of.Goals as goal

pub block-requires : goal.block-requires
block-requires c =
    rw c.counts.ensures
    (let small = sizes_small c.args.roll.now c.args.rank c.stated-giver.result.now c.requires.fit
    c.stated-giver.ensures c.requires.gives in
    omega arith)

pub returns-in-Block-clause-within : goal.returns-in-Block-clause-within
returns-in-Block-clause-within c =
    block_within c.args.roll.now c.args.rank c.stated-giver.result.now c.requires.fit
    c.stated-giver.ensures c.requires.gives c.in-Block.b _
    (c.block.ensures.end
    ∙ ap (λ counts.
    sum (take (c.in-Block.b + 1) (sizes_by c.args.roll.now.sig c.args.roll.now.shape counts)))
    c.counts.ensures)
