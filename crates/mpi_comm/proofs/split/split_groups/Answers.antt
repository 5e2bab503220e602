use Rattle.std.proofs.Common.{ℤ, map, ap, ◌∙◌}
use Rattle.std.proofs.lemmas.List.{take_all}
use Rattle.mpi_group.specs.Groups.{members_at}
use Rattle.mpi_comm.specs.Splits.{ranks_for, split_groups}
use Rattle.mpi_comm.proofs.SplitLemmas.{is_subgroup-ranks_for}
use Rattle.mpi_comm.proofs.split.split_groups.Goals as goal

pub included-requires : goal.included-requires
included-requires c = rw (c.as_slice.ensures.value, c.in_ok-ranks.ensures, ← c.requires)
    (is_subgroup-ranks_for _ c.args.asks.now)

pub returns : goal.returns
unfolding split_groups
returns c =
    c.loop-colour.invariant
    ∙ ap (map (λ (colour : ℤ). members_at c.args.group.now (ranks_for colour c.args.asks.now)))
    (take_all c.loop-colour.colour-index c.as_slice-colour-items.result.now
    c.loop-colour-test.false ∙ c.as_slice-colour-items.ensures.value
    ∙ c.in_ok-colours.ensures)
