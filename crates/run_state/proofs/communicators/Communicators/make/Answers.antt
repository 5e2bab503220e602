use Rattle.std.proofs.Common.{◌∙◌, ap, length}
use Rattle.mpi_comm.specs.Comms.{dup_groups, is_subgroup}
use Rattle.mpi_cart.specs.Faults.{first_fault}
use Rattle.run_model.specs.Comms.{Comm, with_grid, new_comms_by}
use Rattle.run_state.specs.Making.{is_kept}
use Rattle.run_state.proofs.LaidLemmas.{some_at}
use Rattle.run_state.proofs.MakingLemmas.{also_makes}
use Rattle.run_state.proofs.MakingKindLemmas.{split_colours, create_ranks, grid_dims, cut_keep}
use Rattle.run_state.proofs.MakingKindLemmas.{made_by_dup, others_make_none, nothing_made}
use Rattle.run_state.proofs.communicators.Communicators.make.Goals as goal

pub split-requires-clause-colours : goal.split-requires-clause-colours
split-requires-clause-colours c =
    let there = some_at c.args.self.now c.args.comm c.requires.there in
    split_colours c.args.sig.now there.0 c.args.asks.now c.in-Split.is
    (c.requires.faultless there.0 there.1)

pub create-requires-clause-ranks : goal.create-requires-clause-ranks
create-requires-clause-ranks c = λ found at.
    ap (λ ranks. is_subgroup (length found.members) ranks) c.as_slice.ensures
    ∙ create_ranks c.args.sig.now found c.args.asks.now c.in-Create.ranks c.in-Create.is
    (c.requires.faultless found at)

pub lay_grid-requires-clause-dims : goal.lay_grid-requires-clause-dims
lay_grid-requires-clause-dims c = λ found at.
    (λ i. first_fault (c.as_slice-in-CartCreate.ensures i) (c.as_slice-in-CartCreate-2.ensures i)
    (length found.members))
    ∙ grid_dims c.args.sig.now found c.args.asks.now c.in-CartCreate.dims c.in-CartCreate.periods
    c.in-CartCreate.is (c.requires.faultless found at)

pub cut_grid-requires-clause-keep : goal.cut_grid-requires-clause-keep
cut_grid-requires-clause-keep c = λ found at.
    ap (λ keep. is_kept keep found.grid) c.as_slice-in-CartSub.ensures
    ∙ cut_keep c.args.sig.now found c.args.asks.now c.in-CartSub.keep c.in-CartSub.is
    (c.requires.faultless found at)

pub returns-in-Dup-clause-made : goal.returns-in-Dup-clause-made
returns-in-Dup-clause-made c =
    also_makes c.duplicate.result (λ (f : Comm). with_grid f.grid (dup_groups f.members))
    (λ (f : Comm). new_comms_by c.args.sig.now f c.args.asks.now) c.args.self.now
    c.duplicate.new.self c.args.comm
    (λ found at. made_by_dup c.args.sig.now found c.args.asks.now c.in-Dup.is)
    c.duplicate.ensures.made

pub returns-in_default-clause-made : goal.returns-in_default-clause-made
returns-in_default-clause-made c = λ found at.
    nothing_made c.args.self.now (new_comms_by c.args.sig.now found c.args.asks.now) c.len.result
    (others_make_none c.args.sig.now found c.args.asks.now c.in_default.not-Dup
    c.in_default.not-Split c.in_default.not-Create c.in_default.not-CartCreate
    c.in_default.not-CartSub)
    c.len.ensures
