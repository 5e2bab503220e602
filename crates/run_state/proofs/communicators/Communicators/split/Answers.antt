use Rattle.std.proofs.Common.{◌≡◌, ◌∙◌, ap, length, None, arith}
use Rattle.mpi_comm.specs.Comms.{group_at}
use Rattle.mpi_comm.specs.Splits.{split_groups}
use Rattle.mpi_comm.specs.declared.fault.CommFault.TheVariants as faults
use Rattle.mpi_comm.specs.declared.values.Made.{Made}
use Rattle.run_model.specs.Comms.{Comm}
use Rattle.run_model.specs.declared.outcome.Outcome.TheVariants as outcomes
use Rattle.run_state.specs.Making.{is_left}
use Rattle.run_state.proofs.LaidLemmas.{only_left, plain_sized, laid_within}
use Rattle.run_state.proofs.MakingLemmas.{at_group, if_false, fewer, all_entered, now_laid}
use Rattle.run_state.proofs.MakingLemmas.{makes_these, makes_nothing}
use Rattle.run_state.proofs.communicators.Communicators.split.Goals as goal

pub split-requires : goal.split-requires
split-requires c =
    at_group c.self.inside.table c.self.inside.shapes.items c.args.self.now c.self.view_is
    c.self.invariant c.args.comm c.requires.there
    (λ ms. length c.args.asks.now ≡ length ms) c.requires.asks

pub enter_plain-requires-clause-more : goal.enter_plain-requires-clause-more
enter_plain-requires-clause-more c =
    let gs = c.self.inside.table in
    let ss = c.self.inside.shapes.items in
    let long = fewer gs ss c.self.invariant (split_groups c.args.asks.now (group_at gs c.args.comm))
    c.split.new.self c.make_room.new.shapes.items c.make_room.ensures.same
    c.in-Ok.ensures.grown in
    omega arith

pub refused-requires : goal.refused-requires
refused-requires c =
    let gs = c.self.inside.table in
    let ss = c.self.inside.shapes.items in
    ap (λ f. is_left f) c.in-Err.ensures.refused
    ∙ only_left gs (split_groups c.args.asks.now (group_at gs c.args.comm)) c.args.comm _
    (if_false _ faults.BadColour c.requires.colours)
    (laid_within gs ss c.args.self.now c.self.view_is c.self.invariant c.args.comm
    c.requires.there)

pub invariant_of-self-in-Ok : goal.invariant_of-self-in-Ok
invariant_of-self-in-Ok c =
    let gs = c.self.inside.table in
    let ss = c.self.inside.shapes.items in
    let new = split_groups c.args.asks.now (group_at gs c.args.comm) in
    now_laid gs ss c.self.invariant None new c.split.new.self c.enter_plain.new.shapes.items
    (plain_sized new) c.in-Ok.ensures.grown
    (all_entered gs ss c.self.invariant None new c.split.new.self c.make_room.new.shapes.items
    c.enter_plain.new.shapes.items c.make_room.ensures.same c.in-Ok.ensures.grown
    c.enter_plain.ensures)

pub returns-in-Ok-clause-made : goal.returns-in-Ok-clause-made
returns-in-Ok-clause-made c = λ found at.
    let gs = c.self.inside.table in
    let ss = c.self.inside.shapes.items in
    makes_these gs ss c.args.self.now c.self.view_is c.self.invariant c.args.comm
    c.requires.there _ (split_groups c.args.asks.now) (λ (f : Comm). None) c.split.new.self
    c.enter_plain.new.shapes.items c.outcome_of.result found c.in-Ok.ensures.good
    c.in-Ok.ensures.grown
    (all_entered gs ss c.self.invariant None (split_groups c.args.asks.now
    (group_at gs c.args.comm)) c.split.new.self c.make_room.new.shapes.items
    c.enter_plain.new.shapes.items c.make_room.ensures.same c.in-Ok.ensures.grown
    c.enter_plain.ensures)
    (c.outcome_of.ensures ∙ ap (λ (m : Made). outcomes.Made m.first m.number) c.in-Ok.ensures.told)
    at

pub returns-in-Err-clause-made : goal.returns-in-Err-clause-made
returns-in-Err-clause-made c =
    let gs = c.self.inside.table in
    let ss = c.self.inside.shapes.items in
    makes_nothing gs ss c.args.self.now c.self.view_is c.self.invariant c.args.comm
    c.requires.there _ (split_groups c.args.asks.now) (λ (f : Comm). None) c.refused.result
    c.split.new.self c.make_room.new.shapes.items c.in-Err.fault
    (if_false _ faults.BadColour c.requires.colours) c.in-Err.ensures.refused
    c.in-Err.ensures.kept c.make_room.ensures.same c.refused.ensures.ok
