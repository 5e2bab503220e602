use Rattle.std.proofs.Common.{◌≡◌, ◌∙◌, ap, length, true, None, arith}
use Rattle.mpi_comm.specs.Comms.{create_groups, is_subgroup, group_at}
use Rattle.mpi_comm.specs.declared.fault.CommFault.TheVariants as faults
use Rattle.mpi_comm.specs.declared.values.Made.{Made}
use Rattle.run_model.specs.Comms.{Comm}
use Rattle.run_model.specs.declared.outcome.Outcome.TheVariants as outcomes
use Rattle.run_state.specs.Making.{is_left}
use Rattle.run_state.proofs.LaidLemmas.{only_left, plain_sized, laid_within}
use Rattle.run_state.proofs.MakingLemmas.{at_group, if_true, fewer, all_entered, now_laid}
use Rattle.run_state.proofs.MakingLemmas.{makes_these, makes_nothing}
use Rattle.run_state.proofs.communicators.Communicators.create.Goals as goal

pub enter_plain-requires-clause-more : goal.enter_plain-requires-clause-more
enter_plain-requires-clause-more c =
    let gs = c.self.inside.table in
    let ss = c.self.inside.shapes.items in
    let long = fewer gs ss c.self.invariant
    (create_groups c.args.ranks.now (group_at gs c.args.comm)) c.create.new.self
    c.make_room.new.shapes.items c.make_room.ensures.same c.in-Ok.ensures.grown in
    omega arith

pub refused-requires : goal.refused-requires
refused-requires c =
    let gs = c.self.inside.table in
    let ss = c.self.inside.shapes.items in
    let sub = at_group gs ss c.args.self.now c.self.view_is c.self.invariant c.args.comm
    c.requires.there (λ ms. is_subgroup (length ms) c.args.ranks.now ≡ true) c.requires.ranks in
    ap (λ f. is_left f) c.in-Err.ensures.refused
    ∙ only_left gs (create_groups c.args.ranks.now (group_at gs c.args.comm)) c.args.comm _
    (if_true _ faults.NotSubgroup sub)
    (laid_within gs ss c.args.self.now c.self.view_is c.self.invariant c.args.comm
    c.requires.there)

pub invariant_of-self-in-Ok : goal.invariant_of-self-in-Ok
invariant_of-self-in-Ok c =
    let gs = c.self.inside.table in
    let ss = c.self.inside.shapes.items in
    let new = create_groups c.args.ranks.now (group_at gs c.args.comm) in
    now_laid gs ss c.self.invariant None new c.create.new.self c.enter_plain.new.shapes.items
    (plain_sized new) c.in-Ok.ensures.grown
    (all_entered gs ss c.self.invariant None new c.create.new.self c.make_room.new.shapes.items
    c.enter_plain.new.shapes.items c.make_room.ensures.same c.in-Ok.ensures.grown
    c.enter_plain.ensures)

pub returns-in-Ok-clause-made : goal.returns-in-Ok-clause-made
returns-in-Ok-clause-made c = λ found at.
    let gs = c.self.inside.table in
    let ss = c.self.inside.shapes.items in
    makes_these gs ss c.args.self.now c.self.view_is c.self.invariant c.args.comm
    c.requires.there _ (create_groups c.args.ranks.now) (λ (f : Comm). None) c.create.new.self
    c.enter_plain.new.shapes.items c.outcome_of.result found c.in-Ok.ensures.good
    c.in-Ok.ensures.grown
    (all_entered gs ss c.self.invariant None (create_groups c.args.ranks.now
    (group_at gs c.args.comm)) c.create.new.self c.make_room.new.shapes.items
    c.enter_plain.new.shapes.items c.make_room.ensures.same c.in-Ok.ensures.grown
    c.enter_plain.ensures)
    (c.outcome_of.ensures ∙ ap (λ (m : Made). outcomes.Made m.first m.number) c.in-Ok.ensures.told)
    at

pub returns-in-Err-clause-made : goal.returns-in-Err-clause-made
returns-in-Err-clause-made c =
    let gs = c.self.inside.table in
    let ss = c.self.inside.shapes.items in
    let sub = at_group gs ss c.args.self.now c.self.view_is c.self.invariant c.args.comm
    c.requires.there (λ ms. is_subgroup (length ms) c.args.ranks.now ≡ true) c.requires.ranks in
    makes_nothing gs ss c.args.self.now c.self.view_is c.self.invariant c.args.comm
    c.requires.there _ (create_groups c.args.ranks.now) (λ (f : Comm). None) c.refused.result
    c.create.new.self c.make_room.new.shapes.items c.in-Err.fault
    (if_true _ faults.NotSubgroup sub) c.in-Err.ensures.refused c.in-Err.ensures.kept
    c.make_room.ensures.same c.refused.ensures.ok
