use Rattle.std.proofs.Common.{◌∙◌, ap, refl, length, None, arith}
use Rattle.mpi_comm.specs.Comms.{group_at, dup_groups}
use Rattle.mpi_comm.specs.declared.values.Made.{Made}
use Rattle.run_model.specs.Comms.{Comm}
use Rattle.run_model.specs.declared.outcome.Outcome.TheVariants as outcomes
use Rattle.run_state.specs.Making.{is_left}
use Rattle.run_state.proofs.LaidLemmas.{some_at, laid_length, laid_within, fits_is, only_left}
use Rattle.run_state.proofs.MakingLemmas.{room_for_one, copy_entered, copy_sized, now_laid}
use Rattle.run_state.proofs.MakingLemmas.{makes_these, makes_nothing}
use Rattle.run_state.proofs.communicators.Communicators.duplicate.Goals as goal

pub push_reserved-requires : goal.push_reserved-requires
push_reserved-requires c =
    let gs = c.self.inside.table in
    let ss = c.self.inside.shapes.items in
    let low = laid_within gs ss c.args.self.now c.self.view_is c.self.invariant c.args.comm
    c.requires in
    let same = laid_length gs ss c.self.invariant in
    let kept = ap length c.make_room.ensures.same in
    let held = c.make_room.new.shapes.ok.0 in
    let room = c.in_ok-make_room.ensures.room in
    let one = room_for_one (length gs) (fits_is gs (dup_groups (group_at gs c.args.comm))
    c.args.comm None low c.in-Ok.ensures.good) in
    omega arith

pub refused-requires : goal.refused-requires
refused-requires c =
    let gs = c.self.inside.table in
    let ss = c.self.inside.shapes.items in
    ap (λ f. is_left f) c.in-Err.ensures.refused
    ∙ only_left gs (dup_groups (group_at gs c.args.comm)) c.args.comm None refl
    (laid_within gs ss c.args.self.now c.self.view_is c.self.invariant c.args.comm c.requires)

pub invariant_of-self-in-Ok : goal.invariant_of-self-in-Ok
invariant_of-self-in-Ok c =
    let gs = c.self.inside.table in
    let ss = c.self.inside.shapes.items in
    let there = some_at c.args.self.now c.args.comm c.requires in
    now_laid gs ss c.self.invariant there.0.grid (dup_groups (group_at gs c.args.comm))
    c.dup.new.self c.push_reserved.new.self.items
    (copy_sized gs ss c.args.self.now c.self.view_is c.self.invariant c.args.comm
    c.requires there.0 there.1)
    c.in-Ok.ensures.grown
    (copy_entered gs ss c.args.self.now c.self.view_is c.self.invariant c.args.comm
    c.requires there.0 there.1 c.make_room.new.shapes.items c.push_reserved.new.self.items
    c.in_ok-shape.shape c.make_room.ensures.same
    (c.in_ok-shape.ensures.made ∙ c.shape.ensures there.0 there.1) c.push_reserved.ensures.items)

pub returns-in-Ok-clause-made : goal.returns-in-Ok-clause-made
returns-in-Ok-clause-made c = λ found at.
    let gs = c.self.inside.table in
    let ss = c.self.inside.shapes.items in
    makes_these gs ss c.args.self.now c.self.view_is c.self.invariant c.args.comm
    c.requires None dup_groups (λ (f : Comm). f.grid) c.dup.new.self c.push_reserved.new.self.items
    c.outcome_of.result found c.in-Ok.ensures.good c.in-Ok.ensures.grown
    (copy_entered gs ss c.args.self.now c.self.view_is c.self.invariant c.args.comm
    c.requires found at c.make_room.new.shapes.items c.push_reserved.new.self.items
    c.in_ok-shape.shape c.make_room.ensures.same
    (c.in_ok-shape.ensures.made ∙ c.shape.ensures found at) c.push_reserved.ensures.items)
    (c.outcome_of.ensures ∙ ap (λ (m : Made). outcomes.Made m.first m.number) c.in-Ok.ensures.told)
    at

pub returns-in-Err-clause-made : goal.returns-in-Err-clause-made
returns-in-Err-clause-made c =
    let gs = c.self.inside.table in
    let ss = c.self.inside.shapes.items in
    makes_nothing gs ss c.args.self.now c.self.view_is c.self.invariant c.args.comm
    c.requires None dup_groups (λ (f : Comm). f.grid) c.refused.result c.dup.new.self
    c.make_room.new.shapes.items c.in-Err.fault refl c.in-Err.ensures.refused
    c.in-Err.ensures.kept c.make_room.ensures.same c.refused.ensures.ok
