use Rattle.std.proofs.Common.{◌≡◌, ◌∙◌, ap, sym, length, map, true, Some, arith}
use Rattle.std.specs.List.{list_all}
use Rattle.std.proofs.lemmas.List.{length-replicate}
use Rattle.mpi_cart.specs.Grids.{volume}
use Rattle.mpi_comm.specs.Comms.{subset_groups, is_subgroup, group_at}
use Rattle.mpi_comm.specs.declared.fault.CommFault.TheVariants as faults
use Rattle.mpi_comm.specs.declared.values.Made.{Made}
use Rattle.run_model.specs.Comms.{Comm}
use Rattle.run_model.specs.declared.outcome.Outcome.TheVariants as outcomes
use Rattle.run_state.specs.Making.{is_left}
use Rattle.run_state.proofs.LaidLemmas.{only_left, parts_sized, laid_within}
use Rattle.run_state.proofs.MakingLemmas.{at_group, if_true, fewer, copies_are, all_at, all_entered}
use Rattle.run_state.proofs.MakingLemmas.{now_laid, makes_these, makes_nothing, length_groups}
use Rattle.run_state.proofs.communicators.Communicators.add_parts.Goals as goal

pub enter_grids-requires-clause-all : goal.enter_grids-requires-clause-all
enter_grids-requires-clause-all c =
    let lists = map (λ list. list.items) c.args.lists.now in
    let members = group_at c.self.inside.table c.args.comm in
    let long = fewer c.self.inside.table c.self.inside.shapes.items c.self.invariant
    (subset_groups lists members) c.subsets.new.self c.make_room.new.shapes.items
    c.make_room.ensures.same c.in-Ok.ensures.grown in
    let number = length_groups c.args.lists.now (λ list. list.items) members in
    let copies = ap length c.in_ok-grids.ensures ∙ length-replicate _ c.args.grid.now in
    omega arith

pub refused-requires : goal.refused-requires
refused-requires c =
    let gs = c.self.inside.table in
    let ss = c.self.inside.shapes.items in
    let lists = map (λ list. list.items) c.args.lists.now in
    let subs = at_group gs ss c.args.self.now c.self.view_is c.self.invariant c.args.comm
    c.requires.there (λ ms.
    list_all (is_subgroup (length ms)) (map (λ list. list.items) c.args.lists.now) ≡ true)
    c.requires.ranks in
    ap (λ f. is_left f) c.in-Err.ensures.refused
    ∙ only_left gs (subset_groups lists (group_at gs c.args.comm)) c.args.comm _
    (if_true _ faults.NotSubgroup subs)
    (laid_within gs ss c.args.self.now c.self.view_is c.self.invariant c.args.comm
    c.requires.there)

pub invariant_of-self-in-Ok : goal.invariant_of-self-in-Ok
invariant_of-self-in-Ok c =
    let gs = c.self.inside.table in
    let ss = c.self.inside.shapes.items in
    let g = c.args.grid.now in
    let lists = map (λ list. list.items) c.args.lists.now in
    let new = subset_groups lists (group_at gs c.args.comm) in
    let subs = at_group gs ss c.args.self.now c.self.view_is c.self.invariant c.args.comm
    c.requires.there (λ ms.
    list_all (is_subgroup (length ms)) (map (λ list. list.items) c.args.lists.now) ≡ true)
    c.requires.ranks in
    let sizes = sym (all_at c.args.lists.now (λ list. list.items) (volume g.dims)) ∙
    c.requires.sizes in
    let copies = copies_are c.in_ok-grids.grids.items _ g c.in_ok-grids.ensures in
    now_laid gs ss c.self.invariant (Some g) new c.subsets.new.self c.enter_grids.new.shapes.items
    (parts_sized g (group_at gs c.args.comm) lists subs sizes) c.in-Ok.ensures.grown
    (all_entered gs ss c.self.invariant (Some g) new c.subsets.new.self
    c.make_room.new.shapes.items c.enter_grids.new.shapes.items c.make_room.ensures.same
    c.in-Ok.ensures.grown (c.enter_grids.ensures g copies))

pub returns-in-Ok-clause-made : goal.returns-in-Ok-clause-made
returns-in-Ok-clause-made c = λ found at.
    let gs = c.self.inside.table in
    let ss = c.self.inside.shapes.items in
    let g = c.args.grid.now in
    let lists = map (λ list. list.items) c.args.lists.now in
    let new = subset_groups lists (group_at gs c.args.comm) in
    let copies = copies_are c.in_ok-grids.grids.items _ g c.in_ok-grids.ensures in
    makes_these gs ss c.args.self.now c.self.view_is c.self.invariant c.args.comm
    c.requires.there _ (subset_groups lists) (λ (f : Comm). Some g) c.subsets.new.self
    c.enter_grids.new.shapes.items c.outcome_of.result found c.in-Ok.ensures.good
    c.in-Ok.ensures.grown
    (all_entered gs ss c.self.invariant (Some g) new c.subsets.new.self
    c.make_room.new.shapes.items c.enter_grids.new.shapes.items c.make_room.ensures.same
    c.in-Ok.ensures.grown (c.enter_grids.ensures g copies))
    (c.outcome_of.ensures ∙ ap (λ (m : Made). outcomes.Made m.first m.number) c.in-Ok.ensures.told)
    at

pub returns-in-Err-clause-made : goal.returns-in-Err-clause-made
returns-in-Err-clause-made c =
    let gs = c.self.inside.table in
    let ss = c.self.inside.shapes.items in
    let g = c.args.grid.now in
    let lists = map (λ list. list.items) c.args.lists.now in
    let subs = at_group gs ss c.args.self.now c.self.view_is c.self.invariant c.args.comm
    c.requires.there (λ ms.
    list_all (is_subgroup (length ms)) (map (λ list. list.items) c.args.lists.now) ≡ true)
    c.requires.ranks in
    makes_nothing gs ss c.args.self.now c.self.view_is c.self.invariant c.args.comm
    c.requires.there _ (subset_groups lists) (λ (f : Comm). Some g) c.refused.result
    c.subsets.new.self c.make_room.new.shapes.items c.in-Err.fault
    (if_true _ faults.NotSubgroup subs) c.in-Err.ensures.refused c.in-Err.ensures.kept
    c.make_room.ensures.same c.refused.ensures.ok
