use Rattle.std.proofs.Common.{◌∙◌, ◌+◌, ◌++◌, ◌∷◌, [], length, ap, sym, arith, Some, append_assoc}
use Rattle.std.proofs.Common.{length-append, drop}
use Rattle.mpi_cart.specs.Grids.{Topology}
use Rattle.run_state.specs.Laid.{laid}
use Rattle.run_state.proofs.MakingLemmas.{entered_more, is_copy}
use Rattle.run_state.proofs.making.enter_grids.Goals as goal

pub loop-grid-preserved : goal.loop-grid-preserved
loop-grid-preserved c =
    let i = c.loop-grid.invariant in
    let rest = c.next.new.self.rest.items in
    let prefix = ap (λ gs. c.loop-grid.yielded ++ gs) (sym c.in-Some.ensures.steps.0) ∙ i.rest in
    let total = sym (length-append c.loop-grid.yielded (c.in-Some.grid ∷ rest))
    ∙ ap length prefix in
    let push = c.push_reserved.ensures in
    let long = ap length push.items ∙ length-append c.loop-grid.shapes.items _ in
    let size = c.size-size.ensures.value ∙ ap length c.group.ensures in
    let count = i.count in
    let at = i.at in
    let all = c.requires.all in
    record {
      rest = append_assoc c.loop-grid.yielded (c.in-Some.grid ∷ []) rest ∙ prefix;
      count = omega (arith, length-append c.loop-grid.yielded (c.in-Some.grid ∷ []));
      at = omega arith;
      all = λ g copies.
          let copy = is_copy c.loop-grid.yielded c.in-Some.grid rest (length c.args.grids.items) g
          (prefix ∙ copies) in
          let items = push.items ∙ ap (λ (t : Topology). c.loop-grid.shapes.items
          ++ record { size = c.size-size.result; grid = Some t } ∷ []) copy in
          ap (λ xs. xs ++ laid (Some g) (drop (c.loop-grid.comm + 1) c.args.table.now)) items
          ∙ entered_more (Some g) c.args.table.now c.loop-grid.comm c.loop-grid.shapes.items _ _
          (omega arith) size (i.all g copies);
      room = (let kept = push.capacity in let room = i.room in omega arith);
    }
