use Rattle.std.proofs.Common.{subst, sym, ◌≤◌, length}
use Rattle.run_model.specs.Comms.{processes}
use Rattle.wall_policy.specs.Policy.{ChineseWall}
use Rattle.hall_turn.specs.Ending.{ClosedTo}
use Rattle.hall_turn.proofs.GatherLemmas.{closed}
use Rattle.hall_turn.proofs.door.DoorTo.end_all.Goals as goal

pub returns : goal.returns
returns g c =
    let d = c.into_turns-turns.result.table.shared.key.value in
    let same = c.into_turns-turns.ensures.policy in
    subst (λ (x : ChineseWall). ClosedTo g.M.Machine.stands x c.end.result c.args.passes.items) same
    (closed g.M.Machine.stands d c.end.result c.args.passes.items c.gather-seat.result.me
    c.gather-seat.ensures.has c.end.ensures
    (subst (λ (x : ChineseWall). processes x ≤ length c.args.passes.items) (sym same)
    c.requires.enough))
