use Rattle.std.proofs.Common.{arith}
use Rattle.run_model.specs.Comms.{processes}
use Rattle.hall_turn.proofs.HallTurnLemmas.{passes_length}
use Rattle.live_session.proofs.ready.prepare.Goals as goal

pub share_out-requires : goal.share_out-requires
share_out-requires g c =
    let n = processes c.args.policy.now in
    let o = c.in_ok-door.passes.ok in
    let a = passes_length c.in_ok-door.door n c.in_ok-door.passes.items c.in_ok-door.ensures.passes
    in
    let long = c.requires.peers in
    omega arith
