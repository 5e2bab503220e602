use Rattle.std.proofs.Common.{refl}
use Rattle.program_commands.proofs.replay.replay_under.Goals as goal

pub returns-in-Err : goal.returns-in-Err
returns-in-Err g c = rw c.in-Err.is (refl, refl, refl)

pub returns-in-Ok-replay : goal.returns-in-Ok-replay
returns-in-Ok-replay g c =
    let replayed = c.in-Ok-replay.ensures.replayed in
    rw c.in-Ok.is (replayed.0, c.in-Ok-replay.ensures.policy, replayed.1, replayed.2)

pub returns-in-Err-replay : goal.returns-in-Err-replay
returns-in-Err-replay g c =
    rw c.in-Ok.is (c.in-Err-replay.fault, c.in-Err-replay.ensures.fault, c.script_ending.ensures)
