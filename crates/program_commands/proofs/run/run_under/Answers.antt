use Rattle.std.proofs.Common.{refl}
use Rattle.program_commands.proofs.run.run_under.Goals as goal

pub returns-in-Err : goal.returns-in-Err
returns-in-Err g c = rw c.in-Err.is (refl, refl, refl)

pub returns-in-Ok-play : goal.returns-in-Ok-play
returns-in-Ok-play g c = rw c.in-Ok.is c.in-Ok-play.ensures.reached

pub returns-in-Err-play : goal.returns-in-Err-play
returns-in-Err-play g c = rw c.in-Ok.is c.in-Err-play.ensures.ended
