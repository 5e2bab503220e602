use Rattle.std.proofs.Common.{refl}
use Rattle.program_commands.proofs.replay.keep_ran.Goals as goal

pub returns-in-Err : goal.returns-in-Err
returns-in-Err g c = rw c.in-Err.is (refl, refl)

pub returns : goal.returns
returns g c = rw c.in-Ok.is c.keep-ending.ensures
