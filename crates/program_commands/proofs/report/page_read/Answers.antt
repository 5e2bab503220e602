use Rattle.std.proofs.Common.{refl}
use Rattle.program_commands.proofs.report.page_read.Goals as goal

pub returns-in-Ok : goal.returns-in-Ok
returns-in-Ok g c = rw c.in-Ok.is c.page_entries-ending.ensures

pub returns-in-Err : goal.returns-in-Err
returns-in-Err g c = rw c.in-Err.is (refl, refl, refl)
