use Rattle.std.proofs.Common.{inr, refl}
use Rattle.program_commands.proofs.check.tell_book_after.Goals as goal

pub returns-in-Err : goal.returns-in-Err
returns-in-Err g c =
    inr (
      rw c.untold.ensures.ending c.in-Err.ensures.ending,
      c.untold.ensures.text,
      refl,
    )
