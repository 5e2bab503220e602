use Rattle.std.proofs.Common.{inl, refl}
use Rattle.program_commands.proofs.check.tell_lines.Goals as goal

pub returns-in-Ok : goal.returns-in-Ok
returns-in-Ok c =
    inl (c.in-Ok.faults, c.in-Ok.ensures.lines, refl, c.script_ending-ending.ensures)
