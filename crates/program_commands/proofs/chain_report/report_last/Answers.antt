use Rattle.std.proofs.Common.{inl, refl}
use Rattle.program_commands.proofs.chain_report.report_last.Goals as goal

pub returns-in-Err : goal.returns-in-Err
returns-in-Err g c = inl (c.in-Err.ensures.none, refl, tt)

pub write_last-ending-requires : goal.write_last-ending-requires
write_last-ending-requires g c = c.in-Ok.ensures.last.last.sound
