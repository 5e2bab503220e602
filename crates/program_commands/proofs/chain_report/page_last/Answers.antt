use Rattle.std.proofs.Common.{inl, refl}
use Rattle.program_commands.proofs.chain_report.page_last.Goals as goal

pub returns-in-Err : goal.returns-in-Err
returns-in-Err g c = inl (c.in-Err.ensures.none, refl, refl)

pub write_last_page-ending-requires : goal.write_last_page-ending-requires
write_last_page-ending-requires g c = c.in-Ok.ensures.last.last.sound
