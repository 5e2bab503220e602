use Rattle.std.proofs.Common.{inl, inr, refl}
use Rattle.program_commands.proofs.audit.audit_after.Goals as goal

pub returns-in-Err : goal.returns-in-Err
returns-in-Err g c = (
  c.in-Err.ending,
  inl (c.in-Err.ensures.ending, refl, refl),
  c.end.ensures.status,
  c.end.ensures.told,
)

pub returns : goal.returns
returns g c = (
  c.audit_under-ending.result,
  inr (c.in-Ok.wall, c.in-Ok.ensures.policy, c.audit_under-ending.ensures),
  c.end-2.ensures.status,
  c.end-2.ensures.told,
)
