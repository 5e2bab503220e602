use Rattle.std.proofs.Common.{inl, refl, sym, subst, IsSome}
use Rattle.program_commands.proofs.chain.audit_chain.Goals as goal

pub returns-in-Some : goal.returns-in-Some
returns-in-Some g c = inl (
  subst IsSome (sym c.in-Some.ensures.some) refl,
  refl,
  c.end_open.ensures.status,
  (rw c.ended.ensures at c.end_open.ensures.told),
)
