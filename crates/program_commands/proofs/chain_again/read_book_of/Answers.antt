use Rattle.std.proofs.Common.{inl, inr, subst}
use Rattle.program_commands.specs.ChainReports.{IsNoTextOf}
use Rattle.program_commands.proofs.chain_again.read_book_of.Goals as goal

pub returns-in-Err-clause-fault : goal.returns-in-Err-clause-fault
returns-in-Err-clause-fault g c = inr (inl (
  c.in-Ok-Some.text.items,
  (rw c.in-Ok-Some.field-0-is at c.in-Ok-Some.ensures.whole),
  subst (λ t. IsNoTextOf c.args.wall.now c.args.run.now.book_digest t c.in-Err.fault)
      c.deref.ensures.value c.in-Err.ensures.fault,
))
