use Rattle.std.proofs.Common.{refl}
use Rattle.program_line.proofs.PerformLemmas.{refused_words}
use Rattle.program_line.proofs.commands.perform.Goals as goal

pub returns : goal.returns
returns g c = refused_words _ _ c.in-Err.fault _ _ _ c.in-Err.ensures (
  c.fault_ending.result,
  (c.fault_ending.ensures, refl),
  c.end-in-Err.ensures.status,
  c.end-in-Err.ensures.told,
)
