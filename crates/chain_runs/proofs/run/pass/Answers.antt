use Rattle.std.proofs.Common.{rules, sym}
use Rattle.chain_runs.proofs.run.pass.Goals as goal

pub returns-then-ne-clause-fault : goal.returns-then-ne-clause-fault
returns-then-ne-clause-fault g c =
    let p = c.in-Ok.ensures.passed in
    let was = c.ne.ensures in
    let is = c.if-ne.true in (
      c.in-Ok.passed.digest,
      p.entries,
      (p.text, p.gave, p.says, sym p.digest),
      p.sound,
      (search rules),
    )
