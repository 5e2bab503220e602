use Rattle.program_commands.specs.Auditing.{book_limit}
use Rattle.program_commands.proofs.ReportLemmas.{explained_so}
use Rattle.program_commands.proofs.earlier.policy_after.Goals as goal

pub returns-in-Err-clause-ending : goal.returns-in-Err-clause-ending
returns-in-Err-clause-ending g c =
    let broken = c.in-Err.broken in
    let (by, named, left) = c.in-Err.ensures.ending in (
      broken.ending,
      (
        by,
        explained_so g.D.Explains.cause broken.ending c.explained-ending.result broken.path.now
            by.one.path.now by.left broken.device c.cause-cause.result book_limit named left
            c.cause-cause.ensures c.explained-ending.ensures,
      ),
    )
