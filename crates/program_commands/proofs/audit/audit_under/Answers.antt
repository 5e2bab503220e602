use Rattle.std.proofs.Common.{inr}
use Rattle.run_model.proofs.RunModelLemmas.{sound_books_keep_the_wall}
use Rattle.program_commands.specs.declared.audit.Finding.TheVariants as findings
use Rattle.program_commands.proofs.audit.audit_under.Goals as goal

pub returns-in-Ok : goal.returns-in-Ok
returns-in-Ok g c =
    let (text, gave, (entries, read, sound, number)) = c.in-Ok.ensures in
    inr (record {
      entries = entries;
      read = (text, gave, read);
      finding = findings.Sound c.in-Ok.entries;
      found = (
        sound,
        sound_books_keep_the_wall c.args.wall.now entries c.processes.ensures.policy sound,
        number,
      );
      announced = c.tell.ensures;
    })
