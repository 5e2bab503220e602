use Rattle.std.proofs.Common.{inl, ◌∙◌}
use Rattle.program_commands.proofs.chain_report.write_last.Goals as goal

pub returns-in-Ok : goal.returns-in-Ok
returns-in-Ok g c =
    let t = c.in-Ok.ensures in
    inl (record {
      sound = t.1;
      keeps = t.2;
      text = t.0;
      report = t.3;
      written = rw (c.deref.ensures.value ∙ t.4) at c.write_text-ending.ensures;
    })
