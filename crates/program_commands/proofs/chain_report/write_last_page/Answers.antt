use Rattle.std.proofs.Common.{inl, subst, ◌∙◌}
use Rattle.audit_book.specs.Checks.{IsFaultOf}
use Rattle.run_model.proofs.RunModelLemmas.{no_bad_entry}
use Rattle.program_commands.proofs.chain_report.write_last_page.Goals as goal

pub returns : goal.returns
returns g c =
    let t = c.in-Ok.ensures in
    inl (record {
      sound = t.1;
      keeps = t.2;
      text = t.0;
      report = t.3;
      written = (
        c.in-Ok-report_page.page.items,
        c.in-Ok-report_page.ensures.page,
        rw (c.deref.ensures.value ∙ t.4, c.deref-2.ensures.value) at c.write_both-ending.ensures,
      );
    })

pub unreachable-requires : goal.unreachable-requires
unreachable-requires g c =
    let wall = c.args.last.now.reading.wall in
    let entries = c.args.last.now.reading.entries.list in
    no_bad_entry wall entries c.in-Err-BadEntry.field-0-0 c.requires
    (subst (IsFaultOf wall entries) c.in-Err-BadEntry.field-0-is c.in-Err-BadEntry.ensures.fault)
