use Rattle.std.proofs.Common.{subst}
use Rattle.audit_book.specs.Checks.{IsFaultOf}
use Rattle.run_model.proofs.RunModelLemmas.{no_bad_entry}
use Rattle.program_commands.proofs.chain_given.behind.Goals as goal

pub unreachable-requires : goal.unreachable-requires
unreachable-requires c =
    let wall = c.args.reading.wall in
    let entries = c.args.reading.entries.list in
    no_bad_entry wall entries c.in-Err-BadEntry.field-0-0 c.requires.sound
    (subst (IsFaultOf wall entries) c.in-Err-BadEntry.field-0-is c.in-Err-BadEntry.ensures.fault)
