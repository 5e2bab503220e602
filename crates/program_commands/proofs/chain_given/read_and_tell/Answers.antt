use Rattle.std.proofs.Common.{sym, subst}
use Rattle.audit_book.proofs.NamedLemmas.{book_known}
use Rattle.program_commands.specs.ChainReports.{IsNotToldNext}
use Rattle.program_commands.proofs.ChainGivenLemmas.{told_if_whole, untold_if_none, out_of_memory}
use Rattle.program_commands.proofs.ChainGivenLemmas.{told_if_long, long_out_of_memory}
use Rattle.program_commands.proofs.chain_given.read_and_tell.Goals as goal

pub put_given-requires : goal.put_given-requires
put_given-requires g c = (rw c.in-Ok-Some.field-0-is at c.in-Ok-Some.ensures.read).sound

pub behind-requires-clause-sound : goal.behind-requires-clause-sound
behind-requires-clause-sound g c = (rw c.in-Ok-Some.field-0-is at c.in-Ok-Some.ensures.read).sound

pub behind-requires-clause-known : goal.behind-requires-clause-known
behind-requires-clause-known g c =
    let again = rw c.in-Ok-Some.field-0-is at c.in-Ok-Some.ensures.read in
    let says = again.says in
    book_known c.in-Ok-Some.reading.wall says.0 c.in-Ok-Some.reading.entries.list says.2

pub returns-in-Ok-clause-told : goal.returns-in-Ok-clause-told
returns-in-Ok-clause-told g c =
    told_if_whole g.F.Reader.Source.failures g.F.Reader.Source.remaining g.F.FileSystem.is_at
    c.args.past.now c.args.run.now c.in-Ok-Some.reading.wall c.in-Ok-Some.reading.entries.list
    (rw c.in-Ok-Some.field-0-is at c.in-Ok-Some.ensures.read)
    c.args.number c.args.lines.now.items c.put_given.new.lines.items c.behind.result
    (rw c.in-Ok-Some.field-0-is at c.in-Ok-Some.ensures.chain) c.in-Ok.ensures
    c.behind.ensures.past

pub returns-in-Ok-clause-fault : goal.returns-in-Ok-clause-fault
returns-in-Ok-clause-fault g c =
    untold_if_none g.F.Reader.Source.failures g.F.Reader.Source.remaining g.F.FileSystem.is_at
    c.args.past.now c.args.run.now c.in-Ok-Some.reading.wall c.in-Ok-Some.reading.entries.list
    (rw c.in-Ok-Some.field-0-is at c.in-Ok-Some.ensures.read) c.behind.result
    c.behind.ensures.fault

pub returns-in-Err-put_given-clause-fault : goal.returns-in-Err-put_given-clause-fault
returns-in-Err-put_given-clause-fault g c =
    subst (IsNotToldNext g.F.Reader.Source.failures g.F.Reader.Source.remaining
    g.F.FileSystem.is_at c.args.past.now c.args.run.now) (sym c.from.ensures)
    (out_of_memory g.F.Reader.Source.failures g.F.Reader.Source.remaining g.F.FileSystem.is_at
    c.args.past.now c.args.run.now c.in-Ok-Some.reading.wall c.in-Ok-Some.reading.entries.list
    (rw c.in-Ok-Some.field-0-is at c.in-Ok-Some.ensures.read))

pub returns-in-Ok-put_long-clause-told : goal.returns-in-Ok-put_long-clause-told
returns-in-Ok-put_long-clause-told g c =
    told_if_long g.F.Reader.Source.failures g.F.Reader.Source.remaining g.F.FileSystem.is_at
    c.args.past.now c.args.run.now c.args.number c.args.lines.now.items
    c.put_long.new.lines.items c.read_behind.result
    (rw c.in-Ok-None.field-0-is at c.in-Ok-None.ensures.long)
    c.in-Ok-put_long.ensures c.read_behind.ensures.read

pub returns-in-Err-put_long-clause-fault : goal.returns-in-Err-put_long-clause-fault
returns-in-Err-put_long-clause-fault g c =
    subst (IsNotToldNext g.F.Reader.Source.failures g.F.Reader.Source.remaining
    g.F.FileSystem.is_at c.args.past.now c.args.run.now) (sym c.from-in-Err-put_long-2.ensures)
    (long_out_of_memory g.F.Reader.Source.failures g.F.Reader.Source.remaining
    g.F.FileSystem.is_at
    c.args.past.now c.args.run.now (rw c.in-Ok-None.field-0-is at c.in-Ok-None.ensures.long))
