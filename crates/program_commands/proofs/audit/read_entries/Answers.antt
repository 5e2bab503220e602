use Rattle.std.proofs.lemmas.Result.{IfOk-weaker}
use Rattle.hall_script.specs.Devices.{used}
use Rattle.program_commands.proofs.AuditLemmas.{is_book, is_no_book}
use Rattle.program_commands.proofs.audit.read_entries.Goals as goal

pub returns-in-Ok-clause-book : goal.returns-in-Ok-clause-book
returns-in-Ok-clause-book g c =
    let device = used g.B.Source.failures g.B.Source.remaining c.args.source.now
    c.read_device.new.source in
    IfOk-weaker c.book_of.result _ _
    (λ book h. is_book c.args.wall.now device c.in-Ok.bytes.items c.deref.result.now
    c.deref.ensures.value c.in-Ok.ensures.whole book.list h) c.book_of.ensures.book

pub returns-in-Ok-clause-ending : goal.returns-in-Ok-clause-ending
returns-in-Ok-clause-ending g c =
    let device = used g.B.Source.failures g.B.Source.remaining c.args.source.now
    c.read_device.new.source in
    is_no_book c.args.wall.now device c.in-Ok.bytes.items c.deref.result.now c.deref.ensures.value
    c.in-Ok.ensures.whole c.book_of.result c.book_of.ensures.ending
