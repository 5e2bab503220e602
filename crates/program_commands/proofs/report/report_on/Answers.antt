use Rattle.std.proofs.Common.{Some}
use Rattle.hall_script.specs.Devices.{used}
use Rattle.program_commands.specs.Earlier.{earlier_books}
use Rattle.program_commands.specs.Replaying.{no_book}
use Rattle.program_commands.proofs.ReportLemmas.{reported, unpaged}
use Rattle.program_commands.proofs.report.report_on.Goals as goal

pub returns : goal.returns
returns g c =
    let files = c.args.files in
    let policy = used g.P.Source.failures g.P.Source.remaining c.args.devices.policy.now
    c.read_all-reading.new.policy.0 in
    let earlier = earlier_books g.D.Source.failures g.D.Source.remaining files.earlier.items in
    let book = used g.B.Source.failures g.B.Source.remaining c.args.devices.subject.now
    c.read_all-reading.new.book.0 in
    let out = used g.O.Sink.failures g.O.Sink.contents c.args.devices.out.now
    c.page_read-ending.new.out in
    let page = used g.W.Sink.failures g.W.Sink.contents c.in-Some.page.now
    c.page_read-ending.new.file in
    let reading = c.read_all-reading.ensures in
    rw c.in-Some.is (
      c.page_read-ending.result,
      reported files.policy_path.now (g.P.Explains.cause policy.new) policy g.D.Explains.cause
          earlier files.book_path.now (g.B.Explains.cause book.new) book out
          c.page_read-ending.result (Some page) c.read_all-reading.result reading.wall
          reading.book reading.ending c.page_read-ending.ensures,
      c.end-2.ensures.status,
      c.end-2.ensures.told,
    )

pub returns-in_default : goal.returns-in_default
returns-in_default g c =
    let files = c.args.files in
    let policy = used g.P.Source.failures g.P.Source.remaining c.args.devices.policy.now
    c.read_all-reading.new.policy.0 in
    let earlier = earlier_books g.D.Source.failures g.D.Source.remaining files.earlier.items in
    let book = used g.B.Source.failures g.B.Source.remaining c.args.devices.subject.now
    c.read_all-reading.new.book.0 in
    let out = used g.O.Sink.failures g.O.Sink.contents c.args.devices.out.now
    c.report_read-ending.new.out in
    let reading = c.read_all-reading.ensures in
    let report = reported files.policy_path.now (g.P.Explains.cause policy.new) policy
    g.D.Explains.cause earlier files.book_path.now (g.B.Explains.cause book.new) book out
    c.report_read-ending.result no_book c.read_all-reading.result reading.wall reading.book
    reading.ending c.report_read-ending.ensures in
    rw c.in_default.is (
      c.report_read-ending.result,
      unpaged files.policy_path.now (g.P.Explains.cause policy.new) policy g.D.Explains.cause
          earlier files.book_path.now (g.B.Explains.cause book.new) book out
          c.report_read-ending.result report,
      c.end.ensures.status,
      c.end.ensures.told,
    )
