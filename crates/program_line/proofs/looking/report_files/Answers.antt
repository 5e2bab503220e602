use Rattle.std.proofs.Common.{ap, inl, map, subst}
use Rattle.std.specs.Prelude.{option_map}
use Rattle.hall_script.specs.Devices.{used}
use Rattle.program_line.specs.Kinds.{kinds_of, listed_kind}
use Rattle.program_line.specs.Performing.{AreListed}
use Rattle.program_line.proofs.PerformLemmas.{at_path, reported_unpaged}
use Rattle.program_line.proofs.looking.report_files.Goals as goal

pub returns-in-Some : goal.returns-in-Some
returns-in-Some g c =
    rw c.in-Some.is (inl (
      record {
        old = c.unopened-policy.result;
        new = c.report_on.new.devices.0;
        at = at_path c.unopened-policy.ensures.unopened c.unopened-policy.ensures.path;
        begins = c.unopened-policy.ensures.count;
      },
      record {
        books = c.in-Ok.earlier.items;
        listed = subst (λ l. AreListed listed_kind (map (λ p. p.now) l) c.in-Ok.earlier.items)
            c.deref.ensures.value c.in-Ok.ensures;
      },
      record {
        old = c.unopened-book.result;
        new = c.report_on.new.devices.1.0;
        at = at_path c.unopened-book.ensures.unopened c.unopened-book.ensures.path;
        begins = c.unopened-book.ensures.count;
      },
      record {
        old = c.unmade-page.result;
        new = c.report_on.new.page.0;
        at = at_path c.unmade-page.ensures.unmade c.unmade-page.ensures.path;
        begins = c.unmade-page.ensures.count;
      },
      record {
        of_policy = λ d. d.cause;
        of_listed = λ d. d.cause;
        of_second = λ d. d.cause;
      },
      c.report_on.ensures,
    ))

pub returns : goal.returns
returns g c =
    let out = used g.O.Sink.failures g.O.Sink.contents c.args.streams.out.now
    c.report_on-in-None.new.devices.1.1.0 in
    let err = used g.E.Sink.failures g.E.Sink.contents c.args.streams.err.now
    c.report_on-in-None.new.devices.1.1.1.0 in
    inl (reported_unpaged (kinds_of g.F.File.Read.remaining g.F.File.Write.contents c.args.files) _ out err _
    (record {
      old = c.unopened-policy.result;
      new = c.report_on-in-None.new.devices.0;
      at = at_path c.unopened-policy.ensures.unopened c.unopened-policy.ensures.path;
      begins = c.unopened-policy.ensures.count;
    })
    (record {
      books = c.in-Ok.earlier.items;
      listed = subst (λ l. AreListed listed_kind (map (λ p. p.now) l) c.in-Ok.earlier.items)
          c.deref.ensures.value c.in-Ok.ensures;
    })
    (record {
      old = c.unopened-book.result;
      new = c.report_on-in-None.new.devices.1.0;
      at = at_path c.unopened-book.ensures.unopened c.unopened-book.ensures.path;
      begins = c.unopened-book.ensures.count;
    })
    (record {
      of_policy = λ d. d.cause;
      of_listed = λ d. d.cause;
      of_second = λ d. d.cause;
    })
    (ap (option_map (λ b. b.now)) c.in-None.is) c.report_on-in-None.ensures)
