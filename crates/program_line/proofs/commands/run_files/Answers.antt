use Rattle.std.proofs.Common.{ap, inl, map, subst}
use Rattle.std.specs.Prelude.{option_map}
use Rattle.hall_script.specs.Devices.{used}
use Rattle.program_line.specs.Kinds.{kinds_of, listed_kind}
use Rattle.program_line.specs.Performing.{AreListed}
use Rattle.program_line.proofs.PerformLemmas.{at_path, ran_bookless}
use Rattle.program_line.proofs.commands.run_files.Goals as goal

pub returns-in-Some : goal.returns-in-Some
returns-in-Some g c =
    rw c.in-Some.is (inl (
      record {
        old = c.unopened-policy.result;
        new = c.run_after.new.devices.0;
        at = at_path c.unopened-policy.ensures.unopened c.unopened-policy.ensures.path;
        begins = c.unopened-policy.ensures.count;
      },
      record {
        books = c.in-Ok.earlier.items;
        listed = subst (λ l. AreListed listed_kind (map (λ p. p.now) l) c.in-Ok.earlier.items)
            c.deref.ensures.value c.in-Ok.ensures;
      },
      record {
        old = c.unopened-script.result;
        new = c.run_after.new.devices.1.0;
        at = at_path c.unopened-script.ensures.unopened c.unopened-script.ensures.path;
        begins = c.unopened-script.ensures.count;
      },
      record {
        old = c.unmade-book.result;
        new = c.run_after.new.book.0;
        at = at_path c.unmade-book.ensures.unmade c.unmade-book.ensures.path;
        begins = c.unmade-book.ensures.count;
      },
      c.run_after.ensures,
    ))

pub returns : goal.returns
returns g c =
    let out = used g.O.Sink.failures g.O.Sink.contents c.args.streams.out.now
    c.run_after-in-None.new.devices.1.1.0 in
    let err = used g.E.Sink.failures g.E.Sink.contents c.args.streams.err.now
    c.run_after-in-None.new.devices.1.1.1.0 in
    inl (ran_bookless (kinds_of g.F.File.Read.remaining g.F.File.Write.contents c.args.files) _ out err _
    (record {
      old = c.unopened-policy.result;
      new = c.run_after-in-None.new.devices.0;
      at = at_path c.unopened-policy.ensures.unopened c.unopened-policy.ensures.path;
      begins = c.unopened-policy.ensures.count;
    })
    (record {
      books = c.in-Ok.earlier.items;
      listed = subst (λ l. AreListed listed_kind (map (λ p. p.now) l) c.in-Ok.earlier.items)
          c.deref.ensures.value c.in-Ok.ensures;
    })
    (record {
      old = c.unopened-script.result;
      new = c.run_after-in-None.new.devices.1.0;
      at = at_path c.unopened-script.ensures.unopened c.unopened-script.ensures.path;
      begins = c.unopened-script.ensures.count;
    })
    (ap (option_map (λ b. b.now)) c.in-None.is) c.run_after-in-None.ensures)
