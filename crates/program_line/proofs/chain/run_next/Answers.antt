use Rattle.std.proofs.Common.{inl, inr, refl}
use Rattle.hall_script.specs.Devices.{used}
use Rattle.program_line.proofs.PerformLemmas.{at_path, next_bookless}
use Rattle.program_line.proofs.chain.run_next.Goals as goal

pub returns-in-Err : goal.returns-in-Err
returns-in-Err g c = inl (c.in-Err.ensures.none, refl)

pub returns : goal.returns
returns g c =
    rw c.in-Some.is (inr (
      c.in-Ok.wall,
      c.in-Ok.ensures.chained,
      record {
        old = c.unopened-script.result;
        new = c.run_with-2.new.script;
        at = at_path c.unopened-script.ensures.unopened c.unopened-script.ensures.path;
        begins = c.unopened-script.ensures.count;
      },
      record {
        old = c.unmade-book.result;
        new = c.run_with-2.new.book.0;
        at = at_path c.unmade-book.ensures.unmade c.unmade-book.ensures.path;
        begins = c.unmade-book.ensures.count;
      },
      rw c.in-Ok.ensures.silent at c.run_with-2.ensures,
    ))

pub returns-in_default : goal.returns-in_default
returns-in_default g c =
    let out = used g.O.Sink.failures g.O.Sink.contents c.args.streams.out.now
    c.run_with.new.streams.0 in
    let err = used g.E.Sink.failures g.E.Sink.contents c.args.streams.err.now
    c.run_with.new.streams.1.0 in
    rw c.in_default.is (inr (
      c.in-Ok.wall,
      c.in-Ok.ensures.chained,
      record {
        old = c.unopened-script.result;
        new = c.run_with.new.script;
        at = at_path c.unopened-script.ensures.unopened c.unopened-script.ensures.path;
        begins = c.unopened-script.ensures.count;
      },
      tt,
      next_bookless _ _ out err _ (rw c.in-Ok.ensures.silent at c.run_with.ensures),
    ))
