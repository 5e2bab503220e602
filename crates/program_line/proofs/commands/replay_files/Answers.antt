use Rattle.std.proofs.Common.{inl, map, subst}
use Rattle.program_line.specs.Kinds.{listed_kind}
use Rattle.program_line.specs.Performing.{AreListed}
use Rattle.program_line.proofs.PerformLemmas.{at_path}
use Rattle.program_line.proofs.commands.replay_files.Goals as goal

pub returns-in-Some : goal.returns-in-Some
returns-in-Some g c =
    rw c.in-Some.is (inl (
      record {
        old = c.unopened-policy.result;
        new = c.replay_after.new.devices.0;
        at = at_path c.unopened-policy.ensures.unopened c.unopened-policy.ensures.path;
        begins = c.unopened-policy.ensures.count;
      },
      record {
        books = c.in-Ok.earlier.items;
        listed = subst (λ l. AreListed listed_kind (map (λ p. p.now) l) c.in-Ok.earlier.items)
            c.deref.ensures.value c.in-Ok.ensures;
      },
      record {
        old = c.unopened-script.result;
        new = c.replay_after.new.devices.1.0;
        at = at_path c.unopened-script.ensures.unopened c.unopened-script.ensures.path;
        begins = c.unopened-script.ensures.count;
      },
      record {
        old = c.unmade-book.result;
        new = c.replay_after.new.book.0;
        at = at_path c.unmade-book.ensures.unmade c.unmade-book.ensures.path;
        begins = c.unmade-book.ensures.count;
      },
      c.replay_after.ensures,
    ))

pub returns : goal.returns
returns g c =
    rw c.in-None.is (inl (
      record {
        old = c.unopened-policy.result;
        new = c.replay_after-in-None.new.devices.0;
        at = at_path c.unopened-policy.ensures.unopened c.unopened-policy.ensures.path;
        begins = c.unopened-policy.ensures.count;
      },
      record {
        books = c.in-Ok.earlier.items;
        listed = subst (λ l. AreListed listed_kind (map (λ p. p.now) l) c.in-Ok.earlier.items)
            c.deref.ensures.value c.in-Ok.ensures;
      },
      record {
        old = c.unopened-script.result;
        new = c.replay_after-in-None.new.devices.1.0;
        at = at_path c.unopened-script.ensures.unopened c.unopened-script.ensures.path;
        begins = c.unopened-script.ensures.count;
      },
      tt,
      c.replay_after-in-None.ensures,
    ))
