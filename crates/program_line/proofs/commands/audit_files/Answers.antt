use Rattle.std.proofs.Common.{inl, map, subst}
use Rattle.program_line.specs.Kinds.{listed_kind}
use Rattle.program_line.specs.Performing.{AreListed}
use Rattle.program_line.proofs.PerformLemmas.{at_path}
use Rattle.program_line.proofs.commands.audit_files.Goals as goal

pub returns : goal.returns
returns g c = inl (
  record {
    old = c.unopened-policy.result;
    new = c.audit_after.new.devices.0;
    at = at_path c.unopened-policy.ensures.unopened c.unopened-policy.ensures.path;
    begins = c.unopened-policy.ensures.count;
  },
  record {
    books = c.in-Ok.earlier.items;
    listed = subst (λ l. AreListed listed_kind (map (λ p. p.now) l) c.in-Ok.earlier.items)
        c.deref.ensures.value c.in-Ok.ensures;
  },
  record {
    old = c.unopened-book.result;
    new = c.audit_after.new.devices.1.0;
    at = at_path c.unopened-book.ensures.unopened c.unopened-book.ensures.path;
    begins = c.unopened-book.ensures.count;
  },
  c.audit_after.ensures,
)
