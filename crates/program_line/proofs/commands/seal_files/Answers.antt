use Rattle.std.proofs.Common.{inl, map, subst}
use Rattle.program_line.specs.Kinds.{listed_kind}
use Rattle.program_line.specs.Performing.{AreListed}
use Rattle.program_line.proofs.PerformLemmas.{at_path}
use Rattle.program_line.proofs.commands.seal_files.Goals as goal

pub returns : goal.returns
returns g c = inl (
  record {
    old = c.unopened-policy.result;
    new = c.seal_on.new.devices.0;
    at = at_path c.unopened-policy.ensures.unopened c.unopened-policy.ensures.path;
    begins = c.unopened-policy.ensures.count;
  },
  record {
    books = c.in-Ok.earlier.items;
    listed = subst (λ l. AreListed listed_kind (map (λ p. p.now) l) c.in-Ok.earlier.items)
        c.deref.ensures.value c.in-Ok.ensures;
  },
  record {
    old = c.unopened-cut.result;
    new = c.seal_on.new.devices.1.0;
    at = at_path c.unopened-cut.ensures.unopened c.unopened-cut.ensures.path;
    begins = c.unopened-cut.ensures.count;
  },
  record {
    old = c.only_new-sealed.result;
    new = c.seal_on.new.sealed;
    at = at_path c.only_new-sealed.ensures.unmade c.only_new-sealed.ensures.path;
    begins = c.only_new-sealed.ensures.count;
  },
  c.seal_on.ensures,
)
