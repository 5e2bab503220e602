use Rattle.std.proofs.Common.{◌∙◌, ap, inl, map, string_bytes, subst}
use Rattle.std.proofs.lemmas.Result.{IfOk-weaker, IfErr-weaker}
use Rattle.program_line.specs.Kinds.{listed_kind}
use Rattle.program_line.specs.Performing.{AreListed}
use Rattle.program_line.proofs.PerformLemmas.{at_path}
use Rattle.program_line.proofs.policy.served_policy.Goals as goal

pub returns-clause-policy : goal.returns-clause-policy
returns-clause-policy g c = IfOk-weaker c.read_wall_after.result _ _ (λ wall after. (
  record {
    old = c.unopened-policy.result;
    new = c.read_wall_after.new.policy;
    at = at_path c.unopened-policy.ensures.unopened
        (c.unopened-policy.ensures.path ∙ c.deref-3.ensures);
    begins = c.unopened-policy.ensures.count;
  },
  record {
    books = c.in-Ok-listed.earlier.items;
    listed = subst (λ paths. AreListed listed_kind paths c.in-Ok-listed.earlier.items)
        (ap (λ texts. map (λ p. p.now) texts) c.deref-2.ensures.value ∙ c.in-Ok.ensures
        ∙ ap (λ words. map (λ w. string_bytes w) words) c.deref.ensures.value)
        c.in-Ok-listed.ensures;
  },
  after,
)) c.read_wall_after.ensures.policy

pub returns-clause-ending : goal.returns-clause-ending
returns-clause-ending g c = IfErr-weaker c.read_wall_after.result _ _ (λ ending none. inl (
  record {
    old = c.unopened-policy.result;
    new = c.read_wall_after.new.policy;
    at = at_path c.unopened-policy.ensures.unopened
        (c.unopened-policy.ensures.path ∙ c.deref-3.ensures);
    begins = c.unopened-policy.ensures.count;
  },
  record {
    books = c.in-Ok-listed.earlier.items;
    listed = subst (λ paths. AreListed listed_kind paths c.in-Ok-listed.earlier.items)
        (ap (λ texts. map (λ p. p.now) texts) c.deref-2.ensures.value ∙ c.in-Ok.ensures
        ∙ ap (λ words. map (λ w. string_bytes w) words) c.deref.ensures.value)
        c.in-Ok-listed.ensures;
  },
  none,
)) c.read_wall_after.ensures.ending
