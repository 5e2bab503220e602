use Rattle.std.proofs.Common.{◌≡◌, ℕ, List, [], Option, Some, None, Bor, refl, ap, ◌∙◌, inl, map}
use Rattle.std.proofs.Common.{subst}
use Rattle.std.specs.Prelude.{option_map, unwrap_or}
use Rattle.program_line.specs.Kinds.{listed_kind}
use Rattle.program_line.specs.Performing.{AreListed}
use Rattle.program_line.proofs.PerformLemmas.{at_path}
use Rattle.program_line.proofs.looking.check_files.Goals as goal

-- the path of a file, or none
path_of : (o : Option (Bor (List ℕ))) (d : Bor (List ℕ)) → d.now ≡ [] →
    (unwrap_or o d).now ≡ unwrap_or (option_map (λ p. p.now) o) []
path_of (Some p) d none = refl
path_of None d none = none

pub returns : goal.returns
returns g c =
    let path = ap (λ (b : Bor (List ℕ)). b.now) c.unwrap_or-script_path.ensures
    ∙ path_of c.args.paths.script _ refl in
    let book_path = ap (λ (b : Bor (List ℕ)). b.now) c.unwrap_or-book_path.ensures
    ∙ path_of c.args.paths.book _ refl in
    inl (
      record {
        old = c.unopened-policy.result;
        new = c.check_on.new.policy;
        at = at_path c.unopened-policy.ensures.unopened c.unopened-policy.ensures.path;
        begins = c.unopened-policy.ensures.count;
      },
      record {
        books = c.in-Ok.earlier.items;
        listed = subst (λ l. AreListed listed_kind (map (λ p. p.now) l) c.in-Ok.earlier.items)
            c.deref.ensures.value c.in-Ok.ensures;
      },
      record {
        device = c.listed_if_any-script.result;
        listed = c.listed_if_any-script.ensures;
      },
      record {
        device = c.listed_if_any-book.result;
        listed = c.listed_if_any-book.ensures;
      },
      record {
        of_policy = λ d. d.cause;
        of_listed = λ d. d.cause;
        of_second = λ d. d.cause;
      },
      rw (path, book_path) at c.check_on.ensures,
    )
