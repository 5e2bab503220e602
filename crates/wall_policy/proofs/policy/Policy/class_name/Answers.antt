use Rattle.std.proofs.Common.{ℕ, Some, sym, ap, ◌∙◌}
use Rattle.wall_policy.specs.Names.{place_of, is_name}
use Rattle.wall_policy.specs.Policy.{ChineseWall}
use Rattle.wall_policy.proofs.PlaceLemmas.{place_of-name, list_all-place}
use Rattle.wall_policy.proofs.policy.Policy.class_name.Goals as goal

pub returns-clause-leads_back : goal.returns-clause-leads_back
returns-clause-leads_back c =
    ap (λ (w : ChineseWall). place_of c.name_at.result.now w.class_names) (sym c.self.view_is)
    ∙ place_of-name c.self.inside.class_names c.number.result c.name_at.result.now
    c.self.invariant.distinct_classes c.name_at.ensures
    ∙ ap (λ (n : ℕ). Some n) c.number.ensures.value

pub returns-clause-form : goal.returns-clause-form
returns-clause-form c =
    list_all-place is_name c.self.inside.class_names c.number.result c.name_at.result.now
    c.self.invariant.good_classes c.name_at.ensures
