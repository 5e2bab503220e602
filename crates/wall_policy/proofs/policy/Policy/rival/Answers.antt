use Rattle.std.proofs.Common.{◌≡◌, sym, ap, ◌∙◌}
use Rattle.wall_policy.specs.Policy.{ChineseWall, rival}
use Rattle.wall_policy.specs.Rivals.{are_rivals}
use Rattle.wall_policy.proofs.RivalLemmas.{are_rivals-Decides}
use Rattle.wall_policy.proofs.policy.Policy.rival.Goals as goal

pub returns-clause-rivals : goal.returns-clause-rivals
returns-clause-rivals c =
    let decided = are_rivals-Decides c.args.self.now.classes c.args.left c.args.right in
    let same : c.are_rivals.result ≡ rival c.args.self.now c.args.left c.args.right =
    c.are_rivals.ensures
    ∙ ap (λ classes. are_rivals classes c.args.left c.args.right)
    (c.deref.ensures.value ∙ ap (λ (w : ChineseWall). w.classes) c.self.view_is) in
    (λ h. decided.0 (sym same ∙ h), λ r. same ∙ decided.1 r)
