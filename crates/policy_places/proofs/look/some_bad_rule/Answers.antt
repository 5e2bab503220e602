use Rattle.std.proofs.Common.{◌∙◌}
use Rattle.policy_places.specs.Signs.{is_bad_rule}
use Rattle.policy_places.proofs.ViewLemmas.{any_view}
use Rattle.policy_places.proofs.look.some_bad_rule.Goals as goal

pub returns : goal.returns
returns c = c.any_is_bad.ensures ∙ any_view (is_bad_rule c.args.version) c.args.values.now
