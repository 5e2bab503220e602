use Rattle.std.proofs.Common.{◌∙◌}
use Rattle.policy_places.specs.Signs.{is_fit}
use Rattle.policy_places.proofs.ViewLemmas.{all_view}
use Rattle.policy_places.proofs.look.all_fit.Goals as goal

pub returns : goal.returns
returns c = c.each_is_fit.ensures ∙ all_view (is_fit c.args.version c.args.part) c.args.values.now
