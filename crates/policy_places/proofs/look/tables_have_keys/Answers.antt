use Rattle.std.proofs.Common.{◌∙◌}
use Rattle.policy_places.specs.Signs.{has_keys}
use Rattle.policy_places.proofs.ViewLemmas.{all_view}
use Rattle.policy_places.proofs.look.tables_have_keys.Goals as goal

pub returns : goal.returns
returns c = c.each_has_keys.ensures
    ∙ all_view (has_keys c.args.version c.args.part) c.args.values.now
