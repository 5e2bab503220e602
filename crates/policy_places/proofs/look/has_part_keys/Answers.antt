use Rattle.std.proofs.Common.{◌∙◌}
use Rattle.policy_places.specs.Signs.{is_key_of}
use Rattle.policy_places.proofs.ViewLemmas.{all_keys-view}
use Rattle.policy_places.proofs.look.has_part_keys.Goals as goal

pub returns : goal.returns
returns c = c.all_of_part.ensures
    ∙ all_keys-view (is_key_of c.args.version c.args.part) c.args.members.now.entries
