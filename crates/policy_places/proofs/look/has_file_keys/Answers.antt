use Rattle.std.proofs.Common.{◌∙◌}
use Rattle.policy_places.specs.Signs.{is_file_key}
use Rattle.policy_places.proofs.ViewLemmas.{all_keys-view}
use Rattle.policy_places.proofs.look.has_file_keys.Goals as goal

pub returns : goal.returns
returns c = c.all_of_file.ensures ∙ all_keys-view is_file_key c.args.members.now.entries
