use Rattle.std.proofs.Common.{◌∙◌}
use Rattle.policy_places.specs.Signs.{is_text}
use Rattle.policy_places.proofs.ViewLemmas.{all_view}
use Rattle.policy_places.proofs.look.are_texts.Goals as goal

pub returns : goal.returns
returns c = c.each_is_text.ensures ∙ all_view is_text c.args.values.now
