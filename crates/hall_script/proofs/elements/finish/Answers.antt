use Rattle.hall_script.proofs.FillLemmas.{is_whole}
use Rattle.hall_script.proofs.elements.finish.Goals as goal

pub returns-in-Ok-clause-made : goal.returns-in-Ok-clause-made
returns-in-Ok-clause-made c =
    rw c.in-Ok.ensures.made (is_whole c.args.builder c.in-Ok.ensures.sound c.requires)
