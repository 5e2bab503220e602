use Rattle.report_text.proofs.GivenLemmas.{one_gave, none_gave}
use Rattle.report_text.proofs.laws.what_is_held_was_given_once.Goals as goal

pub returns-clause-once : goal.returns-clause-once
returns-clause-once c = λ links wall rows p d low nothing chain are held away.
    one_gave c.holding_is_history.ensures p d low links wall rows nothing chain are held away

pub returns-clause-held : goal.returns-clause-held
returns-clause-held c = λ links wall rows p d low chain are not.
    none_gave c.holding_is_history.ensures p d low links wall rows chain are not
