use Rattle.std.proofs.Common.{take}
use Rattle.coll_text.proofs.FrontLemmas.{digits_solid}
use Rattle.coll_text.proofs.parts.Parts.next_small.Goals as goal

pub take_front-requires-clause-solid : goal.take_front-requires-clause-solid
take_front-requires-clause-solid c =
    digits_solid (take c.in_ok-read.read.1 c.self.inside.rest.now) c.in_ok-read.ensures.digits
