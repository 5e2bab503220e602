use Rattle.std.proofs.Common.{refl}
use Rattle.live_session.proofs.LineLemmas.{holds_none}
use Rattle.live_session.proofs.line.Unfinished.empty.Goals as goal

pub returns : goal.returns
returns c = holds_none _ c.give_back.ensures refl
