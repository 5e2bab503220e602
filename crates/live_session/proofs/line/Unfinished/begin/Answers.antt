use Rattle.std.proofs.Common.{[]}
use Rattle.std.proofs.lemmas.Result.{on_ok_weaker}
use Rattle.live_session.proofs.line.Unfinished.begin.Goals as goal

pub returns : goal.returns
returns c = on_ok_weaker c.add.result (λ h. h [] c.empty.ensures) c.add.ensures
