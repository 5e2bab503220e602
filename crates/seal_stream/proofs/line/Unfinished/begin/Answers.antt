use Rattle.std.proofs.Common.{[], refl}
use Rattle.std.proofs.lemmas.Result.{on_ok_weaker}
use Rattle.seal_stream.proofs.LineLemmas.{holds_none}
use Rattle.seal_stream.proofs.line.Unfinished.begin.Goals as goal

pub returns : goal.returns
returns c = on_ok_weaker c.add.result (λ h. h [] (holds_none _ c.clear.ensures.items refl))
    c.add.ensures
