use Rattle.std.proofs.Common.{take}
use Rattle.std.specs.List.{All}
use Rattle.rank_run.specs.Asked.{PostsBelow}
use Rattle.rank_run.proofs.requests.comms_in.Given as goal

abbrev pub invariant-loop-act : goal.invariant-loop-act
invariant-loop-act l = All (PostsBelow l.comms) (take l.act-index l.script)
