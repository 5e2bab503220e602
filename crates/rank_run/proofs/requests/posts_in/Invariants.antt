use Rattle.std.proofs.Common.{◌≡◌, take}
use Rattle.std.specs.List.{count_by}
use Rattle.rank_run.specs.Asked.{is_post}
use Rattle.rank_run.proofs.requests.posts_in.Given as goal

abbrev pub invariant-loop-act : goal.invariant-loop-act
invariant-loop-act l = l.posts ≡ count_by is_post (take l.act-index l.script)
