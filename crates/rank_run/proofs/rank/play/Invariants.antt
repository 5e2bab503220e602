use Rattle.std.proofs.Common.{◌≡◌, ◌++◌, ◌≤◌, length, vec_len, vec_capacity}
use Rattle.std.specs.Vec.Iter.{into_iter_items}
use Rattle.rank_run.specs.declared.waiting.TheConstants.{PATIENCE}
use Rattle.rank_run.proofs.PlayLemmas.{HasCome}
use Rattle.rank_run.proofs.rank.play.Given as goal

abbrev pub invariant-loop-act : goal.invariant-loop-act
invariant-loop-act g l = record {
  at : l.part.door.now ≡ l.setting.door.now;
  whole : l.yielded ++ into_iter_items l.act-iterator ≡ l.fn.job.script.items;
  come : HasCome PATIENCE l.fn.job l.yielded l.replies.items l.pass;
  count : vec_len l.replies ≡ length l.yielded;
  room : length l.fn.job.script.items ≤ vec_capacity l.replies;
}
