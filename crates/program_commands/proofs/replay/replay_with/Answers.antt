use Rattle.std.proofs.Common.{None, Some}
use Rattle.hall_script.specs.Devices.{used}
use Rattle.program_commands.proofs.ReplayLemmas.{replayed_so, unkept}
use Rattle.program_commands.proofs.replay.replay_with.Goals as goal

pub returns : goal.returns
returns g c =
    let book = used g.B.Sink.failures g.B.Sink.contents c.in-Some.kept.now
    c.end_with_book.new.book in
    let ended = c.end_with_book.ensures in
    rw c.in-Some.is (
      ended.0,
      replayed_so _ _ (Some book) c.args.wall c.replay_under-ran.result ended.0
          c.replay_under-ran.ensures ended.1,
      ended.2,
      ended.3,
    )

pub returns-in_default : goal.returns-in_default
returns-in_default g c =
    let ended = c.end_without_book.ensures in
    rw c.in_default.is (
      ended.0,
      replayed_so {B = Unit {0}} _ _ None c.args.wall c.replay_under-ran.result ended.0
          c.replay_under-ran.ensures (unkept (Unit {0}) c.replay_under-ran.result ended.0 ended.1),
      ended.2,
      ended.3,
    )
