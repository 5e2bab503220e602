use Rattle.std.proofs.Common.{None, Some}
use Rattle.hall_script.specs.Devices.{used}
use Rattle.program_commands.specs.Walls.{IsPolicyOf, IsNoPolicy}
use Rattle.program_commands.proofs.ReplayLemmas.{replayed_under, unkept}
use Rattle.program_commands.proofs.replay.replay_on.Goals as goal

pub returns : goal.returns
returns g c =
    let policy = used g.P.Source.failures g.P.Source.remaining c.args.policy.now
    c.read_wall-wall.new.source in
    let script = used g.S.Source.failures g.S.Source.remaining c.args.script.now
    c.replay_under-hall.new.script in
    let out = used g.O.Sink.failures g.O.Sink.contents c.args.out.now
    c.replay_under-hall.new.out in
    let book = used g.B.Sink.failures g.B.Sink.contents c.in-Some.book.now
    c.end_with_book.new.book in
    let ended = c.end_with_book.ensures in
    rw c.in-Some.is (
      ended.0,
      replayed_under script out (Some book) (IsPolicyOf policy) (IsNoPolicy policy)
          c.read_wall-wall.result c.replay_under-hall.result ended.0
          c.read_wall-wall.ensures.policy c.read_wall-wall.ensures.ending
          c.replay_under-hall.ensures ended.1,
      ended.2,
      ended.3,
    )

pub returns-in_default : goal.returns-in_default
returns-in_default g c =
    let policy = used g.P.Source.failures g.P.Source.remaining c.args.policy.now
    c.read_wall-wall.new.source in
    let script = used g.S.Source.failures g.S.Source.remaining c.args.script.now
    c.replay_under-hall.new.script in
    let out = used g.O.Sink.failures g.O.Sink.contents c.args.out.now
    c.replay_under-hall.new.out in
    let ended = c.end_without_book.ensures in
    rw c.in_default.is (
      ended.0,
      replayed_under {B = Unit {0}} script out None (IsPolicyOf policy) (IsNoPolicy policy)
          c.read_wall-wall.result c.replay_under-hall.result ended.0
          c.read_wall-wall.ensures.policy c.read_wall-wall.ensures.ending
          c.replay_under-hall.ensures (unkept (Unit {0}) c.replay_under-hall.result ended.0 ended.1),
      ended.2,
      ended.3,
    )
