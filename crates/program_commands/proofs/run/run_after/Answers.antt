use Rattle.std.proofs.Common.{None, Some}
use Rattle.hall_script.specs.Devices.{used}
use Rattle.program_commands.specs.Earlier.{earlier_books, IsWallAfter, IsNoWallAfter}
use Rattle.program_commands.proofs.RankLemmas.{ran_under}
use Rattle.program_commands.proofs.ReplayLemmas.{unkept}
use Rattle.program_commands.proofs.run.run_after.Goals as goal

pub returns : goal.returns
returns g c =
    let policy = used g.P.Source.failures g.P.Source.remaining c.args.devices.policy.now
    c.read_wall_after-wall.new.policy in
    let earlier = earlier_books g.D.Source.failures g.D.Source.remaining c.args.earlier.items in
    let book = used g.B.Sink.failures g.B.Sink.contents c.in-Some.book.now
    c.end_with_book.new.book in
    let ended = c.end_with_book.ensures in
    rw c.in-Some.is (
      ended.0,
      ran_under _ _ (Some book) (IsWallAfter policy earlier) (IsNoWallAfter policy earlier)
          c.read_wall_after-wall.result c.run_under-hall.result ended.0
          c.read_wall_after-wall.ensures.policy c.read_wall_after-wall.ensures.ending
          c.run_under-hall.ensures ended.1,
      ended.2,
      ended.3,
    )

pub returns-in_default : goal.returns-in_default
returns-in_default g c =
    let policy = used g.P.Source.failures g.P.Source.remaining c.args.devices.policy.now
    c.read_wall_after-wall.new.policy in
    let earlier = earlier_books g.D.Source.failures g.D.Source.remaining c.args.earlier.items in
    let ended = c.end_without_book.ensures in
    rw c.in_default.is (
      ended.0,
      ran_under _ _ None (IsWallAfter policy earlier) (IsNoWallAfter policy earlier)
          c.read_wall_after-wall.result c.run_under-hall.result ended.0
          c.read_wall_after-wall.ensures.policy c.read_wall_after-wall.ensures.ending
          c.run_under-hall.ensures (unkept _ c.run_under-hall.result ended.0 ended.1),
      ended.2,
      ended.3,
    )
