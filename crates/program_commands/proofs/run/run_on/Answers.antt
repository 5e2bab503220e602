use Rattle.std.proofs.Common.{None, Some}
use Rattle.hall_script.specs.Devices.{used}
use Rattle.program_commands.specs.Walls.{IsPolicyOf, IsNoPolicy}
use Rattle.program_commands.proofs.RankLemmas.{ran_under}
use Rattle.program_commands.proofs.ReplayLemmas.{unkept}
use Rattle.program_commands.proofs.run.run_on.Goals as goal

pub returns : goal.returns
returns g c =
    let policy = used g.P.Source.failures g.P.Source.remaining c.args.policy.now
    c.read_wall-wall.new.source in
    let book = used g.B.Sink.failures g.B.Sink.contents c.in-Some.book.now
    c.end_with_book.new.book in
    let ended = c.end_with_book.ensures in
    rw c.in-Some.is (
      ended.0,
      ran_under _ _ (Some book) (IsPolicyOf policy) (IsNoPolicy policy)
          c.read_wall-wall.result c.run_under-hall.result ended.0
          c.read_wall-wall.ensures.policy c.read_wall-wall.ensures.ending
          c.run_under-hall.ensures ended.1,
      ended.2,
      ended.3,
    )

pub returns-in_default : goal.returns-in_default
returns-in_default g c =
    let policy = used g.P.Source.failures g.P.Source.remaining c.args.policy.now
    c.read_wall-wall.new.source in
    let ended = c.end_without_book.ensures in
    rw c.in_default.is (
      ended.0,
      ran_under _ _ None (IsPolicyOf policy) (IsNoPolicy policy)
          c.read_wall-wall.result c.run_under-hall.result ended.0
          c.read_wall-wall.ensures.policy c.read_wall-wall.ensures.ending
          c.run_under-hall.ensures (unkept _ c.run_under-hall.result ended.0 ended.1),
      ended.2,
      ended.3,
    )
