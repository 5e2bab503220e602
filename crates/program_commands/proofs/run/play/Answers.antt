use Rattle.hall_script.specs.Devices.{used}
use Rattle.program_commands.proofs.RankLemmas.{broken}
use Rattle.program_commands.proofs.run.play.Goals as goal

pub returns-in-Err-written-clause-ended : goal.returns-in-Err-written-clause-ended
returns-in-Err-written-clause-ended g c =
    let run = c.in-Ok-run_scripts.run' in
    let script = used g.S.Source.failures g.S.Source.remaining c.args.stage.script.now
    c.read_scripts.new.source in
    let out = used g.O.Sink.failures g.O.Sink.contents c.args.stage.out.now
    c.write_ranks-written.new.out in
    broken c.args.wall script out c.policy.result.now c.in-Ok.scripts run.replies run.hall
    c.in-Err-written.fault c.break_ending.result
    c.in-Ok.ensures.scripts c.in-Ok-run_scripts.ensures.ran c.policy.ensures c.break_ending.ensures
    c.in-Err-written.ensures.broken
